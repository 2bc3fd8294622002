use Rattle.meaning.specs.Refusal.{good_index}
use Rattle.meaning.proofs.Laws.Loops.{fails}
use Rattle.checker.proofs.index.good.Goals as goal

pub returns-then-not-good_at : goal.returns-then-not-good_at
unfolding good_index
returns-then-not-good_at c = search fails
