use Rattle.meaning.specs.Refusal.{good_members_at}
use Rattle.meaning.proofs.Laws.Loops.{fails}
use Rattle.checker.proofs.nodes.good_members_at.Goals as goal

pub returns-then-not-good_member_at : goal.returns-then-not-good_member_at
unfolding good_members_at
returns-then-not-good_member_at c = rw (← c.count_at-k-end.ensures.0) (search fails)
