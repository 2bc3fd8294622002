use Rattle.std.proofs.Common.{◌≡◌, true}
use Rattle.meaning.specs.Refusal.{good_index_at}
use Rattle.meaning.specs.Tests.{all_below}
use Rattle.checker.proofs.index.good.Given as goal

abbrev pub invariant-loop-x : goal.invariant-loop-x
invariant-loop-x l = all_below (good_index_at l.t.words.now l.t.layout) l.x ≡ true
