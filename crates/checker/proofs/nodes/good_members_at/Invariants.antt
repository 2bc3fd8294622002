use Rattle.std.proofs.Common.{◌≡◌, true}
use Rattle.meaning.specs.Refusal.{good_member_at}
use Rattle.meaning.specs.Tests.{all_below}
use Rattle.checker.proofs.nodes.good_members_at.Given as goal

abbrev pub invariant-loop-k : goal.invariant-loop-k
invariant-loop-k l = all_below (good_member_at l.t.words.now l.t.layout l.j) l.k ≡ true
