use Rattle.std.proofs.Common.{length, ◌≡◌}
use Rattle.pattern.specs.Counts.{CountedTo}
use Rattle.pattern.proofs.good.Pattern.occurrences.Given as goal

abbrev pub invariant-loop-i : goal.invariant-loop-i
invariant-loop-i l = (length l.known ≡ 64) × CountedTo l.self.parts.words.now l.known l.i
