use Rattle.std.proofs.Common.{ℕ, ◌-◌, ◌≤◌, ◌≡◌, List, arith}
use Rattle.meaning.specs.Pattern.{occurrences}
use Rattle.meaning.specs.PatternWords.{pattern_of}
use Rattle.meaning.specs.Words.{word}
use Rattle.meaning.proofs.Laws.Patterns.{pattern_length}
use Rattle.pattern.specs.Counts.{capped, CountedTo}
use Rattle.pattern.proofs.good.Pattern.occurrences.Goals as goal

-- the root is the last node
last : (w known : List ℕ) (n i : ℕ) → n ≡ word w 0 → 1 ≤ n → n ≤ i → CountedTo w known i → word known (n - 1) ≡ capped (occurrences (pattern_of w))
unfolding occurrences
last w known n i e h l f = rw (pattern_length w, ← e) (f (n - 1) (omega arith))

pub returns : goal.returns
returns c = let l = c.args.self.now.parts.laid in last _ c.loop-i.known _ _ l.counted.nodes l.some c.loop-i-test.false c.loop-i.invariant.1
