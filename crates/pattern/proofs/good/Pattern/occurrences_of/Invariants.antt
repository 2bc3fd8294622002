use Rattle.std.proofs.Common.{ℕ, ◌+◌, ◌≡◌, List, take}
use Rattle.meaning.specs.Pattern.{sum, occ}
use Rattle.meaning.specs.PatternWords.{pattern_of}
use Rattle.pattern.specs.Counts.{capped}
use Rattle.pattern.proofs.good.Pattern.occurrences_of.Given as goal

-- of the first x children
abbrev pub so_far : List ℕ → List ℕ → ℕ → ℕ
so_far w cs x = 1 + sum (occ (pattern_of w)) (take x cs)

abbrev pub invariant-loop-c : goal.invariant-loop-c
invariant-loop-c l = l.total ≡ capped (so_far l.self.parts.words.now l.c-items l.c-index)
