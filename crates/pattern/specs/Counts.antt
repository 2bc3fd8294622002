-- Occurrences counted up to one past the limit. Assumes nothing.
use Rattle.std.specs.Prelude.{ℕ, ◌<◌, min, ◌≡◌, List}
use Rattle.meaning.specs.Words.{word}
use Rattle.meaning.specs.Pattern.{occ}
use Rattle.meaning.specs.PatternWords.{pattern_of}

-- at most 257: whatever is more is over the limit
abbrev pub capped : ℕ → ℕ
capped n = min 257 n

-- the occurrences of the first n nodes
abbrev pub CountedTo : List ℕ → List ℕ → ℕ → Type 0
CountedTo w known n = (i : ℕ) → i < n → word known i ≡ capped (occ (pattern_of w) i)
