-- What checking any words gives. Assumes nothing.
use Rattle.std.specs.Prelude.{ℕ, ◌≡◌, List, Result, IfOk}
use Rattle.meaning.specs.declared.Refusal.{Refusal}
use Rattle.meaning.specs.Refused.{number_of}
use Rattle.meaning.specs.Pattern.{occurrences}
use Rattle.meaning.specs.PatternWords.{pattern_of}
use Rattle.meaning.specs.PatternRefusal.{pattern_refusal}
use Rattle.pattern.specs.Laid.{Counted}
use Rattle.pattern.specs.declared.Checked.{Checked}

-- a good pattern's words, counts and occurrences
pub record Found (w : List ℕ) (c : Checked) : Type 0 where
  pub words : c.pattern.parts.words.now ≡ w
  pub counted : Counted w c.pattern.parts.counts
  pub occurrences : c.occurrences ≡ occurrences (pattern_of w)

-- document 01's number, and what is found where that is 0
pub record Opened (w : List ℕ) (r : Result Checked Refusal) : Type 0 where
  pub number : number_of r ≡ pattern_refusal w
  pub found : IfOk r (Found w)
