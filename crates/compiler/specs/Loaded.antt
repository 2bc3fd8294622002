-- The weights of a pattern's nodes: their sets of variables and their sizes. Assumes nothing.
use Rattle.std.specs.Prelude.{ℕ, ◌<◌, ◌≤◌, ◌≡◌, List}
use mathlib.Core.List.{Memᴰ as Mem}
use Rattle.meaning.specs.Words.{word}
use Rattle.meaning.specs.Pattern.{size, free}
use Rattle.meaning.specs.PatternWords.{pattern_of}
use Rattle.meaning.specs.Search.Window.{Places}
use Rattle.compiler.specs.declared.load.Weight.{Weight}
use Rattle.compiler.specs.Lists.{weight_at}

-- no node is larger than a good pattern can be
abbrev pub Few : List ℕ → Type 0
Few w = (i : ℕ) → i < word w 0 → size (pattern_of w) i ≤ 256

-- the sizes of the first n nodes
abbrev pub SizedTo : List ℕ → List Weight → ℕ → Type 0
SizedTo w weights n = (i : ℕ) → i < n → (weight_at weights i).size ≡ size (pattern_of w) i

-- the variables of the first n nodes
abbrev pub FreeTo : List ℕ → List Weight → ℕ → Type 0
FreeTo w weights n = (i : ℕ) → i < n → Places w (weight_at weights i).free (λ v. Mem v (free (pattern_of w) i))

pub record Loaded (w : List ℕ) (weights : List Weight) : Type 0 where
  pub sizes : SizedTo w weights (word w 0)
  pub sets : FreeTo w weights (word w 0)
