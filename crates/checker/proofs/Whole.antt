-- What the tests of a header told. Assumes nothing.
use Rattle.std.proofs.Common.{ℕ, ◌≡◌, Bool, true, List, sym, ◌∙◌}
use Rattle.meaning.specs.declared.Layout.{Layout}
use Rattle.meaning.specs.Words.{layout_of}
use Rattle.meaning.specs.Good.{Limits, Placed}
use Rattle.meaning.specs.Refusal.{good_limits, good_shape}
use Rattle.meaning.proofs.Laws.Rules.{limits, shape}
use Rattle.meaning.proofs.Laws.Tables.{placed}

pub counted : (t : List ℕ) (g : Bool) → g ≡ good_limits t → g ≡ true → Limits t
counted t g e f = limits t (sym e ∙ f)

pub stands : (t : List ℕ) (g s : Bool) (l : Layout) → g ≡ good_limits t → g ≡ true → s ≡ good_shape t → s ≡ true → l ≡ layout_of t → Placed t l
stands t g s l e f d y m = rw m (placed t (counted t g e f) (shape t (sym d ∙ y)))
