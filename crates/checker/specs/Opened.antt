-- What checking any words gives. Assumes nothing.
use Rattle.std.specs.Prelude.{ℕ, ◌≡◌, List, Result, IfOk}
use Rattle.meaning.specs.declared.Layout.{Layout}
use Rattle.meaning.specs.declared.Refusal.{Refusal}
use Rattle.meaning.specs.Words.{layout_of}
use Rattle.meaning.specs.Refused.{number_of}
use Rattle.meaning.specs.Refusal.{refusal_of}

-- document 01's number, and the layout of a good table
pub record Opened (t : List ℕ) (r : Result Layout Refusal) : Type 0 where
  pub number : number_of r ≡ refusal_of t
  pub layout : IfOk r (λ l. l ≡ layout_of t)
