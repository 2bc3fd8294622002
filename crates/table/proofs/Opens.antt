-- What is known of words that pass the check. Assumes nothing.
use Rattle.std.proofs.Common.{ℕ, ◌≡◌, List, Result, Ok, sym, ap, ◌∙◌}
use Rattle.std.proofs.lemmas.Result.{IfOk-at_ok}
use Rattle.meaning.specs.declared.Layout.{Layout}
use Rattle.meaning.specs.declared.Refusal.{Refusal}
use Rattle.meaning.specs.Words.{layout_of}
use Rattle.meaning.specs.Refused.{number_of}
use Rattle.meaning.specs.Good.{Sound}
use Rattle.meaning.proofs.Laws.Tables.{good_sound}
use Rattle.meaning.proofs.Laws.Numbering.{zero_good}
use Rattle.checker.specs.Opened.{Opened}

pub passed_sound : (t : List ℕ) (l : Layout) (r : Result Layout Refusal) → Opened t r → r ≡ Ok l → Sound t l
passed_sound t l r o e = rw (IfOk-at_ok (λ k. k ≡ layout_of t) e o.layout) (good_sound t ((zero_good t).0 (sym o.number ∙ ap number_of e)))
