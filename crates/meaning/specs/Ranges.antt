-- Runs of numbers, what is kept of a list, and ranges that join end to end. Assumes nothing.
use Rattle.std.specs.Prelude.{ℕ, zero, suc, ◌+◌, List, [], ◌∷◌, Bool, cond}

-- a, a + 1, .., n of them
unfoldable pub from : ℕ → ℕ → List ℕ
from a zero = []
from a (suc n) = a ∷ from (suc a) n

-- those that pass the test
unfoldable pub keep : {A : Type 0} → (A → Bool) → List A → List A
keep p [] = []
keep p (a ∷ l) = let r = keep p l in cond (p a) (a ∷ r) r

-- where the range before the i-th ends: at the base before the first
unfoldable pub end_from : ℕ → (ℕ → ℕ) → (ℕ → ℕ) → ℕ → ℕ
end_from base first count zero = base
end_from base first count (suc i) = first i + count i

abbrev pub end_before : (ℕ → ℕ) → (ℕ → ℕ) → ℕ → ℕ
end_before = end_from 0

-- how many of p 0, p 1, .. hold before the first that does not, at most n
unfoldable pub leading : (ℕ → Bool) → ℕ → ℕ
leading p zero = 0
leading p (suc n) = let r = leading (λ k. p (suc k)) n in cond (p 0) (suc r) 0
