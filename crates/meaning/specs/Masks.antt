-- A number as a set of numbers, by its binary digits. Assumes nothing.
use Rattle.std.specs.Prelude.{ℕ, zero, suc, ◌+◌, ◌/◌, ◌%◌, ◌^◌, Bool, cond, eqb}

-- i is in the set m
unfoldable pub bit_in : ℕ → ℕ → Bool
bit_in m i = eqb (m / 2 ^ i % 2) 1

-- how many numbers below n pass
unfoldable pub count : (ℕ → Bool) → ℕ → ℕ
count p zero = 0
count p (suc n) = cond (p 0) 1 0 + count (λ k. p (suc k)) n
