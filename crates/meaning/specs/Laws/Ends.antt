-- Where the range before one ends, as the code reads it. Assumes nothing.
use Rattle.std.specs.Prelude.{ℕ, zero, suc, ◌+◌, ◌-◌, ◌<◌, ◌≡◌, refl}
use Rattle.std.proofs.Common.{arith}
use Rattle.meaning.specs.Ranges.{end_from, end_before}

pub none_before : (first count : ℕ → ℕ) (i : ℕ) → i ≡ 0 → (0 ≡ end_before first count i) × (0 < 8589934592)
unfolding end_from
none_before first count i e = rw e (refl, omega arith)

pub one_before : (first count : ℕ → ℕ) (i a b : ℕ) → (i ≡ 0 → ⊥) → a ≡ first (i - 1) → b ≡ count (i - 1) → a < 4294967296 → b < 4294967296 → (a + b ≡ end_before first count i) × (a + b < 8589934592)
unfolding end_from
one_before first count zero a b n e d l m = absurd (n refl)
one_before first count (suc i) a b n e d l m = let k : suc i - 1 ≡ i = omega arith in (rw (← k, e, d), omega arith)
