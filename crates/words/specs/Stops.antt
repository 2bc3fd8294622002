-- Where a search by halving stops. Assumes nothing.
use Rattle.std.specs.Prelude.{ℕ, ◌+◌, ◌<◌, ◌≤◌, ◌≡◌, Result, Ok, Err}
use Rattle.std.specs.declared.cmp.Ordering.{Ordering}
use Rattle.std.specs.declared.cmp.Ordering.TheVariants.{Less, Equal, Greater}

-- the number m below n has what is searched
pub record Hit (side : ℕ → Ordering → Type 0) (n m : ℕ) : Type 0 where
  pub within : m < n
  pub equal : side m Equal

-- the number before m, if there is one, lies below what is searched, and m, if it is below n, above it
pub record Gap (side : ℕ → Ordering → Type 0) (n m : ℕ) : Type 0 where
  pub within : m ≤ n
  pub before : (k : ℕ) → k + 1 ≡ m → side k Less
  pub after : m < n → side m Greater

abbrev pub Stops : (ℕ → Ordering → Type 0) → ℕ → Result ℕ ℕ → Type 0
Stops side n (Ok m) = Hit side n m
Stops side n (Err m) = Gap side n m
