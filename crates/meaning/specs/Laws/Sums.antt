-- Sums over lists and runs. Assumes nothing.
use Rattle.std.specs.Prelude.{ℕ, ◌+◌, ◌<◌, ◌≡◌, List, [], ◌∷◌, ◌++◌, length, get_or, take}
use Rattle.std.proofs.Common.{take-suc, add-one, add-zero, zero-add, arith}
use Rattle.meaning.specs.Ranges.{from}
use Rattle.meaning.specs.Pattern.{sum}
use Rattle.meaning.specs.Laws.Runs.{from_more}

pub sum_append : (f : ℕ → ℕ) (x y : List ℕ) → sum f (x ++ y) ≡ sum f x + sum f y
unfolding sum
sum_append f [] y = rw zero-add
sum_append f (a ∷ x) y = let e = sum_append f x y in omega arith

pub sum_one : (f : ℕ → ℕ) (a : ℕ) → sum f (a ∷ []) ≡ f a
unfolding sum
sum_one f a = add-zero (f a)

-- one more of a list, and of a run
pub sum_take : (f : ℕ → ℕ) (l : List ℕ) (x : ℕ) → x < length l → sum f (take (x + 1) l) ≡ sum f (take x l) + f (get_or l x 0)
sum_take f l x h = rw (add-one, take-suc l x 0 h, sum_append, sum_one)

pub sum_more : (f : ℕ → ℕ) (n : ℕ) → sum f (from 0 (n + 1)) ≡ sum f (from 0 n) + f n
sum_more f n = rw (from_more 0 n, sum_append, sum_one, zero-add)
