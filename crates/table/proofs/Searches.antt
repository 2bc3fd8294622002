-- Where a search by halving of what rises ends in a gap, what is searched is nowhere. Assumes nothing.
use Rattle.std.proofs.Common.{ℕ, ◌-◌, ◌<◌, ◌≤◌, ◌≡◌, Bool, true, false, Ordering, Less, Greater, ltb, refl, arith, ⊎_elim, eq-or-lt_of_le, ltb-true, ltb-false}
use Rattle.std.specs.Ordering.{MatchOrdering}
use Rattle.words.specs.Stops.{Gap}

module _ {A : Type 0} {R : A → A → Type 0} (tr : (x y z : A) → R x y → R y z → R x z) (ir : (x : A) → R x x → ⊥) (f : ℕ → A) (n : ℕ) (rise : (x y : ℕ) → x < y → y < n → R (f x) (f y)) (v : A)
    {side : ℕ → Ordering → Type 0} (tells : (k : ℕ) (o : Ordering) → side k o → MatchOrdering o (R (f k) v) (f k ≡ v) (R v (f k))) where
  pub nowhere : (m : ℕ) → Gap side n m → (k : ℕ) → k < n → f k ≡ v → ⊥
  nowhere m g k h e = go (ltb k m) refl
    where
      go : (b : Bool) → ltb k m ≡ b → ⊥
      go true p =
          let w = g.within in let q = ltb-true k m p in
          let r : R (f (m - 1)) v = tells (m - 1) Less (g.before (m - 1) (omega arith)) in
          let u : k ≤ m - 1 = omega arith in
          ⊎_elim (λ d. ir v (rw (← d, e) at r)) (λ d. ir v (tr _ _ _ (rw e at (rise k (m - 1) d (omega arith))) r)) (eq-or-lt_of_le u)
      go false p =
          let q = ltb-false k m p in
          let r : R v (f m) = tells m Greater (g.after (omega arith)) in
          ⊎_elim (λ d. ir v (rw e at (rw d at r))) (λ d. ir v (tr _ _ _ r (rw e at (rise m k d h)))) (eq-or-lt_of_le q)
