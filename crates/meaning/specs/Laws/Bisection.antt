-- Bisection for the first number at which a test fails, and what the first is. Assumes nothing.
use Rattle.std.specs.Prelude.{ℕ, zero, suc, ◌+◌, ◌<◌, ◌≤◌, ◌≡◌, refl, Bool, true, false, cond}
use Rattle.std.proofs.Common.{sym, ap, ◌∙◌, ⊎_elim, arith, eq-or-lt_of_le}
use Rattle.meaning.specs.Tests.{apart, not_true_false}
use Rattle.meaning.specs.Ranges.{leading}

-- where it holds, it holds at all numbers before
abbrev pub Falling : (ℕ → Bool) → ℕ → Type 0
Falling p n = (j k : ℕ) → j < k → k < n → p k ≡ true → p j ≡ true

-- the answer lies from lo to hi
pub record Bracket (p : ℕ → Bool) (n lo hi : ℕ) : Type 0 where
  pub low : lo ≤ hi
  pub high : hi ≤ n
  pub below : (k : ℕ) → k < lo → p k ≡ true
  pub above : (k : ℕ) → hi ≤ k → k < n → p k ≡ false

-- the first that fails is the one before which all hold
pub leading_is : (p : ℕ → Bool) (n r : ℕ) → r ≤ n → ((k : ℕ) → k < r → p k ≡ true) → (r < n → p r ≡ false) → r ≡ leading p n
unfolding leading
leading_is p zero r h b a = omega arith
leading_is p (suc n) zero h b a = rw (a (omega arith))
leading_is p (suc n) (suc r) h b a = rw (b 0 (omega arith)) (ap suc (leading_is (λ k. p (suc k)) n r (omega arith) (λ k l. b (suc k) (omega arith)) (λ l. a (omega arith))))

pub leading_le : (p : ℕ → Bool) (n : ℕ) → leading p n ≤ n
unfolding leading
leading_le p zero = omega arith
leading_le p (suc n) = go (p 0) (leading_le (λ k. p (suc k)) n)
  where
    go : (b : Bool) → leading (λ k. p (suc k)) n ≤ n → cond b (suc (leading (λ k. p (suc k)) n)) 0 ≤ suc n
    go true h = omega arith
    go false h = omega arith

pub leading_holds : (p : ℕ → Bool) (n k : ℕ) → k < leading p n → p k ≡ true
unfolding leading
leading_holds p zero k h = absurd (omega arith)
leading_holds p (suc n) k h = go (p 0) refl k h (λ j l. leading_holds (λ i. p (suc i)) n j l)
  where
    go : (b : Bool) → p 0 ≡ b → (k : ℕ) → k < cond b (suc (leading (λ i. p (suc i)) n)) 0 → ((j : ℕ) → j < leading (λ i. p (suc i)) n → p (suc j) ≡ true) → p k ≡ true
    go true e zero h f = e
    go true e (suc k) h f = f k (omega arith)
    go false e k h f = absurd (omega arith)

pub leading_fails : (p : ℕ → Bool) (n : ℕ) → leading p n < n → p (leading p n) ≡ false
unfolding leading
leading_fails p zero h = absurd (omega arith)
leading_fails p (suc n) h = go (p 0) refl h (leading_fails (λ k. p (suc k)) n)
  where
    go : (b : Bool) → p 0 ≡ b → cond b (suc (leading (λ k. p (suc k)) n)) 0 < suc n → (leading (λ k. p (suc k)) n < n → p (suc (leading (λ k. p (suc k)) n)) ≡ false) → p (cond b (suc (leading (λ k. p (suc k)) n)) 0) ≡ false
    go true e h f = f (omega arith)
    go false e h f = e

module _ (p : ℕ → Bool) (n : ℕ) where
  -- past the first that fails all fail
  pub leading_past : Falling p n → (k : ℕ) → leading p n ≤ k → k < n → p k ≡ false
  leading_past f k l h = ⊎_elim (λ e. rw (← e) (leading_fails p n (omega arith))) (λ g. not_true_false (p k) (λ t. apart (sym (f (leading p n) k g h t) ∙ leading_fails p n (omega arith)))) (eq-or-lt_of_le l)

  pub bracket_start : Bracket p n 0 n
  bracket_start = record { low = omega arith; high = omega arith; below = λ k h. absurd (omega arith); above = λ k a b. absurd (omega arith) }

  module _ (f : Falling p n) {lo hi : ℕ} (b : Bracket p n lo hi) (mid : ℕ) (l : lo ≤ mid) (h : mid < hi) where
    pub bracket_up : p mid ≡ true → Bracket p n (mid + 1) hi
    bracket_up e = let g = b.high in record {
      low = omega arith;
      high = b.high;
      below = λ k c. ⊎_elim (λ q. rw q e) (λ q. f k mid q (omega arith) e) (eq-or-lt_of_le (upto k c));
      above = b.above;
    }
      where
        upto : (k : ℕ) → k < mid + 1 → k ≤ mid
        upto k c = omega arith

    pub bracket_down : p mid ≡ false → Bracket p n lo mid
    bracket_down e = let g = b.high in record {
      low = l;
      high = omega arith;
      below = b.below;
      above = λ k c d. ⊎_elim (λ q. rw (← q) e) (λ q. not_true_false (p k) (λ t. apart (sym (f mid k q d t) ∙ e))) (eq-or-lt_of_le c);
    }

  pub bracket_met : {lo hi : ℕ} → Bracket p n lo hi → hi ≤ lo → lo ≡ leading p n
  bracket_met {lo} {hi} b h = let l = b.low in let g = b.high in leading_is p n lo (omega arith) b.below (λ c. b.above lo (omega arith) c)
