-- Tests that compute, and the facts that they stand for. Assumes nothing.
use Rattle.std.specs.Prelude.{ℕ, zero, suc, ◌+◌, ◌<◌, ◌≡◌, refl, List, [], ◌∷◌, Bool, true, false, eqb, Option, None, Some}
use Rattle.std.proofs.Common.{sym, ap, ◌∙◌, ⊎_elim, add-one, arith, eq-or-lt_of_le, le_of_suc-le-suc, eqb-true, eq-eqb}

unfoldable pub and : Bool → Bool → Bool
and true b = b
and false b = false

-- p holds of each number below n
unfoldable pub all_below : (ℕ → Bool) → ℕ → Bool
all_below p zero = true
all_below p (suc n) = and (p n) (all_below p n)

-- two lists of numbers are the same
unfoldable pub same_list : List ℕ → List ℕ → Bool
same_list [] [] = true
same_list [] (b ∷ y) = false
same_list (a ∷ x) [] = false
same_list (a ∷ x) (b ∷ y) = and (eqb a b) (same_list x y)

pub and_left : (a b : Bool) → and a b ≡ true → a ≡ true
unfolding and
and_left true b h = refl
and_left false b h = h

pub and_right : (a b : Bool) → and a b ≡ true → b ≡ true
unfolding and
and_right true b h = h
and_right false b h = cc

pub and_both : {a b : Bool} → a ≡ true → b ≡ true → and a b ≡ true
unfolding and
and_both p q = rw (p, q)

-- a conjunction fails where a part does
pub and_fails_left : {a : Bool} (b : Bool) → a ≡ false → and a b ≡ false
unfolding and
and_fails_left b p = rw p

pub and_fails_right : (a : Bool) {b : Bool} → b ≡ false → and a b ≡ false
unfolding and
and_fails_right true p = p
and_fails_right false p = refl

-- true is not false
pub apart : {A : Type 0} → true ≡ false → A
apart {A} e = absurd (let z : ◌≡◌ {A = ℕ} 0 1 = cc in omega arith)

-- a test that is not true is false
pub not_true_false : (b : Bool) → (b ≡ true → ⊥) → b ≡ false
not_true_false true n = absurd (n refl)
not_true_false false n = refl

-- the loop's step, as the code counts
pub all_more : (p : ℕ → Bool) (n : ℕ) → p n ≡ true → all_below p n ≡ true → all_below p (n + 1) ≡ true
unfolding all_below and
all_more p n h l = rw (add-one, h) l

-- each number below n
pub all_at : (p : ℕ → Bool) (n : ℕ) → all_below p n ≡ true → (k : ℕ) → k < n → p k ≡ true
unfolding all_below and
all_at p zero h k l = absurd (omega arith)
all_at p (suc n) h k l = ⊎_elim
    (λ e. rw e (and_left (p n) (all_below p n) h))
    (λ lt. all_at p n (and_right (p n) (all_below p n) h) k lt)
    (eq-or-lt_of_le (le_of_suc-le-suc l))

-- one that fails
pub all_fails : (p : ℕ → Bool) (n k : ℕ) → k < n → p k ≡ false → all_below p n ≡ false
all_fails p n k l f = not_true_false (all_below p n) (λ e. apart (sym (all_at p n e k l) ∙ f))

-- and back
pub all_of : (p : ℕ → Bool) (n : ℕ) → ((k : ℕ) → k < n → p k ≡ true) → all_below p n ≡ true
unfolding all_below and
all_of p zero h = refl
all_of p (suc n) h = and_both (h n (omega arith)) (all_of p n (λ k l. h k (omega arith)))

pub same_true : (x y : List ℕ) → same_list x y ≡ true → x ≡ y
unfolding same_list
same_true [] [] h = refl
same_true [] (b ∷ y) h = cc
same_true (a ∷ x) [] h = cc
same_true (a ∷ x) (b ∷ y) h = cc (eqb-true a b (and_left _ _ h), same_true x y (and_right _ _ h))

pub same_refl : (x : List ℕ) → same_list x x ≡ true
unfolding same_list
same_refl [] = refl
same_refl (a ∷ x) = and_both (eq-eqb a a refl) (same_refl x)

pub same_is : (x y : List ℕ) → x ≡ y → same_list x y ≡ true
same_is x y e = rw e (same_refl y)

-- the answer is the class c
unfoldable pub is_class : Option ℕ → ℕ → Bool
is_class None c = false
is_class (Some d) c = eqb d c

pub class_true : (o : Option ℕ) (c : ℕ) → is_class o c ≡ true → o ≡ Some c
unfolding is_class
class_true None c h = cc
class_true (Some d) c h = ap Some (eqb-true d c h)

pub class_is : (o : Option ℕ) (c : ℕ) → o ≡ Some c → is_class o c ≡ true
unfolding is_class
class_is o c e = rw e (eq-eqb c c refl)
