-- Laws of ascending lists. Assumes nothing.
use Rattle.std.specs.Prelude.{ℕ, zero, suc, ◌+◌, ◌-◌, ◌<◌, ◌≡◌, refl, List, [], ◌∷◌, map, ◌⊎◌, Bool, true, false, cond, length, get_or}
use Rattle.std.proofs.Common.{sym, ap, ◌∙◌, inl, inr, ⊎_elim, arith}
use mathlib.Core.List.Memᴰ.{cases_cons, head, not-nil, tail}
use mathlib.Core.List.{Memᴰ as Mem}
use Rattle.meaning.specs.Lists.{NoDup, empty, more, Ascends, none, one, then}
use Rattle.meaning.specs.Ranges.{from, keep}
use Rattle.meaning.specs.Laws.Runs.{mem_keep}

pub lt_lt : (a b c : ℕ) → a < b → b < c → a < c
lt_lt a b c p q = omega arith

-- a function that rises at each step of a run
pub ascends_run : {A : Type 0} {R : A → A → Type 0} (f : ℕ → A) (a n : ℕ) → ((i : ℕ) → suc i < n → R (f (a + i)) (f (a + suc i))) → Ascends R (map f (from a n))
unfolding from
ascends_run f a zero h = none
ascends_run f a (suc zero) h = one
ascends_run {R = R} f a (suc (suc n)) h = then (first (h 0 (omega arith))) (ascends_run f (suc a) (suc n) (λ i l. later i (h (suc i) (omega arith))))
  where
    first : R (f (a + 0)) (f (a + 1)) → R (f a) (f (suc a))
    first r = let e : a + 0 ≡ a = omega arith in let g : a + 1 ≡ suc a = omega arith in rw (e, g) at r

    later : (i : ℕ) → R (f (a + suc i)) (f (a + suc (suc i))) → R (f (suc a + i)) (f (suc a + suc i))
    later i r = let e : a + suc i ≡ suc a + i = omega arith in let g : a + suc (suc i) ≡ suc a + suc i = omega arith in rw (e, g) at r

-- what rises at each step rises over any stretch
pub rises_past : {A : Type 0} {R : A → A → Type 0} → ((x y z : A) → R x y → R y z → R x z) → (f : ℕ → A) (n : ℕ) → ((i : ℕ) → suc i < n → R (f i) (f (suc i)))
    → (x y : ℕ) → x < y → y < n → R (f x) (f y)
rises_past {A} {R} tr f n h x y a b = let e : x + suc (y - suc x) ≡ y = omega arith in rw e at (go (y - suc x) (omega arith))
  where
    go : (d : ℕ) → x + suc d < n → R (f x) (f (x + suc d))
    go zero b = let e : x + 1 ≡ suc x = omega arith in rw e (h x (omega arith))
    go (suc d) b = let e : x + suc (suc d) ≡ suc (x + suc d) = omega arith in rw e (tr _ _ _ (go d (omega arith)) (h (x + suc d) (omega arith)))

-- each is related to all that come later
pub ascends_past : {A : Type 0} {R : A → A → Type 0} → ((x y z : A) → R x y → R y z → R x z) → {x : A} {l : List A} → Ascends R (x ∷ l) → (y : A) → Mem y l → R x y
ascends_past tr one y m = absurd (not-nil m)
ascends_past {R = R} tr (then {x = x} {y = z} {l = l} r a) y m = ⊎_elim (λ e. rw e r) (λ k. tr x z y r (ascends_past tr a y k)) (cases_cons m)

pub ascends_tail : {A : Type 0} {R : A → A → Type 0} {x : A} {l : List A} → Ascends R (x ∷ l) → Ascends R l
ascends_tail one = none
ascends_tail (then r a) = a

pub ascends_cons : {A : Type 0} {R : A → A → Type 0} (x : A) (l : List A) → ((y : A) → Mem y l → R x y) → Ascends R l → Ascends R (x ∷ l)
ascends_cons x [] h a = one
ascends_cons x (y ∷ l) h a = then (h y (head refl)) a

-- nothing stands twice
pub ascends_once : {A : Type 0} {R : A → A → Type 0} → ((x y z : A) → R x y → R y z → R x z) → ((x : A) → R x x → ⊥) → {l : List A} → Ascends R l → NoDup l
ascends_once tr ir none = empty
ascends_once tr ir one = more (λ m. not-nil m) empty
ascends_once tr ir (then {x = x} {y = y} {l = l} r a) = more (λ m. ir x (ascends_past tr (then r a) x m)) (ascends_once tr ir a)

-- what is kept of an ascending list ascends
pub keep_ascends : {A : Type 0} {R : A → A → Type 0} → ((x y z : A) → R x y → R y z → R x z) → (p : A → Bool) (l : List A) → Ascends R l → Ascends R (keep p l)
unfolding keep
keep_ascends tr p [] a = none
keep_ascends {A} {R} tr p (x ∷ l) a = go (p x) (keep_ascends tr p l (ascends_tail a))
  where
    go : (b : Bool) → Ascends R (keep p l) → Ascends R (cond b (x ∷ keep p l) (keep p l))
    go true k = ascends_cons x (keep p l) (λ y m. ascends_past tr a y (mem_keep p l m).0) k
    go false k = k

-- two rising lists with the same members are the same
pub rising_same : (x y : List ℕ) → Ascends (λ a b. a < b) x → Ascends (λ a b. a < b) y → ((v : ℕ) → Mem v x → Mem v y) → ((v : ℕ) → Mem v y → Mem v x) → x ≡ y
rising_same [] [] a b f g = refl
rising_same [] (v ∷ y) a b f g = absurd (not-nil (g v (head refl)))
rising_same (u ∷ x) [] a b f g = absurd (not-nil (f u (head refl)))
rising_same (u ∷ x) (v ∷ y) a b f g = ap (λ w. w ∷ x) heads ∙ ap (λ l. v ∷ l) (rising_same x y (ascends_tail a) (ascends_tail b) (λ w m. skip w (ascends_past lt_lt a w m) (cases_cons (f w (tail m)))) (λ w m. skip2 w (ascends_past lt_lt b w m) (cases_cons (g w (tail m)))))
  where
    heads : u ≡ v
    heads = ⊎_elim (λ e. e) (λ m. ⊎_elim (λ e. sym e) (λ k. absurd (let p = ascends_past lt_lt b u m in let q = ascends_past lt_lt a v k in omega arith)) (cases_cons (g v (head refl)))) (cases_cons (f u (head refl)))

    skip : (w : ℕ) → u < w → (w ≡ v) ⊎ Mem w y → Mem w y
    skip w l (inl e) = let h = heads in absurd (omega arith)
    skip w l (inr m) = m

    skip2 : (w : ℕ) → v < w → (w ≡ u) ⊎ Mem w x → Mem w x
    skip2 w l (inl e) = let h = heads in absurd (omega arith)
    skip2 w l (inr m) = m

-- a rising list rises at each place
pub ascends_at : {A : Type 0} {R : A → A → Type 0} (d : A) (l : List A) → Ascends R l → (i : ℕ) → suc i < length l → R (get_or l i d) (get_or l (suc i) d)
ascends_at d [] a i h = absurd (omega arith)
ascends_at d (x ∷ []) a i h = absurd (omega arith)
ascends_at {R = R} d (x ∷ y ∷ l) a zero h = first a
  where
    first : Ascends R (x ∷ y ∷ l) → R x y
    first (then r a) = r
ascends_at d (x ∷ y ∷ l) a (suc i) h = ascends_at d (y ∷ l) (ascends_tail a) i (omega arith)
