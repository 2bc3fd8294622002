-- Sets as masks: union, difference, one member, and the count, over the width. Assumes nothing.
use Prim.Native.Nat.{ℕ, zero, suc, ◌+◌, ◌-◌, ◌/◌, ◌%◌, ◌^◌, ◌<◌, min, max}
use Rattle.std.specs.Prelude.{◌≡◌, Bool, true, false, not, ◌⊎◌, ◌∷◌, length}
use Rattle.std.proofs.Math.Path.{refl, ap, fun_ext}
use Rattle.std.proofs.Common.{sym, ◌∙◌, inl, inr, shr-shr, eqb-true, eq-eqb, add-zero, arith}
use Rattle.std.proofs.Math.Bool.{cond}
use Rattle.std.specs.Int.Bits.{bit_and, bit_or, and_step, or_step}
use Rattle.std.proofs.lemmas.Nat.{and_shr, or_shr}
use Rattle.std.specs.Int.Count.{ones, ones_in, ones_step}
use Rattle.std.proofs.Math.Dec.{eqb}
use Rattle.std.proofs.lemmas.Bool.{eqb-false}
use Rattle.meaning.specs.Tests.{and}
use Rattle.meaning.specs.Ranges.{from, keep}
use Rattle.meaning.specs.Masks.{bit_in, count}

-- a digit is 0 or 1
digit : (n i : ℕ) → n / 2 ^ i % 2 < 2
digit n i = omega arith

-- the digit at one more place is that of the half
half : (n i : ℕ) → n / 2 ^ suc i ≡ n / 2 / 2 ^ i
half n i = let e : 1 + i ≡ suc i = omega arith in sym (shr-shr n 1 i ∙ ap (λ k. n / 2 ^ k) e)

first_digit : (n : ℕ) → n / 2 ^ 0 ≡ n
first_digit n = omega arith

nothing : (i : ℕ) → 0 / 2 ^ i ≡ 0
nothing zero = refl
nothing (suc i) = half 0 i ∙ nothing i

and_digit : (a b i : ℕ) → bit_and a b / 2 ^ i % 2 ≡ min (a / 2 ^ i % 2) (b / 2 ^ i % 2)
and_digit a b i = let e = and_shr a b i in let s = and_step (a / 2 ^ i) (b / 2 ^ i) in rw e (rw s (omega arith))

or_digit : (a b i : ℕ) → bit_or a b / 2 ^ i % 2 ≡ max (a / 2 ^ i % 2) (b / 2 ^ i % 2)
or_digit a b i = let e = or_shr a b i in let s = or_step (a / 2 ^ i) (b / 2 ^ i) in rw e (rw s (omega arith))

-- the digits of the complement
not_digit : (w i a : ℕ) → a < 2 ^ w → i < w → (2 ^ w - 1 - a) / 2 ^ i % 2 ≡ 1 - a / 2 ^ i % 2
not_digit zero i a h l = absurd (omega arith)
not_digit (suc w) zero a h l = rw (first_digit (2 ^ suc w - 1 - a), first_digit a) (omega arith)
not_digit (suc w) (suc i) a h l =
    let e : (2 ^ suc w - 1 - a) / 2 ≡ 2 ^ w - 1 - a / 2 = omega arith in
    rw (half (2 ^ suc w - 1 - a) i, half a i, e) (not_digit w i (a / 2) (omega arith) (omega arith))

one_digit : (j i : ℕ) → (i ≡ j → ⊥) → 2 ^ j / 2 ^ i % 2 ≡ 0
one_digit zero zero n = absurd (n refl)
one_digit zero (suc i) n = rw (half (2 ^ 0) i, nothing i)
one_digit (suc j) zero n = rw (first_digit (2 ^ suc j)) (omega arith)
one_digit (suc j) (suc i) n = let e : 2 ^ suc j / 2 ≡ 2 ^ j = omega arith in rw (half (2 ^ suc j) i, e) (one_digit j i (λ q. n (ap suc q)))

own_digit : (j : ℕ) → 2 ^ j / 2 ^ j % 2 ≡ 1
own_digit zero = refl
own_digit (suc j) = let e : 2 ^ suc j / 2 ≡ 2 ^ j = omega arith in rw (half (2 ^ suc j) j, e) (own_digit j)

-- union
pub in_or : (a b i : ℕ) → bit_in (bit_or a b) i ≡ true → (bit_in a i ≡ true) ⊎ (bit_in b i ≡ true)
unfolding bit_in
in_or a b i h = go (eqb (a / 2 ^ i % 2) 1) refl
  where
    go : (t : Bool) → eqb (a / 2 ^ i % 2) 1 ≡ t → (eqb (a / 2 ^ i % 2) 1 ≡ true) ⊎ (eqb (b / 2 ^ i % 2) 1 ≡ true)
    go true e = inl e
    go false e =
        let n = eqb-false (a / 2 ^ i % 2) 1 e in let d = digit a i in let u = digit b i in
        let q = eqb-true (bit_or a b / 2 ^ i % 2) 1 h in let r = or_digit a b i in
        inr (eq-eqb _ _ (right (a / 2 ^ i % 2) (b / 2 ^ i % 2) n d u (sym r ∙ q)))
      where
        right : (x y : ℕ) → (x ≡ 1 → ⊥) → x < 2 → y < 2 → max x y ≡ 1 → y ≡ 1
        right x y n a b e = omega arith

pub or_left : (a b i : ℕ) → bit_in a i ≡ true → bit_in (bit_or a b) i ≡ true
unfolding bit_in
or_left a b i h = let e = eqb-true (a / 2 ^ i % 2) 1 h in let r = or_digit a b i in let u = digit b i in eq-eqb _ _ (r ∙ most (a / 2 ^ i % 2) (b / 2 ^ i % 2) e u)
  where
    most : (x y : ℕ) → x ≡ 1 → y < 2 → max x y ≡ 1
    most x y e h = omega arith

pub or_right : (a b i : ℕ) → bit_in b i ≡ true → bit_in (bit_or a b) i ≡ true
unfolding bit_in
or_right a b i h = let e = eqb-true (b / 2 ^ i % 2) 1 h in let r = or_digit a b i in let u = digit a i in eq-eqb _ _ (r ∙ most (a / 2 ^ i % 2) (b / 2 ^ i % 2) e u)
  where
    most : (x y : ℕ) → y ≡ 1 → x < 2 → max x y ≡ 1
    most x y e h = omega arith

-- one member
pub in_one : (j i : ℕ) → bit_in (2 ^ j) i ≡ true → i ≡ j
unfolding bit_in
in_one j i h = go (eqb i j) refl
  where
    go : (t : Bool) → eqb i j ≡ t → i ≡ j
    go true e = eqb-true i j e
    go false e = let z = one_digit j i (eqb-false i j e) in let q = eqb-true (2 ^ j / 2 ^ i % 2) 1 h in absurd (omega arith)

pub one_in : (j : ℕ) → bit_in (2 ^ j) j ≡ true
unfolding bit_in
one_in j = eq-eqb _ _ (own_digit j)

-- none
pub in_zero : (i : ℕ) → bit_in 0 i ≡ false
unfolding bit_in
in_zero i = rw (nothing i)

-- difference
pub in_without : (w a b i : ℕ) → b < 2 ^ w → i < w → bit_in (bit_and a (2 ^ w - 1 - b)) i ≡ and (bit_in a i) (not (bit_in b i))
unfolding bit_in and
in_without w a b i h l = let e = and_digit a (2 ^ w - 1 - b) i in let n = not_digit w i b h l in
    rw (e, n) (go (a / 2 ^ i % 2) (b / 2 ^ i % 2) (digit a i) (digit b i))
  where
    go : (x y : ℕ) → x < 2 → y < 2 → eqb (min x (1 - y)) 1 ≡ and (eqb x 1) (not (eqb y 1))
    go zero zero a b = refl
    go zero (suc zero) a b = refl
    go zero (suc (suc y)) a b = absurd (omega arith)
    go (suc zero) zero a b = refl
    go (suc zero) (suc zero) a b = refl
    go (suc zero) (suc (suc y)) a b = absurd (omega arith)
    go (suc (suc x)) y a b = absurd (omega arith)

-- the count of ones is the count of members
counted : (k n : ℕ) → n < 2 ^ k → ones_in k n ≡ ones n
unfolding ones_in ones
counted zero n h = let e : n ≡ 0 = omega arith in rw e
counted (suc k) n h = ap (λ (x : ℕ). n % 2 + x) (counted k (n / 2) (omega arith)) ∙ sym (ones_step n)

members : (k n : ℕ) → ones_in k n ≡ count (bit_in n) k
unfolding ones_in count
members zero n = refl
members (suc k) n = cc (lowest, members k (n / 2), rest)
  where
    lowest : n % 2 ≡ cond (bit_in n 0) 1 0
    lowest = unfold bit_in in rw (first_digit n) (go (n % 2) (omega arith))
      where
        go : (x : ℕ) → x < 2 → x ≡ cond (eqb x 1) 1 0
        go zero h = refl
        go (suc zero) h = refl
        go (suc (suc x)) h = absurd (omega arith)

    rest : count (bit_in (n / 2)) k ≡ count (λ i. bit_in n (suc i)) k
    rest = ap (λ f. count f k) (fun_ext (λ i. unfold bit_in in ap (λ z. eqb (z % 2) 1) (sym (half n i))))

pub ones_count : (w n : ℕ) → n < 2 ^ w → ones n ≡ count (bit_in n) w
ones_count w n h = sym (counted w n h) ∙ members w n

shifted : (p : ℕ → Bool) (a n : ℕ) → count (λ k. p (a + suc k)) n ≡ count (λ k. p (suc a + k)) n
shifted p a n = ap (λ f. count f n) (fun_ext (λ k. let z : a + suc k ≡ suc a + k = omega arith in ap p z))

pub count_keep : (p : ℕ → Bool) (a n : ℕ) → count (λ k. p (a + k)) n ≡ length (keep p (from a n))
unfolding count keep from
count_keep p a zero = refl
count_keep p a (suc n) = go (p a) refl (count_keep p (suc a) n)
  where
    go : (b : Bool) → p a ≡ b → count (λ k. p (suc a + k)) n ≡ length (keep p (from (suc a) n))
        → cond (p (a + 0)) 1 0 + count (λ k. p (a + suc k)) n ≡ length (cond b (a ∷ keep p (from (suc a) n)) (keep p (from (suc a) n)))
    go true e f = rw (add-zero a, e, shifted p a n) (rw f (omega arith))
    go false e f = rw (add-zero a, e, shifted p a n) (rw f (omega arith))

pub count_same : (p q : ℕ → Bool) (n : ℕ) → ((k : ℕ) → k < n → p k ≡ q k) → count p n ≡ count q n
unfolding count
count_same p q zero h = refl
count_same p q (suc n) h = cc (h 0 (omega arith), count_same (λ k. p (suc k)) (λ k. q (suc k)) n (λ k l. h (suc k) (omega arith)))
