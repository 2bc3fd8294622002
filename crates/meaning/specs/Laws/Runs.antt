-- Laws of runs of numbers, and of what is kept of a list. Assumes nothing.
use Rattle.std.specs.Prelude.{ℕ, zero, suc, ◌+◌, ◌<◌, ◌≤◌, ◌≡◌, refl, List, [], ◌∷◌, ◌++◌, map, ◌⊎◌, Bool, true, false, cond, length, get_or}
use Rattle.std.proofs.Common.{sym, ap, ◌∙◌, inl, inr, ⊎_elim, add-zero, zero-add, eq-or-lt_of_le, arith}
use mathlib.Core.List.Memᴰ.{cases_cons, head, not-nil, tail}
use mathlib.Core.List.{Memᴰ as Mem}
use Rattle.meaning.specs.Tests.{apart}
use Rattle.meaning.specs.Lists.{NoDup, empty, more, map_append}
use Rattle.meaning.specs.Ranges.{from, keep}

pub from_length : (a n : ℕ) → length (from a n) ≡ n
unfolding from
from_length a zero = refl
from_length a (suc n) = ap suc (from_length (suc a) n)

pub from_add : (a n m : ℕ) → from a (n + m) ≡ from a n ++ from (a + n) m
unfolding from
from_add a zero m = rw (zero-add, add-zero)
from_add a (suc n) m =
    let e : suc n + m ≡ suc (n + m) = omega arith in
    let f : a + suc n ≡ suc a + n = omega arith in
    rw (e, f) (ap (λ l. a ∷ l) (from_add (suc a) n m))

-- one more, at the end
pub from_more : (a n : ℕ) → from a (n + 1) ≡ from a n ++ ((a + n) ∷ [])
unfolding from
from_more a n = from_add a n 1

pub from_mem : (a n x : ℕ) → a ≤ x → x < a + n → Mem x (from a n)
unfolding from
from_mem a zero x l h = absurd (omega arith)
from_mem a (suc n) x l h = ⊎_elim head (λ g. tail (from_mem (suc a) n x g (omega arith))) (first l)
  where
    first : a ≤ x → (x ≡ a) ⊎ (suc a ≤ x)
    first l = ⊎_elim (λ e. inl (sym e)) inr (eq-or-lt_of_le l)

pub mem_from : (a n : ℕ) {x : ℕ} → Mem x (from a n) → (a ≤ x) × (x < a + n)
unfolding from
mem_from a zero m = absurd (not-nil m)
mem_from a (suc n) {x} m = ⊎_elim (λ e. here e) (λ k. later (mem_from (suc a) n k)) (cases_cons m)
  where
    here : x ≡ a → (a ≤ x) × (x < a + suc n)
    here e = omega arith

    later : (suc a ≤ x) × (x < suc a + n) → (a ≤ x) × (x < a + suc n)
    later p = omega arith

pub map_length : {A : Type 0} (f : ℕ → A) (a n : ℕ) → length (map f (from a n)) ≡ n
unfolding from
map_length f a zero = refl
map_length f a (suc n) = ap suc (map_length f (suc a) n)

-- what stands at each place
pub map_at : {A : Type 0} (f : ℕ → A) (d : A) (a n i : ℕ) → i < n → get_or (map f (from a n)) i d ≡ f (a + i)
unfolding from
map_at f d a zero i h = absurd (omega arith)
map_at f d a (suc n) zero h = rw add-zero
map_at f d a (suc n) (suc i) h = let e : a + suc i ≡ suc a + i = omega arith in rw e (map_at f d (suc a) n i (omega arith))

pub map_more : {A : Type 0} (f : ℕ → A) (a n : ℕ) → map f (from a (n + 1)) ≡ map f (from a n) ++ (f (a + n) ∷ [])
map_more f a n = rw (from_more a n) (map_append f (from a n) ((a + n) ∷ []))

pub map_add : {A : Type 0} (f : ℕ → A) (a n m : ℕ) → map f (from a (n + m)) ≡ map f (from a n) ++ map f (from (a + n) m)
map_add f a n m = rw (from_add a n m) (map_append f (from a n) (from (a + n) m))

pub mem_run : {A : Type 0} (f : ℕ → A) (a n : ℕ) {y : A} → Mem y (map f (from a n)) → (i : ℕ) × (i < n) × (y ≡ f (a + i))
unfolding from
mem_run f a zero m = absurd (not-nil m)
mem_run f a (suc n) {y} m = ⊎_elim (λ e. (0, omega arith, rw add-zero e)) (λ k. later (mem_run f (suc a) n k)) (cases_cons m)
  where
    later : ((i : ℕ) × (i < n) × (y ≡ f (suc a + i))) → (i : ℕ) × (i < suc n) × (y ≡ f (a + i))
    later p = let (i, l, e) = p in let g : a + suc i ≡ suc a + i = omega arith in (suc i, omega arith, rw g e)

pub run_mem : {A : Type 0} (f : ℕ → A) (a n i : ℕ) → i < n → Mem (f (a + i)) (map f (from a n))
unfolding from
run_mem f a zero i h = absurd (omega arith)
run_mem f a (suc n) zero h = head {x = f a} (ap f (add-zero a))
run_mem f a (suc n) (suc i) h = let e : a + suc i ≡ suc a + i = omega arith in rw e (tail (run_mem f (suc a) n i (omega arith)))

-- a function that differs at each place meets nothing twice
pub run_once : {A : Type 0} (f : ℕ → A) (n : ℕ) → ((x y : ℕ) → x < n → y < n → f x ≡ f y → x ≡ y) → NoDup (map f (from 0 n))
unfolding from
run_once {A} f n differ = go 0 n (λ x h. omega arith)
  where
    go : (a m : ℕ) → ((x : ℕ) → x < m → a + x < n) → NoDup (map f (from a m))
    go a zero h = empty
    go a (suc m) h = more {x = f a}
        (λ k. let (i, b, e) = mem_run f (suc a) m k in
        let q : suc a + i < n = let z = h (suc i) (omega arith) in omega arith in
        let p : a < n = let z = h 0 (omega arith) in omega arith in
        let d = differ a (suc a + i) p q e in absurd (let z : suc a + i ≡ a = sym d in omega arith))
        (go (suc a) m (λ x b. let z = h (suc x) (omega arith) in omega arith))

pub keep_append : {A : Type 0} (p : A → Bool) (x y : List A) → keep p (x ++ y) ≡ keep p x ++ keep p y
unfolding keep
keep_append p [] y = refl
keep_append {A} p (a ∷ x) y = go (p a) (keep_append p x y)
  where
    go : (b : Bool) → keep p (x ++ y) ≡ keep p x ++ keep p y → cond b (a ∷ keep p (x ++ y)) (keep p (x ++ y)) ≡ cond b (a ∷ keep p x) (keep p x) ++ keep p y
    go true e = ap (λ l. a ∷ l) e
    go false e = e

pub keep_mem : {A : Type 0} (p : A → Bool) (l : List A) {x : A} → Mem x l → p x ≡ true → Mem x (keep p l)
unfolding keep
keep_mem p [] m h = elim m [ ]
keep_mem {A} p (a ∷ l) {x} m h = go (p a) refl (cases_cons m) (λ k. keep_mem p l k h)
  where
    go : (b : Bool) → p a ≡ b → (x ≡ a) ⊎ Mem x l → (Mem x l → Mem x (keep p l)) → Mem x (cond b (a ∷ keep p l) (keep p l))
    go true e (inl q) f = head q
    go true e (inr k) f = tail (f k)
    go false e (inl q) f = apart (sym h ∙ ap p q ∙ e)
    go false e (inr k) f = f k

pub mem_keep : {A : Type 0} (p : A → Bool) (l : List A) {x : A} → Mem x (keep p l) → Mem x l × (p x ≡ true)
unfolding keep
mem_keep p [] m = absurd (not-nil m)
mem_keep {A} p (a ∷ l) {x} m = go (p a) refl m (λ k. mem_keep p l k)
  where
    go : (b : Bool) → p a ≡ b → Mem x (cond b (a ∷ keep p l) (keep p l)) → (Mem x (keep p l) → Mem x l × (p x ≡ true)) → Mem x (a ∷ l) × (p x ≡ true)
    go true e m f = ⊎_elim (λ q. (head q, ap p q ∙ e)) (λ k. (tail (f k).0, (f k).1)) (cases_cons m)
    go false e m f = (tail (f m).0, (f m).1)
