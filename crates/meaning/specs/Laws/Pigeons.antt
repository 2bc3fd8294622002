-- n different numbers below n are all the numbers below n. Assumes nothing.
use Rattle.std.specs.Prelude.{ℕ, zero, suc, ◌<◌, ◌≤◌, ◌≡◌, refl, List, [], ◌∷◌, ◌⊎◌, Bool, true, false, eqb, length}
use Rattle.std.proofs.Common.{sym, ap, subst, inl, inr, ⊎_elim, eqb-true, arith}
use mathlib.Core.List.Memᴰ.{cases_cons, cast as mem-cast, head, not-nil, tail}
use mathlib.Core.List.{Memᴰ as Mem}
use Rattle.std.proofs.lemmas.Bool.{eqb-false}
use Rattle.meaning.specs.Lists.{All, nil, cons, NoDup, more, Took, here, there, took_all, took_in, took_rest}

-- a number stands in a list, or not
pub stands : (x : ℕ) (l : List ℕ) → Mem x l ⊎ (Mem x l → ⊥)
stands x [] = inr (λ m. not-nil m)
stands x (y ∷ l) = go (eqb x y) refl (stands x l)
  where
    go : (b : Bool) → eqb x y ≡ b → Mem x l ⊎ (Mem x l → ⊥) → Mem x (y ∷ l) ⊎ (Mem x (y ∷ l) → ⊥)
    go true e r = inl (head (eqb-true x y e))
    go false e (inl m) = inl (tail m)
    go false e (inr n) = inr (λ m. ⊎_elim (eqb-false x y e) n (cases_cons m))

pub take_out : {x : ℕ} {l : List ℕ} → Mem x l → (r : List ℕ) × Took x l r
take_out {x} (head {x = y} {xs = l} e) = (l, subst (λ z. Took x (z ∷ l) l) e here)
take_out (tail {x = y} m) = let (r, t) = take_out m in (y ∷ r, there t)

pub took_length : {x : ℕ} {l r : List ℕ} → Took x l r → length l ≡ suc (length r)
took_length here = refl
took_length (there t) = ap suc (took_length t)

pub took_once : {x : ℕ} {l r : List ℕ} → Took x l r → NoDup l → NoDup r × (Mem x r → ⊥)
took_once here (more n d) = (d, n)
took_once {x} (there {y = y} {l = l} {r = r} t) (more n d) = let (e, m) = took_once t d in
    (more (λ k. n (took_rest t k)) e, λ k. ⊎_elim (λ q. n (mem-cast (sym q) (took_in t))) m (cases_cons k))

below_less : (n : ℕ) (l : List ℕ) → (Mem n l → ⊥) → All (λ x. x < suc n) l → All (λ x. x < n) l
below_less n [] m nil = nil
below_less n (x ∷ l) m (cons h a) = cons (lower (λ e. m (head (sym e)))) (below_less n l (λ k. m (tail k)) a)
  where
    lower : (x ≡ n → ⊥) → x < n
    lower d = omega arith

-- different numbers below n are at most n
pub few : (n : ℕ) (l : List ℕ) → NoDup l → All (λ x. x < n) l → length l ≤ n
few zero [] d a = omega arith
few zero (x ∷ l) d (cons h a) = absurd (omega arith)
few (suc n) l d a = ⊎_elim (λ m. with (λ r e b. few n r e b) (take_out m)) (λ m. let h = few n l d (below_less n l m a) in omega arith) (stands n l)
  where
    with : ((r : List ℕ) → NoDup r → All (λ x. x < n) r → length r ≤ n) → ((r : List ℕ) × Took n l r) → length l ≤ suc n
    with f p = let (r, t) = p in let (e, m) = took_once t d in let h = f r e (below_less n r m (took_all t a).1) in let k = took_length t in omega arith

-- n of them are all
pub all_there : (n : ℕ) (l : List ℕ) → NoDup l → All (λ x. x < n) l → n ≤ length l → (x : ℕ) → x < n → Mem x l
all_there n l d a h x lt = ⊎_elim (λ m. m) (λ m. absurd (over m)) (stands x l)
  where
    over : (Mem x l → ⊥) → ⊥
    over m = let k = few n (x ∷ l) (more m d) (cons lt a) in let e : length (x ∷ l) ≡ suc (length l) = refl in omega arith
