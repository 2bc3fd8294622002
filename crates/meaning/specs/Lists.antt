-- Lists: a fact of all, no two alike, one taken out, a walk over all. Assumes nothing.
use Rattle.std.specs.Prelude.{◌≡◌, refl, ◌⊎◌}
use Rattle.std.proofs.Common.{sym, ap, subst, inl, inr, ⊎_elim}
use mathlib.Core.List.{List, [], ◌∷◌, ◌++◌, map, flat_map, Memᴰ as Mem}
use mathlib.Core.List.Memᴰ.{append_cases as mem-cases, append_left as mem-left, append_right as mem-right, cast as mem-cast, head, not-nil, tail}

-- each x of the list has P
pub data All {A : Type 0} (P : A → Type 0) : List A → Type 0 where
  nil : All P []
  cons : {x : A} {l : List A} → P x → All P l → All P (x ∷ l)

-- no two of the list are equal
pub data NoDup {A : Type 0} : List A → Type 0 where
  empty : NoDup []
  more : {x : A} {l : List A} → (Mem x l → ⊥) → NoDup l → NoDup (x ∷ l)

-- each is related to the next
pub data Ascends {A : Type 0} (R : A → A → Type 0) : List A → Type 0 where
  none : Ascends R []
  one : {x : A} → Ascends R (x ∷ [])
  then : {x y : A} {l : List A} → R x y → Ascends R (y ∷ l) → Ascends R (x ∷ y ∷ l)

-- x taken out of the first list leaves the second
pub data Took {A : Type 0} (x : A) : List A → List A → Type 0 where
  here : {l : List A} → Took x (x ∷ l) l
  there : {y : A} {l r : List A} → Took x l r → Took x (y ∷ l) (y ∷ r)

pub all_map : {A : Type 0} {P Q : A → Type 0} {l : List A} → ((x : A) → P x → Q x) → All P l → All Q l
all_map f nil = nil
all_map f (cons {x = x} h t) = cons (f x h) (all_map f t)

pub all_append : {A : Type 0} {P : A → Type 0} {s t : List A} → All P s → All P t → All P (s ++ t)
all_append nil t = t
all_append (cons h s) t = cons h (all_append s t)

pub all_split : {A : Type 0} {P : A → Type 0} (s : List A) {t : List A} → All P (s ++ t) → All P s × All P t
all_split [] h = (nil, h)
all_split {P} (x ∷ s) {t} h = go (λ r. all_split s r) h
  where
    go : (All P (s ++ t) → All P s × All P t) → All P (x ∷ (s ++ t)) → All P (x ∷ s) × All P t
    go f (cons h r) = (cons h (f r).0, (f r).1)

pub all_at : {A : Type 0} {P : A → Type 0} {l : List A} {x : A} → All P l → Mem x l → P x
all_at nil m = elim m [ ]
all_at {P} (cons h t) (head e) = subst P (sym e) h
all_at (cons h t) (tail m) = all_at t m

pub took_all : {A : Type 0} {P : A → Type 0} {x : A} {l r : List A} → Took x l r → All P l → P x × All P r
took_all here (cons h t) = (h, t)
took_all (there k) (cons h t) = let (a, b) = took_all k t in (a, cons h b)

pub put_all : {A : Type 0} {P : A → Type 0} {x : A} {l r : List A} → Took x l r → P x → All P r → All P l
put_all here p t = cons p t
put_all (there k) p (cons h t) = cons h (put_all k p t)

-- what a walk meets comes from one of the list
pub from_walk : {A B : Type 0} (f : A → List B) (l : List A) {b : B} → Mem b (flat_map f l) → (a : A) × Mem a l × Mem b (f a)
unfolding flat_map
from_walk f [] m = elim m [ ]
from_walk f (x ∷ l) {b} m = ⊎_elim
    (λ h. (x, head refl, h))
    (λ t. let (a, k, h) = from_walk f l t in (a, tail k, h))
    (mem-cases (f x) m)

pub to_walk : {A B : Type 0} (f : A → List B) {a : A} {b : B} {l : List A} → Mem a l → Mem b (f a) → Mem b (flat_map f l)
unfolding flat_map
to_walk f {b} (head {xs = l} e) m = mem-left (flat_map f l) (subst (λ y. Mem b (f y)) e m)
to_walk f (tail {x = x} k) m = mem-right (f x) (to_walk f k m)

pub nodup_append : {A : Type 0} {s t : List A} → NoDup s → NoDup t → ((x : A) → Mem x s → Mem x t → ⊥) → NoDup (s ++ t)
nodup_append empty t d = t
nodup_append (more {x = x} {l = l} n s) t d = more (λ m. ⊎_elim n (d x (head refl)) (mem-cases l m)) (nodup_append s t (λ y a b. d y (tail a) b))

-- a walk meets nothing twice, if no place does and no two places meet the same
pub walk_nodup : {A B : Type 0} (f : A → List B) {l : List A} → NoDup l
    → ((a : A) → Mem a l → NoDup (f a))
    → ((a c : A) (b : B) → Mem a l → Mem c l → Mem b (f a) → Mem b (f c) → a ≡ c)
    → NoDup (flat_map f l)
unfolding flat_map
walk_nodup f empty each same = empty
walk_nodup f (more {x = x} {l = l} n d) each same = nodup_append (each x (head refl))
    (walk_nodup f d (λ a m. each a (tail m)) (λ a c b k m. same a c b (tail k) (tail m)))
    (λ b m t. let (a, k, h) = from_walk f l t in n (mem-cast (same x a b (head refl) (tail k) m h) k))

pub all_of : {A : Type 0} {P : A → Type 0} (l : List A) → ((x : A) → Mem x l → P x) → All P l
all_of [] f = nil
all_of (x ∷ l) f = cons (f x (head refl)) (all_of l (λ y m. f y (tail m)))

pub mem_map : {A B : Type 0} (f : A → B) {x : A} {l : List A} → Mem x l → Mem (f x) (map f l)
mem_map f (head e) = head (ap f e)
mem_map f (tail m) = tail (mem_map f m)

pub nodup_one : {A : Type 0} {x : A} → NoDup (x ∷ [])
nodup_one = more (λ m. not-nil m) empty

pub map_append : {A B : Type 0} (f : A → B) (s t : List A) → map f (s ++ t) ≡ map f s ++ map f t
map_append f [] t = refl
map_append f (x ∷ s) t = ap (λ l. f x ∷ l) (map_append f s t)

pub map_same : {A B : Type 0} (f h : A → B) (l : List A) → ((x : A) → Mem x l → f x ≡ h x) → map f l ≡ map h l
map_same f h [] e = refl
map_same f h (x ∷ l) e = cc (e x (head refl), map_same f h l (λ y m. e y (tail m)))

pub from_map : {A B : Type 0} (f : A → B) (l : List A) {y : B} → Mem y (map f l) → (x : A) × Mem x l × (y ≡ f x)
from_map f [] m = elim m [ ]
from_map f (x ∷ l) (head e) = (x, head refl, e)
from_map f (x ∷ l) (tail m) = let (a, k, e) = from_map f l m in (a, tail k, e)

pub all_map2 : {A : Type 0} {P Q S : A → Type 0} {l : List A} → ((x : A) → P x → Q x → S x) → All P l → All Q l → All S l
all_map2 f nil nil = nil
all_map2 f (cons {x = x} h t) (cons k u) = cons (f x h k) (all_map2 f t u)

pub nodup_left : {A : Type 0} (s t : List A) → NoDup (s ++ t) → NoDup s
nodup_left [] t d = empty
nodup_left (x ∷ s) t d = go (λ r. nodup_left s t r) d
  where
    go : (NoDup (s ++ t) → NoDup s) → NoDup (x ∷ (s ++ t)) → NoDup (x ∷ s)
    go f (more n r) = more (λ m. n (mem-left t m)) (f r)

pub nodup_right : {A : Type 0} (s : List A) {t : List A} → NoDup (s ++ t) → NoDup t
nodup_right [] d = d
nodup_right (x ∷ s) {t} d = go (λ r. nodup_right s r) d
  where
    go : (NoDup (s ++ t) → NoDup t) → NoDup (x ∷ (s ++ t)) → NoDup t
    go f (more n r) = f r

pub nodup_apart : {A : Type 0} (s : List A) {t : List A} {y : A} → NoDup (s ++ t) → Mem y s → Mem y t → ⊥
nodup_apart [] d k m = elim k [ ]
nodup_apart (x ∷ s) {t} {y} d (head e) m = go d
  where
    go : NoDup (x ∷ (s ++ t)) → ⊥
    go (more n r) = n (mem-right s (mem-cast (sym e) m))
nodup_apart (x ∷ s) {t} {y} d (tail k) m = nodup_apart s (rest d) k m
  where
    rest : NoDup (x ∷ (s ++ t)) → NoDup (s ++ t)
    rest (more n r) = r

pub map_map : {A B C : Type 0} (f : B → C) (h : A → B) (l : List A) → map (λ x. f (h x)) l ≡ map f (map h l)
map_map f h [] = refl
map_map f h (x ∷ l) = ap (λ t. f (h x) ∷ t) (map_map f h l)

pub took_mem : {A : Type 0} {x y : A} {l r : List A} → Took x l r → Mem y l → (y ≡ x) ⊎ Mem y r
took_mem here (head e) = inl e
took_mem here (tail m) = inr m
took_mem (there t) (head e) = inr (head e)
took_mem (there t) (tail m) = ⊎_elim inl (λ k. inr (tail k)) (took_mem t m)

pub took_in : {A : Type 0} {x : A} {l r : List A} → Took x l r → Mem x l
took_in here = head refl
took_in (there t) = tail (took_in t)

pub took_rest : {A : Type 0} {x y : A} {l r : List A} → Took x l r → Mem y r → Mem y l
took_rest here m = tail m
took_rest (there t) (head e) = head e
took_rest (there t) (tail m) = tail (took_rest t m)
