-- Free variables not yet bound, counted as members of a set. Assumes nothing.
use Prim.Native.Nat.{ℕ, suc, ◌+◌, ◌<◌}
use Rattle.std.specs.Prelude.{◌≡◌, refl, List, [], ◌∷◌, map, Bool, true, false, cond, length, Option, None, Some}
use Rattle.std.proofs.Common.{sym, subst, ◌∙◌, ⊎_elim, arith, zero-add}
use Rattle.std.proofs.Math.Path.{ap}
use mathlib.Core.List.Memᴰ.{cases_cons, cast as mem-cast, head, not-nil, tail}
use mathlib.Core.List.{Memᴰ as Mem}
use Rattle.std.proofs.lemmas.List.{length-map}
use Rattle.meaning.specs.declared.Reg.{Reg}
use Rattle.meaning.specs.Tests.{apart}
use Rattle.meaning.specs.Lists.{NoDup, empty, more, took_rest, took_mem, mem_map, from_map}
use Rattle.meaning.specs.Ranges.{from, keep}
use Rattle.meaning.specs.Masks.{count}
use Rattle.meaning.specs.Program.{Held}
use Rattle.meaning.specs.Compiler.{reg_of, more_if_none, unbound_in}
use Rattle.meaning.specs.Laws.Runs.{from_mem, mem_from, keep_mem, mem_keep, run_once}
use Rattle.meaning.specs.Laws.Masks.{count_keep, count_same}
use Rattle.meaning.specs.Laws.Pigeons.{take_out, took_length, took_once}

-- two lists of the same members, none twice, are as long
pub same_long : (a b : List ℕ) → NoDup a → NoDup b → ((x : ℕ) → Mem x a → Mem x b) → ((x : ℕ) → Mem x b → Mem x a) → length a ≡ length b
same_long [] [] d e f g = refl
same_long [] (y ∷ b) d e f g = absurd (not-nil (g y (head refl)))
same_long (x ∷ a) b (more n d) e f g =
    let (r, t) = take_out (f x (head refl)) in
    let (u, m) = took_once t e in
    let q = same_long a r d u (λ y k. ⊎_elim (λ s. absurd (n (mem-cast (sym s) k))) (λ z. z) (took_mem t (f y (tail k)))) (λ y k. ⊎_elim (λ s. absurd (m (mem-cast (sym s) k))) (λ z. z) (cases_cons (g y (took_rest t k)))) in
    ap suc q ∙ sym (took_length t)

unfoldable is_none : Option Reg → Bool
is_none None = true
is_none (Some r) = false

none_is : (s : Option Reg) → is_none s ≡ true → s ≡ None
unfolding is_none
none_is None h = refl
none_is (Some r) h = apart (sym h)

is_none_lem : (s : Option Reg) → s ≡ None → is_none s ≡ true
unfolding is_none
is_none_lem s e = rw e

unbound_keep : (B : List Held) (l : List ℕ) → unbound_in B l ≡ length (keep (λ v. is_none (reg_of B v)) l)
unfolding unbound_in keep
unbound_keep B [] = refl
unbound_keep B (v ∷ l) = go (reg_of B v) (unbound_keep B l)
  where
    go : (s : Option Reg) → unbound_in B l ≡ length (keep (λ v. is_none (reg_of B v)) l)
        → more_if_none s (unbound_in B l) ≡ length (cond (is_none s) (v ∷ keep (λ v. is_none (reg_of B v)) l) (keep (λ v. is_none (reg_of B v)) l))
    go None e = unfold more_if_none is_none in ap suc e
    go (Some r) e = unfold more_if_none is_none in e

keep_once : {A : Type 0} (p : A → Bool) {l : List A} → NoDup l → NoDup (keep p l)
unfolding keep
keep_once p empty = empty
keep_once p (more {x = x} {l = l} n d) = go (p x) (keep_once p d)
  where
    go : (b : Bool) → NoDup (keep p l) → NoDup (cond b (x ∷ keep p l) (keep p l))
    go true r = more (λ m. n (mem_keep p l m).0) r
    go false r = r

-- a list's run of numbers, kept
run_kept : (q : ℕ → Bool) (w : ℕ) → NoDup (keep q (from 0 w))
run_kept q w = keep_once q (subst NoDup (same (from 0 w)) (run_once (λ x. x) w (λ x y a b e. e)))
  where
    same : (l : List ℕ) → map (λ x. x) l ≡ l
    same [] = refl
    same (a ∷ l) = ap (λ r. a ∷ r) (same l)

map_once : (f : ℕ → ℕ) (l : List ℕ) → ((x y : ℕ) → Mem x l → Mem y l → f x ≡ f y → x ≡ y) → NoDup l → NoDup (map f l)
map_once f [] i empty = empty
map_once f (x ∷ l) i (more n d) = more (λ m. let (y, k, e) = from_map f l m in n (mem-cast (i x y (head refl) (tail k) e) k)) (map_once f l (λ a b j k e. i a b (tail j) (tail k) e) d)

-- the members of a set of places, each with its variable, are the variables not yet bound
pub unbound_count : (B : List Held) (l : List ℕ) (f : ℕ → ℕ) (q : ℕ → Bool) (w : ℕ) → NoDup l
    → ((i : ℕ) → i < w → q i ≡ true → Mem (f i) l × (reg_of B (f i) ≡ None))
    → ((v : ℕ) → Mem v l → reg_of B v ≡ None → (i : ℕ) × (i < w) × (q i ≡ true) × (f i ≡ v))
    → ((i j : ℕ) → q i ≡ true → q j ≡ true → f i ≡ f j → i ≡ j)
    → count q w ≡ unbound_in B l
unbound_count B l f q w d sound complete differ =
    count_same q (λ k. q (0 + k)) w (λ k h. ap q (sym (zero-add k))) ∙ count_keep q 0 w ∙ sym (length-map K f) ∙ same_long (map f K) (keep (λ v. is_none (reg_of B v)) l)
    (map_once f K (λ x y a b e. differ x y (mem_keep q (from 0 w) a).1 (mem_keep q (from 0 w) b).1 e) (run_kept q w)) (keep_once (λ v. is_none (reg_of B v)) d)
    (λ v m. let (i, k, e) = from_map f K m in let (r, t) = mem_keep q (from 0 w) k in let b = (mem_from 0 w r).1 in let (x, y) = sound i (omega arith) t in
    rw e (keep_mem (λ v. is_none (reg_of B v)) l x (is_none_lem _ y)))
    (λ v m. let (k, e) = mem_keep (λ v. is_none (reg_of B v)) l m in let (i, b, t, g) = complete v k (none_is _ e) in
    rw (← g) (mem_map f (keep_mem q (from 0 w) (from_mem 0 w i (omega arith) (omega arith)) t)))
    ∙ sym (unbound_keep B l)
  where
    K : List ℕ
    K = keep q (from 0 w)
