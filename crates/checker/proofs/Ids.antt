-- The pass over the find list: the records so far name the canonical ids so far. Assumes nothing.
use Rattle.std.proofs.Common.{ℕ, suc, ◌+◌, ◌-◌, ◌<◌, ◌≤◌, ◌≡◌, refl, sym, ap, ◌∙◌, Bool, true, false, cond, List, [], ◌∷◌, ◌++◌, append-nil, length, get_or, length-append, eqb, lt-ltb, eq-eqb, ne_eqb, eqb-true, arith, zero-add}
use lib.Seq.{get_or_at}
use borrow.Author.Tests.{eqb-false}
use Rattle.meaning.specs.declared.Layout.{Layout}
use Rattle.meaning.specs.Tests.{and, same_list, same_true, same_is, not_true_false}
use Rattle.meaning.specs.Ranges.{from, keep}
use Rattle.meaning.specs.Words.{find_at, id_at}
use Rattle.meaning.specs.Refusal.{is_canonical, canonicals, ids_to, good_ids}
use Rattle.meaning.specs.Laws.Runs.{from_add, from_more, map_length, map_at, map_more, keep_append}

pub start : (t : List ℕ) (l : Layout) → ids_to t l 0 ≡ canonicals t l 0
unfolding ids_to canonicals from keep
start t l = refl

-- x is canonical, or not, by what stands there
is : (t : List ℕ) (l : Layout) (x f : ℕ) → f ≡ find_at t l x → f ≡ x → x < l.i → is_canonical t l x ≡ true
unfolding is_canonical and
is t l x f e h b = rw (lt-ltb x l.i b, ← e) (eq-eqb f x h)

is_not : (t : List ℕ) (l : Layout) (x f : ℕ) → f ≡ find_at t l x → (f ≡ x → ⊥) → x < l.i → is_canonical t l x ≡ false
unfolding is_canonical and
is_not t l x f e n b = rw (lt-ltb x l.i b, ← e) (ne_eqb f x n)

canonicals_more : (t : List ℕ) (l : Layout) (x : ℕ) → canonicals t l (x + 1) ≡ canonicals t l x ++ cond (is_canonical t l x) (x ∷ []) []
unfolding canonicals keep
canonicals_more t l x = ap (keep (is_canonical t l)) (from_more 0 x) ∙ keep_append (is_canonical t l) (from 0 x) ((0 + x) ∷ []) ∙ rw (zero-add x)

ids_more : (t : List ℕ) (l : Layout) (j : ℕ) → ids_to t l (j + 1) ≡ ids_to t l j ++ (id_at t l j ∷ [])
unfolding ids_to
ids_more t l j = map_more (id_at t l) 0 j ∙ rw (zero-add j)

ids_length : (t : List ℕ) (l : Layout) (j : ℕ) → length (ids_to t l j) ≡ j
unfolding ids_to
ids_length t l j = map_length (id_at t l) 0 j

-- x is not canonical
pub stays : (t : List ℕ) (l : Layout) (x j f : ℕ) → ids_to t l j ≡ canonicals t l x → f ≡ find_at t l x → (f ≡ x → ⊥) → x < l.i → ids_to t l j ≡ canonicals t l (x + 1)
stays t l x j f h e n b = h ∙ sym (canonicals_more t l x ∙ rw (is_not t l x f e n b) (append-nil (canonicals t l x)))

-- x is canonical, and the next record names it
pub grows : (t : List ℕ) (l : Layout) (x j f v : ℕ) → ids_to t l j ≡ canonicals t l x → f ≡ find_at t l x → f ≡ x → x < l.i → v ≡ id_at t l j → v ≡ x → ids_to t l (j + 1) ≡ canonicals t l (x + 1)
grows t l x j f v h e d b i k = ids_more t l j ∙ ap (λ y. y ++ (id_at t l j ∷ [])) h ∙ ap (λ y. canonicals t l x ++ (y ∷ [])) (sym i ∙ k) ∙ sym (canonicals_more t l x ∙ rw (is t l x f e d b))

-- the canonical ids, from a canonical x on
rest : (t : List ℕ) (l : Layout) (x : ℕ) → is_canonical t l x ≡ true → x < l.i → (r : List ℕ) × (canonicals t l l.i ≡ canonicals t l x ++ (x ∷ r))
unfolding canonicals
rest t l x h b =
    let e : l.i ≡ x + suc (l.i - suc x) = omega arith in
    let r = keep (is_canonical t l) (from (suc (0 + x)) (l.i - suc x)) in
    (r, ap (λ n. keep (is_canonical t l) (from 0 n)) e ∙ ap (keep (is_canonical t l)) (from_add 0 x (suc (l.i - suc x))) ∙ keep_append (is_canonical t l) (from 0 x) (from (0 + x) (suc (l.i - suc x))) ∙ ap (λ y. keep (is_canonical t l) (from 0 x) ++ y) first)
  where
    first : keep (is_canonical t l) (from (0 + x) (suc (l.i - suc x))) ≡ x ∷ keep (is_canonical t l) (from (suc (0 + x)) (l.i - suc x))
    first = unfold from keep in rw (zero-add x, h)

module _ (t : List ℕ) (l : Layout) (x j f : ℕ) (h : ids_to t l j ≡ canonicals t l x) (e : f ≡ find_at t l x) (d : f ≡ x) (b : x < l.i) where
  -- x is canonical, and no record is left
  pub full : l.c ≤ j → false ≡ good_ids t l
  unfolding good_ids
  full n = sym (not_true_false _ (λ y.
      let (r, g) = rest t l x (is t l x f e d b) b in
      let p = ap length (same_true _ _ y ∙ g) in
      let q = length-append (canonicals t l x) (x ∷ r) in
      let u = ids_length t l l.c in
      let w = ap length h in
      let z = ids_length t l j in
      omega arith))

  -- x is canonical, and the next record names another id
  pub other : (v : ℕ) → v ≡ id_at t l j → (v ≡ x → ⊥) → j < l.c → false ≡ good_ids t l
  unfolding good_ids
  other v i n k = sym (not_true_false _ (λ y.
      let (r, g) = rest t l x (is t l x f e d b) b in
      n (i ∙ sym at ∙ ap (λ z. get_or z j 0) (same_true _ _ y ∙ g) ∙ get_or_at (canonicals t l x) x r 0 j (sym (ap length h) ∙ ids_length t l j))))
    where
      at : get_or (ids_to t l l.c) j 0 ≡ id_at t l j
      at = unfold ids_to in map_at (id_at t l) 0 0 l.c j k ∙ rw (zero-add j)

-- the pass is over
pub ended : (t : List ℕ) (l : Layout) (x j : ℕ) → ids_to t l j ≡ canonicals t l x → x ≤ l.i → l.i ≤ x → eqb j l.c ≡ good_ids t l
unfolding good_ids
ended t l x j h a b = go (eqb j l.c) refl
  where
    same : x ≡ l.i
    same = omega arith

    go : (y : Bool) → eqb j l.c ≡ y → y ≡ same_list (ids_to t l l.c) (canonicals t l l.i)
    go true e = sym (same_is _ _ (ap (ids_to t l) (sym (eqb-true j l.c e)) ∙ h ∙ ap (canonicals t l) same))
    go false e = sym (not_true_false _ (λ y. eqb-false j l.c e (
        let p = ap length (same_true _ _ y) in let q = ap length h in let u = ids_length t l j in let w = ids_length t l l.c in
        let z : length (canonicals t l x) ≡ length (canonicals t l l.i) = ap (λ n. length (canonicals t l n)) same in omega arith)))
