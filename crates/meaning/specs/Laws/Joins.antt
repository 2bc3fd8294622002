-- Ranges that join end to end: each lies within the total, each place lies in one, and their runs are one run. Assumes nothing.
use Rattle.std.specs.Prelude.{ℕ, zero, suc, ◌+◌, ◌-◌, ◌<◌, ◌≤◌, ◌≡◌, refl, Bool, true, false, ltb}
use Rattle.std.proofs.Common.{sym, ap, ◌∙◌, ltb-true, ltb-false, add-one}
use mathlib.Core.List.{List, [], ◌∷◌, ◌++◌, map, flat_map, append-nil, append_assoc}
use native.Mathlib.Omega.{arith}
use Rattle.meaning.specs.Ranges.{from, end_from}
use Rattle.meaning.specs.Good.{JoinedFrom, Joined}
use Rattle.meaning.specs.Laws.Runs.{from_more, map_add}

module _ {base : ℕ} {first count : ℕ → ℕ} {n total : ℕ} (j : JoinedFrom base first count n total) where
  ends_step : (i : ℕ) → i < n → end_from base first count i ≤ end_from base first count (suc i)
  unfolding end_from
  ends_step i h = let e = j.starts i h in omega arith

  ends_rise : (i d : ℕ) → i + d ≤ n → end_from base first count i ≤ end_from base first count (i + d)
  ends_rise i zero h = let e : i + 0 ≡ i = omega arith in rw e (omega arith)
  ends_rise i (suc d) h =
      let p = ends_rise i d (omega arith) in
      let q = ends_step (i + d) (omega arith) in
      let e : i + suc d ≡ suc (i + d) = omega arith in
      rw e (omega arith)

  pub ends_within : (i : ℕ) → i ≤ n → end_from base first count i ≤ total
  ends_within i h =
      let e : i + (n - i) ≡ n = omega arith in
      let p = ends_rise i (n - i) (omega arith) in
      let q : end_from base first count (i + (n - i)) ≡ end_from base first count n = ap (end_from base first count) e in
      let r = j.ends in omega arith

  pub joined_within : (i : ℕ) → i < n → first i + count i ≤ total
  unfolding end_from
  joined_within i h = ends_within (suc i) h

-- without the last
pub joined_less : {first count : ℕ → ℕ} {n total : ℕ} → Joined first count (suc n) total → Joined first count n (first n)
joined_less {n = n} j = record { starts = λ i h. j.starts i (omega arith); ends = sym (j.starts n (omega arith)) }

-- the range of a place
pub joined_find : {first count : ℕ → ℕ} (n total : ℕ) → Joined first count n total → (x : ℕ) → x < total → (i : ℕ) × (i < n) × (first i ≤ x) × (x < first i + count i)
unfolding end_from
joined_find zero total j x h = let e = j.ends in absurd (omega arith)
joined_find {first} {count} (suc n) total j x h = go (ltb x (first n)) refl (λ l. joined_find n (first n) (joined_less j) x l)
  where
    go : (b : Bool) → ltb x (first n) ≡ b → (x < first n → (i : ℕ) × (i < n) × (first i ≤ x) × (x < first i + count i)) → (i : ℕ) × (i < suc n) × (first i ≤ x) × (x < first i + count i)
    go true e f = let (i, a, b, c) = f (ltb-true x (first n) e) in (i, omega arith, b, c)
    go false e f = let g = j.ends in (n, omega arith, ltb-false x (first n) e, omega arith)

pub flat_append : {A B : Type 0} (f : A → List B) (x y : List A) → flat_map f (x ++ y) ≡ flat_map f x ++ flat_map f y
unfolding flat_map
flat_append f [] y = refl
flat_append f (a ∷ x) y = ap (λ l. f a ++ l) (flat_append f x y) ∙ sym (append_assoc (f a) (flat_map f x) (flat_map f y))

-- the ranges' runs, one after the other, are the run to the total
pub joined_run : {A : Type 0} (g : ℕ → A) {first count : ℕ → ℕ} (n total : ℕ) → Joined first count n total
    → flat_map (λ i. map g (from (first i) (count i))) (from 0 n) ≡ map g (from 0 total)
unfolding end_from flat_map from
joined_run g zero total j = rw (sym j.ends)
joined_run {A} g {first} {count} (suc n) total j =
    let e = add-one n in
    ap (λ l. flat_map runs l) (ap (from 0) (sym e) ∙ from_more 0 n)
    ∙ flat_append runs (from 0 n) ((0 + n) ∷ [])
    ∙ ap (λ l. l ++ flat_map runs ((0 + n) ∷ [])) (joined_run g n (first n) (joined_less j))
    ∙ ap (λ l. map g (from 0 (first n)) ++ l) (append-nil (runs (0 + n)) ∙ last)
    ∙ sym (map_add g 0 (first n) (count n))
    ∙ ap (λ t. map g (from 0 t)) j.ends
  where
    runs : ℕ → List A
    runs i = map g (from (first i) (count i))

    last : runs (0 + n) ≡ map g (from (0 + first n) (count n))
    last = let e : 0 + n ≡ n = omega arith in let f : 0 + first n ≡ first n = omega arith in rw (e, f)
