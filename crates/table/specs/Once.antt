-- That a table is sound by a layout has at most one proof: of two class records with one id, each is the other.
-- Assumes nothing.
use Rattle.std.specs.Prelude.{ℕ, suc, ◌<◌, ◌≡◌, refl, List, Bool, true, false, ltb}
use Rattle.std.proofs.Common.{sym, ◌∙◌, arith, ltb-true, ltb-false}
use Rattle.std.proofs.Props.{props}
use Rattle.std.specs.Coded.{le_prop}
use mathlib.Core.HLevel.{is_prop→PathP}
use Rattle.meaning.specs.declared.Layout.{Layout}
use Rattle.meaning.specs.Words.{id_at, first_at, count_at}
use Rattle.meaning.specs.Good.{Canonical, Joined, ClassRule, Sound}
use Rattle.meaning.specs.Laws.Ascending.{lt_lt, rises_past}

-- a function that rises takes each value once
once : (f : ℕ → ℕ) (n : ℕ) → ((j : ℕ) → suc j < n → f j < f (suc j)) → (j k : ℕ) → j < n → k < n → f j ≡ f k → j ≡ k
once f n h j k a b e = go (ltb j k) refl (ltb k j) refl
  where
    past : (x y : ℕ) → x < y → y < n → f x < f y
    past = rises_past {R = λ a b. a < b} lt_lt f n h

    go : (p : Bool) → ltb j k ≡ p → (q : Bool) → ltb k j ≡ q → j ≡ k
    go true p q r = absurd (let z = past j k (ltb-true j k p) b in omega arith)
    go false p true r = absurd (let z = past k j (ltb-true k j r) a in omega arith)
    go false p false r = let u = ltb-false j k p in let v = ltb-false k j r in omega arith

every_once : (t : List ℕ) (l : Layout) → ((j : ℕ) → suc j < l.c → id_at t l j < id_at t l (suc j)) → (x : ℕ) → IsProp ((j : ℕ) × (j < l.c) × (id_at t l j ≡ x))
every_once t l h x u v = λ i. (p i, is_prop→PathP (λ i. p i < l.c) (λ i. hlevel props) u.1 v.1 i, is_prop→PathP (λ i. id_at t l (p i) ≡ x) (λ i. hlevel props) u.2 v.2 i)
  where
    p : u.0 ≡ v.0
    p = once (id_at t l) l.c h u.0 v.0 u.1 v.1 (u.2 ∙ sym v.2)

class_once : (t : List ℕ) (l : Layout) → IsProp (ClassRule t l)
class_once t l u v = λ i. record {
  rising = λ j h. le_prop (u.rising j h) (v.rising j h) i;
  canonical = λ j h. canonical (u.canonical j h) (v.canonical j h) i;
  every = λ x c. every_once t l u.rising x (u.every x c) (v.every x c) i;
  filled = λ j h. le_prop (u.filled j h) (v.filled j h) i;
  joined = joined u.joined v.joined i;
}
  where
    canonical : {x : ℕ} → IsProp (Canonical t l x)
    canonical = hlevel props

    joined : IsProp (Joined (first_at t l) (count_at t l) l.c l.n)
    joined = hlevel props

pub sound_once : (t : List ℕ) (l : Layout) → IsProp (Sound t l)
sound_once t l = hlevel (props, class_once)
