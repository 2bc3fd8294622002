-- An entry of the index: it names a node, after the one that the entry before names. Assumes nothing.
use Rattle.std.proofs.Common.{ℕ, ◌+◌, ◌-◌, ◌<◌, ◌≤◌, ◌≡◌, Bool, true, false, List, sym, arith, lt-ltb, le-ltb, ltb-true}
use Rattle.meaning.specs.declared.Layout.{Layout}
use Rattle.meaning.specs.Tests.{and, all_below, and_left, and_fails_left, all_at}
use Rattle.meaning.specs.Graph.{less}
use Rattle.meaning.specs.Words.{index_at, node_at, kid_at, arity_at}
use Rattle.meaning.specs.Good.{NodeRule}
use Rattle.meaning.specs.Refusal.{good_index_at}
use Rattle.meaning.specs.Laws.Joins.{joined_within}
use Rattle.meaning.proofs.Laws.Rules.{rises_back, rises_first}

-- a node's children are in their area
pub within : (t : List ℕ) (l : Layout) → NodeRule t l → (i : ℕ) → i < l.n → kid_at t l i + arity_at t l i ≤ l.k
within t l r i h = joined_within r.joined i h

module _ (t : List ℕ) (l : Layout) (x i : ℕ) (e : i ≡ index_at t l x) where
  pub past : l.n ≤ i → false ≡ good_index_at t l x
  unfolding good_index_at
  past h = sym (and_fails_left _ (rw (← e) (le-ltb i l.n h)))

  pub first : i < l.n → x ≡ 0 → true ≡ good_index_at t l x
  unfolding good_index_at and
  first h z = rw (rises_first (λ y. node_at t l (index_at t l y)) x z, ← e, lt-ltb i l.n h)

  pub later : (p : ℕ) (r : Bool) → r ≡ less (node_at t l p) (node_at t l i) → p ≡ index_at t l (x - 1) → i < l.n → (x ≡ 0 → ⊥) → r ≡ good_index_at t l x
  unfolding good_index_at and
  later p r q f h n = rw (rises_back (λ y. node_at t l (index_at t l y)) x n, ← e, lt-ltb i l.n h, ← f) q

-- the entry before names a node
pub previous : (t : List ℕ) (l : Layout) (x p : ℕ) → p ≡ index_at t l (x - 1) → all_below (good_index_at t l) x ≡ true → (x ≡ 0 → ⊥) → p < l.n
unfolding good_index_at
previous t l x p e h n = rw e (ltb-true _ _ (and_left _ _ (all_at (good_index_at t l) x h (x - 1) (omega arith))))
