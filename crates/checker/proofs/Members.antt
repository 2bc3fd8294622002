-- A node of a class: by itself, by its owner, and after the node before it. Assumes nothing.
use Rattle.meaning.proofs.Laws.Rules.{rises_back, rises_first}
use Rattle.meaning.specs.Refusal.{good_node_at, good_member_at}
use Rattle.meaning.specs.Laws.Joins.{joined_within}
use Rattle.meaning.specs.Good.{ClassRule}
use Rattle.meaning.specs.Words.{first_at, count_at, id_at, kid_at, arity_at, owner_at, node_at}
use Rattle.meaning.specs.Graph.{less}
use Rattle.meaning.specs.Tests.{and, all_below, and_left, and_right, and_fails_left, and_fails_right, all_at}
use Rattle.std.proofs.Common.{eq-eqb, ne_eqb, leb-true, List, Bool, true, false, ◌≡◌, sym, ◌∙◌, ℕ, ◌+◌, ◌-◌, ◌<◌, ◌≤◌, arith}
use Rattle.meaning.specs.declared.Layout.{Layout}

-- a good node's children are in their area
pub within : (t : List ℕ) (l : Layout) (i : ℕ) → good_node_at t l i ≡ true → kid_at t l i + arity_at t l i ≤ l.k
unfolding good_node_at
within t l i h = leb-true _ _ (and_right _ _ (and_right _ _ h))

-- and a class's nodes are in theirs
pub joined : (t : List ℕ) (l : Layout) → ClassRule t l → (j : ℕ) → j < l.c → first_at t l j + count_at t l j ≤ l.n
joined t l r j h = joined_within r.joined j h

module _ (t : List ℕ) (l : Layout) (j k a : ℕ) (e : a ≡ first_at t l j) where
  pub broken : (g : Bool) → g ≡ good_node_at t l (a + k) → g ≡ false → false ≡ good_member_at t l j k
  unfolding good_member_at
  broken g d h = sym (and_fails_left _ (rw (← e) (sym d ∙ h)))

  module _ (o i : ℕ) (d : o ≡ owner_at t l (a + k)) (f : i ≡ id_at t l j) where
    pub stranger : (o ≡ i → ⊥) → false ≡ good_member_at t l j k
    unfolding good_member_at
    stranger n = sym (and_fails_right _ (and_fails_left _ (rw (← e, ← d, ← f) (ne_eqb o i n))))

    module _ (g : Bool) (h : g ≡ good_node_at t l (a + k)) (y : g ≡ true) (s : o ≡ i) where
      pub first : k ≡ 0 → true ≡ good_member_at t l j k
      unfolding good_member_at and
      first z = rw (rises_first (λ x. node_at t l (first_at t l j + x)) k z, ← e, ← h, y, ← d, ← f, eq-eqb o i s)

      pub later : (r : Bool) → r ≡ less (node_at t l (a + k - 1)) (node_at t l (a + k)) → (k ≡ 0 → ⊥) → r ≡ good_member_at t l j k
      unfolding good_member_at and
      later r q n =
          let b : a + k - 1 ≡ a + (k - 1) = omega arith in
          rw (rises_back (λ x. node_at t l (first_at t l j + x)) k n, ← e, ← h, y, ← d, ← f, eq-eqb o i s) (rw b at q)

  -- the node before it was good
  pub previous : all_below (good_member_at t l j) k ≡ true → (k ≡ 0 → ⊥) → kid_at t l (a + k - 1) + arity_at t l (a + k - 1) ≤ l.k
  unfolding good_member_at
  previous h n =
      let b : a + k - 1 ≡ first_at t l j + (k - 1) = omega arith in
      rw b (within t l (first_at t l j + (k - 1)) (and_left _ _ (all_at (good_member_at t l j) k h (k - 1) (omega arith))))
