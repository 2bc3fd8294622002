-- The areas in turn: what a test told, and the number of the first that fails. Assumes nothing.
use Rattle.std.proofs.Common.{ℕ, ◌≡◌, Bool, true, false, List, sym, ◌∙◌}
use Rattle.meaning.specs.declared.Layout.{Layout}
use Rattle.meaning.specs.Good.{ClassRule, NodeRule}
use Rattle.meaning.specs.Refusal.{good_find, good_classes, good_nodes, good_index, areas_refusal}
use Rattle.meaning.proofs.Laws.Rules.{classes, nodes}

module _ (t : List ℕ) (l : Layout) where
  pub classes_told : (r : Bool) → r ≡ good_classes t l → r ≡ true → ClassRule t l
  classes_told r e h = classes t l (sym e ∙ h)

  pub nodes_told : (c : ClassRule t l) (r : Bool) → r ≡ good_nodes t l → r ≡ true → NodeRule t l
  nodes_told c r e h = nodes t l (sym e ∙ h) c

  module _ (f : Bool) (d : f ≡ good_find t l) where
    pub find_broken : f ≡ false → 3 ≡ areas_refusal t l
    unfolding areas_refusal
    find_broken h = rw (← d, h)

    module _ (p : f ≡ true) (c : Bool) (e : c ≡ good_classes t l) where
      pub class_broken : c ≡ false → 4 ≡ areas_refusal t l
      unfolding areas_refusal
      class_broken h = rw (← d, p, ← e, h)

      module _ (q : c ≡ true) (n : Bool) (g : n ≡ good_nodes t l) where
        pub node_broken : n ≡ false → 5 ≡ areas_refusal t l
        unfolding areas_refusal
        node_broken h = rw (← d, p, ← e, q, ← g, h)

        module _ (r : n ≡ true) (i : Bool) (k : i ≡ good_index t l) where
          pub index_broken : i ≡ false → 6 ≡ areas_refusal t l
          unfolding areas_refusal
          index_broken h = rw (← d, p, ← e, q, ← g, r, ← k, h)

          pub none_broken : i ≡ true → 0 ≡ areas_refusal t l
          unfolding areas_refusal
          none_broken h = rw (← d, p, ← e, q, ← g, r, ← k, h)
