-- A table's refusal number, computed from any words. Assumes nothing.
use Rattle.std.specs.Prelude.{ℕ, zero, suc, ◌+◌, List, map, Bool, true, cond, length, eqb, ltb, leb}
use Rattle.meaning.specs.declared.Layout.{Layout}
use Rattle.meaning.specs.Tests.{and, all_below, same_list}
use Rattle.meaning.specs.Graph.{Node, less}
use Rattle.meaning.specs.Ranges.{from, keep, end_before}
use Rattle.meaning.specs.Words.{word, layout_of, find_at, id_at, first_at, count_at, arity_at, kid_at, owner_at, child_at, index_at, node_at}

unfoldable pub good_limits : List ℕ → Bool
good_limits t = and (leb (word t 0) 65536) (and (leb (word t 1) 65536) (and (leb (word t 2) 65536) (leb (word t 3) 262144)))

unfoldable pub good_shape : List ℕ → Bool
good_shape t =
    and (eqb (word t 4) (layout_of t).find)
    (and (eqb (word t 5) (layout_of t).classes)
    (and (eqb (word t 6) (layout_of t).nodes)
    (and (eqb (word t 7) (layout_of t).children)
    (and (eqb (word t 8) (layout_of t).index) (eqb (length t) ((layout_of t).index + word t 2))))))

-- f rises from the number before x to x; nothing stands before 0
unfoldable pub rises_at : (ℕ → Node) → ℕ → Bool
rises_at f zero = true
rises_at f (suc x) = less (f x) (f (suc x))

module _ (t : List ℕ) (l : Layout) where
  unfoldable pub is_canonical : ℕ → Bool
  is_canonical x = and (ltb x l.i) (eqb (find_at t l x) x)

  unfoldable pub good_find_at : ℕ → Bool
  good_find_at x = and (ltb (find_at t l x) l.i) (eqb (find_at t l (find_at t l x)) (find_at t l x))

  unfoldable pub good_find : Bool
  good_find = all_below good_find_at l.i

  -- the canonical ids below x, rising
  unfoldable pub canonicals : ℕ → List ℕ
  canonicals x = keep is_canonical (from 0 x)

  -- the class ids of the first j records
  unfoldable pub ids_to : ℕ → List ℕ
  ids_to j = map (id_at t l) (from 0 j)

  unfoldable pub good_ids : Bool
  good_ids = same_list (ids_to l.c) (canonicals l.i)

  unfoldable pub good_range_at : ℕ → Bool
  good_range_at j = and (ltb 0 (count_at t l j)) (eqb (first_at t l j) (end_before (first_at t l) (count_at t l) j))

  unfoldable pub good_ranges : Bool
  good_ranges = and (all_below good_range_at l.c) (eqb (end_before (first_at t l) (count_at t l) l.c) l.n)

  unfoldable pub good_classes : Bool
  good_classes = and good_ids good_ranges

  -- node i by itself: its arity, and its children's range
  unfoldable pub good_node_at : ℕ → Bool
  good_node_at i = and (leb (arity_at t l i) 8)
      (and (eqb (kid_at t l i) (end_before (kid_at t l) (arity_at t l) i)) (leb (kid_at t l i + arity_at t l i) l.k))

  -- the k-th node of class j
  unfoldable pub good_member_at : ℕ → ℕ → Bool
  good_member_at j k = and (good_node_at (first_at t l j + k))
      (and (eqb (owner_at t l (first_at t l j + k)) (id_at t l j)) (rises_at (λ x. node_at t l (first_at t l j + x)) k))

  unfoldable pub good_members_at : ℕ → Bool
  good_members_at j = all_below (good_member_at j) (count_at t l j)

  unfoldable pub good_members : Bool
  good_members = and (all_below good_members_at l.c) (eqb (end_before (kid_at t l) (arity_at t l) l.n) l.k)

  unfoldable pub good_child_at : ℕ → Bool
  good_child_at x = is_canonical (child_at t l x)

  unfoldable pub good_children : Bool
  good_children = all_below good_child_at l.k

  unfoldable pub good_nodes : Bool
  good_nodes = and good_members good_children

  unfoldable pub good_index_at : ℕ → Bool
  good_index_at x = and (ltb (index_at t l x) l.n) (rises_at (λ y. node_at t l (index_at t l y)) x)

  unfoldable pub good_index : Bool
  good_index = all_below good_index_at l.n

  -- 3, 4, 5 or 6 for the first area whose rule is broken, or 0
  unfoldable pub areas_refusal : ℕ
  areas_refusal = cond good_find (cond good_classes (cond good_nodes (cond good_index 0 6) 5) 4) 3

-- document 01's number, in its order: 0 for a good table
unfoldable pub refusal_of : List ℕ → ℕ
refusal_of t = cond (ltb (length t) 9) 1 (cond (good_limits t) (cond (good_shape t) (areas_refusal t (layout_of t)) 1) 2)
