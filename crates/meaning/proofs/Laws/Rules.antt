-- Each computed test is true exactly if its rule holds. Assumes nothing.
use Rattle.std.proofs.Common.{ℕ, zero, suc, ◌+◌, ◌-◌, ◌<◌, ◌≡◌, length, get_or, eqb, subst, ◌∙◌, List, [], ◌∷◌, map, lt-ltb, ltb-true, le-leb, leb-true, eq-eqb, eqb-true, arith}
use Rattle.std.proofs.Math.Path.{refl, sym, ap}
use mathlib.Core.List.{Memᴰ as Mem}
use Rattle.std.proofs.Math.Bool.{true}
use Rattle.std.proofs.Math.Nat.{zero-add}
use Rattle.meaning.specs.declared.Layout.{Layout}
use Rattle.meaning.specs.Tests.{and_left, and_right, and_both, all_at, all_of, same_true, same_refl}
use Rattle.meaning.specs.Lists.{Ascends}
use Rattle.meaning.specs.Graph.{Node, less}
use Rattle.meaning.specs.Ranges.{from, end_before}
use Rattle.meaning.specs.Words.{id_at, first_at, count_at, arity_at, kid_at, child_at, index_at, node_at}
use Rattle.meaning.specs.Good.{Limits, Shape, Joined, Canonical, FindRule, ClassRule, NodeRule, IndexRule}
use Rattle.meaning.specs.Refusal.{good_limits, good_shape, rises_at, is_canonical, good_find_at, good_find, canonicals, ids_to, good_ids, good_range_at, good_ranges, good_classes, good_node_at, good_member_at, good_members_at, good_members, good_child_at, good_children, good_nodes, good_index_at, good_index}
use Rattle.meaning.specs.Laws.Runs.{from_mem, map_length, map_at, mem_run, run_mem, keep_mem, mem_keep}
use Rattle.meaning.specs.Laws.Ascending.{lt_lt, ascends_run, ascends_at, keep_ascends, rising_same}
use Rattle.meaning.specs.Laws.Joins.{joined_within, joined_find}

pub limits : (t : List ℕ) → good_limits t ≡ true → Limits t
unfolding good_limits
limits t h = let a = and_right _ _ h in let b = and_right _ _ a in record {
  ids = leb-true _ _ (and_left _ _ h);
  classes = leb-true _ _ (and_left _ _ a);
  nodes = leb-true _ _ (and_left _ _ b);
  children = leb-true _ _ (and_right _ _ b);
}

pub is_limits : (t : List ℕ) → Limits t → good_limits t ≡ true
unfolding good_limits
is_limits t l = and_both (le-leb _ _ l.ids) (and_both (le-leb _ _ l.classes) (and_both (le-leb _ _ l.nodes) (le-leb _ _ l.children)))

pub shape : (t : List ℕ) → good_shape t ≡ true → Shape t
unfolding good_shape
shape t h =
    let a = and_right _ _ h in let b = and_right _ _ a in let c = and_right _ _ b in let d = and_right _ _ c in record {
      find = eqb-true _ _ (and_left _ _ h);
      classes = eqb-true _ _ (and_left _ _ a);
      nodes = eqb-true _ _ (and_left _ _ b);
      children = eqb-true _ _ (and_left _ _ c);
      index = eqb-true _ _ (and_left _ _ d);
      long = eqb-true _ _ (and_right _ _ d);
    }

pub is_shape : (t : List ℕ) → Shape t → good_shape t ≡ true
unfolding good_shape
is_shape t s = and_both (eq-eqb _ _ s.find) (and_both (eq-eqb _ _ s.classes) (and_both (eq-eqb _ _ s.nodes)
    (and_both (eq-eqb _ _ s.children) (and_both (eq-eqb _ _ s.index) (eq-eqb _ _ s.long)))))

-- ranges that start where the one before ends, and end at the total
pub joined : (first count : ℕ → ℕ) (n total : ℕ) → ((i : ℕ) → i < n → eqb (first i) (end_before first count i) ≡ true) → eqb (end_before first count n) total ≡ true → Joined first count n total
joined first count n total h e = record { starts = λ i l. eqb-true _ _ (h i l); ends = eqb-true _ _ e }

pub rises_step : (f : ℕ → Node) (x : ℕ) → rises_at f (suc x) ≡ true → less (f x) (f (suc x)) ≡ true
unfolding rises_at
rises_step f x h = h

-- as the code steps back
pub rises_back : (f : ℕ → Node) (x : ℕ) → (x ≡ 0 → ⊥) → rises_at f x ≡ less (f (x - 1)) (f x)
unfolding rises_at
rises_back f zero n = absurd (n refl)
rises_back f (suc x) n = let e : suc x - 1 ≡ x = omega arith in rw e

pub rises_first : (f : ℕ → Node) (x : ℕ) → x ≡ 0 → rises_at f x ≡ true
unfolding rises_at
rises_first f x e = rw e

pub step_rises : (f : ℕ → Node) (n : ℕ) → ((x : ℕ) → suc x < n → less (f x) (f (suc x)) ≡ true) → (x : ℕ) → x < n → rises_at f x ≡ true
unfolding rises_at
step_rises f n h zero l = refl
step_rises f n h (suc x) l = h x l

module _ (t : List ℕ) (l : Layout) where
  pub canonical : (x : ℕ) → is_canonical t l x ≡ true → Canonical t l x
  unfolding is_canonical
  canonical x h = record { below = ltb-true _ _ (and_left _ _ h); fixed = eqb-true _ _ (and_right _ _ h) }

  pub is_canonical_lem : (x : ℕ) → Canonical t l x → is_canonical t l x ≡ true
  unfolding is_canonical
  is_canonical_lem x c = and_both (lt-ltb _ _ c.below) (eq-eqb _ _ c.fixed)

  pub find : good_find t l ≡ true → FindRule t l
  unfolding good_find good_find_at
  find h = record {
    below = λ x b. ltb-true _ _ (and_left _ _ (all_at (good_find_at t l) l.i h x b));
    fixed = λ x b. eqb-true _ _ (and_right _ _ (all_at (good_find_at t l) l.i h x b));
  }

  pub is_find : FindRule t l → good_find t l ≡ true
  unfolding good_find good_find_at
  is_find r = all_of (good_find_at t l) l.i (λ x b. and_both (lt-ltb _ _ (r.below x b)) (eq-eqb _ _ (r.fixed x b)))

  -- the canonical ids, rising
  canonicals_rise : Ascends (λ a b. a < b) (canonicals t l l.i)
  unfolding canonicals
  canonicals_rise = keep_ascends lt_lt (is_canonical t l) (from 0 l.i) (subst (λ x. Ascends (λ a b. a < b) x) (same l.i) (ascends_run (λ x. x) 0 l.i (λ i b. omega arith)))
    where
      same : (n : ℕ) → map (λ x. x) (from 0 n) ≡ from 0 n
      same n = go (from 0 n)
        where
          go : (x : List ℕ) → map (λ x. x) x ≡ x
          go [] = refl
          go (a ∷ x) = ap (λ y. a ∷ y) (go x)

  canonicals_mem : (x : ℕ) → Canonical t l x → Mem x (canonicals t l l.i)
  unfolding canonicals
  canonicals_mem x c = let b = c.below in keep_mem (is_canonical t l) (from 0 l.i) (from_mem 0 l.i x (omega arith) (omega arith)) (is_canonical_lem x c)

  mem_canonicals : (x : ℕ) → Mem x (canonicals t l l.i) → Canonical t l x
  unfolding canonicals
  mem_canonicals x m = canonical x (mem_keep (is_canonical t l) (from 0 l.i) m).1

  ids_at : (j : ℕ) → j < l.c → get_or (ids_to t l l.c) j 0 ≡ id_at t l j
  unfolding ids_to
  ids_at j h = map_at (id_at t l) 0 0 l.c j h ∙ ap (id_at t l) (zero-add j)

  pub classes : good_classes t l ≡ true → ClassRule t l
  unfolding good_classes good_ids good_ranges good_range_at
  classes h =
      let same : ids_to t l l.c ≡ canonicals t l l.i = same_true _ _ (and_left _ _ h) in
      let ranges = and_right _ _ h in
      let at : (j : ℕ) → j < l.c → good_range_at t l j ≡ true = all_at (good_range_at t l) l.c (and_left _ _ ranges) in
      record {
        rising = λ j b. rising same j b;
        canonical = λ j b. mem_canonicals (id_at t l j) (rw same at (mem_id j b));
        every = λ x c. every (rw (← same) at (canonicals_mem x c));
        filled = λ j b. ltb-true _ _ (and_left _ _ (at j b));
        joined = joined (first_at t l) (count_at t l) l.c l.n (λ j b. and_right _ _ (at j b)) (and_right _ _ ranges);
      }
    where
      mem_id : (j : ℕ) → j < l.c → Mem (id_at t l j) (ids_to t l l.c)
      mem_id j b = unfold ids_to in (rw zero-add at (run_mem (id_at t l) 0 l.c j b))

      every : {x : ℕ} → Mem x (ids_to t l l.c) → (j : ℕ) × (j < l.c) × (id_at t l j ≡ x)
      every m = unfold ids_to in (let (j, b, e) = mem_run (id_at t l) 0 l.c m in (j, b, sym (e ∙ ap (id_at t l) (zero-add j))))

      rising : ids_to t l l.c ≡ canonicals t l l.i → (j : ℕ) → suc j < l.c → id_at t l j < id_at t l (suc j)
      rising same j b =
          let long : length (ids_to t l l.c) ≡ l.c = unfold ids_to in map_length (id_at t l) 0 l.c in
          let r = ascends_at 0 (ids_to t l l.c) (subst (λ x. Ascends (λ a b. a < b) x) (sym same) canonicals_rise) j (omega arith) in
          let p = ids_at j (omega arith) in let q = ids_at (suc j) b in omega arith

  pub is_classes : ClassRule t l → good_classes t l ≡ true
  unfolding good_classes good_ids good_ranges good_range_at
  is_classes r = and_both (rw same (same_refl (canonicals t l l.i)))
      (and_both (all_of (good_range_at t l) l.c (λ j b. and_both (lt-ltb _ _ (r.filled j b)) (eq-eqb _ _ (r.joined.starts j b)))) (eq-eqb _ _ r.joined.ends))
    where
      ids_rise : Ascends (λ a b. a < b) (ids_to t l l.c)
      ids_rise = unfold ids_to in ascends_run (id_at t l) 0 l.c (λ i b. rw (zero-add i, zero-add (suc i)) (r.rising i b))

      there : (v : ℕ) → Mem v (ids_to t l l.c) → Mem v (canonicals t l l.i)
      there v m = unfold ids_to in (let (j, b, e) = mem_run (id_at t l) 0 l.c m in rw (e ∙ ap (id_at t l) (zero-add j)) (canonicals_mem (id_at t l j) (r.canonical j b)))

      back : (v : ℕ) → Mem v (canonicals t l l.i) → Mem v (ids_to t l l.c)
      back v m = unfold ids_to in (let (j, b, e) = r.every v (mem_canonicals v m) in rw (← e, ← zero-add j) (run_mem (id_at t l) 0 l.c j b))

      same : ids_to t l l.c ≡ canonicals t l l.i
      same = rising_same (ids_to t l l.c) (canonicals t l l.i) ids_rise canonicals_rise there back

  -- each node is a class's
  member : ClassRule t l → (i : ℕ) → i < l.n → (j : ℕ) × (k : ℕ) × (j < l.c) × (k < count_at t l j) × (first_at t l j + k ≡ i)
  member r i h = let (j, b, low, high) = joined_find l.c l.n r.joined i h in (j, i - first_at t l j, b, omega arith, omega arith)

  module _ (h : good_nodes t l ≡ true) where
    pub member_at : (j k : ℕ) → j < l.c → k < count_at t l j → good_member_at t l j k ≡ true
    unfolding good_nodes good_members good_members_at
    member_at j k b c = all_at (good_member_at t l j) (count_at t l j) (all_at (good_members_at t l) l.c (and_left _ _ (and_left _ _ h)) j b) k c

    node_at_lem : ClassRule t l → (i : ℕ) → i < l.n → good_node_at t l i ≡ true
    unfolding good_member_at
    node_at_lem r i b = let (j, k, c, d, e) = member r i b in rw e at (and_left _ _ (member_at j k c d))

    pub nodes : ClassRule t l → NodeRule t l
    unfolding good_nodes good_members good_node_at good_member_at good_child_at good_children
    nodes r = record {
      arity = λ i b. leb-true _ _ (and_left _ _ (node_at_lem r i b));
      joined = joined (kid_at t l) (arity_at t l) l.n l.k (λ i b. and_left _ _ (and_right _ _ (node_at_lem r i b))) (and_right _ _ (and_left _ _ h));
      children = λ x b. canonical (child_at t l x) (all_at (good_child_at t l) l.k (and_right _ _ h) x b);
      owner = λ j k b c. eqb-true _ _ (and_left _ _ (and_right _ _ (member_at j k b c)));
      rising = λ j k b c. rises_step (λ x. node_at t l (first_at t l j + x)) k (and_right _ _ (and_right _ _ (member_at j (suc k) b c)));
    }

  pub is_nodes : ClassRule t l → NodeRule t l → good_nodes t l ≡ true
  unfolding good_nodes good_members good_members_at good_node_at good_member_at good_child_at good_children
  is_nodes r s = and_both
      (and_both (all_of (good_members_at t l) l.c (λ j b. all_of (good_member_at t l j) (count_at t l j) (λ k c. member_good j k b c))) (eq-eqb _ _ s.joined.ends))
      (all_of (good_child_at t l) l.k (λ x b. is_canonical_lem _ (s.children x b)))
    where
      node_good : (i : ℕ) → i < l.n → good_node_at t l i ≡ true
      node_good i b = unfold good_node_at in and_both (le-leb _ _ (s.arity i b)) (and_both (eq-eqb _ _ (s.joined.starts i b)) (le-leb _ _ (joined_within s.joined i b)))

      member_good : (j k : ℕ) → j < l.c → k < count_at t l j → good_member_at t l j k ≡ true
      member_good j k b c = unfold good_member_at in and_both (node_good (first_at t l j + k) (let w = joined_within r.joined j b in omega arith))
          (and_both (eq-eqb _ _ (s.owner j k b c)) (step_rises (λ x. node_at t l (first_at t l j + x)) (count_at t l j) (λ x d. s.rising j x b d) k c))

  pub index : good_index t l ≡ true → IndexRule t l
  unfolding good_index good_index_at
  index h = record {
    below = λ x b. ltb-true _ _ (and_left _ _ (all_at (good_index_at t l) l.n h x b));
    rising = λ x b. rises_step (λ y. node_at t l (index_at t l y)) x (and_right _ _ (all_at (good_index_at t l) l.n h (suc x) b));
  }

  pub is_index : IndexRule t l → good_index t l ≡ true
  unfolding good_index good_index_at
  is_index r = all_of (good_index_at t l) l.n (λ x b. and_both (lt-ltb _ _ (r.below x b)) (step_rises (λ y. node_at t l (index_at t l y)) l.n r.rising x b))
