-- What follows from a good table: the facts that the floors above may use. Assumes nothing.
use Rattle.std.proofs.Common.{ℕ, zero, suc, ◌+◌, ◌*◌, ◌-◌, ◌<◌, ◌≤◌, ◌≡◌, refl, ◌↔◌, Bool, true, false, cond, ltb, get_or, take, drop, sym, ◌∙◌, length-take, length-drop, get_or-take, get_or-drop, mul-le-mul_right, eq-eqb, ne_eqb, ltb-true, ltb-false, List, [], ◌∷◌, ◌++◌, map, arith, None, Some}
use Rattle.std.proofs.Math.Path.{ap}
use mathlib.Core.List.{flat_map, Memᴰ as Mem}
use mathlib.Core.List.Memᴰ.{cast as mem-cast, head, tail}
use Rattle.std.proofs.Math.ListN.{length}
use Rattle.std.proofs.Math.Nat.{zero-add}
use Rattle.meaning.specs.declared.Layout.{Layout}
use Rattle.meaning.specs.Lists.{All, all_of, NoDup, Ascends, map_map}
use Rattle.meaning.specs.Ranges.{from}
use Rattle.meaning.specs.Graph.{Graph, Node, Class, node, less, is_key, lookup, nodes_of, ids, all_nodes, next, place_in, WellFormed}
use Rattle.meaning.specs.Words.{layout_of, id_at, first_at, count_at, arity_at, kid_at, owner_at, index_at, node_at, class_at, graph_at}
use Rattle.meaning.specs.Good.{Limits, Shape, Canonical, ClassRule, Good, Placed, Sound}
use Rattle.meaning.specs.Laws.Runs.{map_length, mem_run, run_mem, run_once}
use Rattle.meaning.specs.Laws.Ascending.{lt_lt, ascends_run, rises_past}
use Rattle.meaning.proofs.Laws.Keys.{less_irrefl, less_trans, key_is, is_key_lem}
use Rattle.meaning.specs.Laws.Joins.{joined_within, joined_find, joined_run}
use Rattle.meaning.specs.Laws.Pigeons.{all_there}
use Rattle.meaning.proofs.Laws.Lookup.{class_found, place_none}

-- with right offsets the areas stand where the counts say
pub placed : (t : List ℕ) → Limits t → Shape t → Placed t (layout_of t)
placed t a b = record {
  ids = a.ids;
  records = a.classes;
  count = a.nodes;
  kids = a.children;
  wide = omega arith;
  classes = refl;
  nodes = omega arith;
  children = refl;
  index = refl;
  long = b.long;
}

-- a good table is sound by its own layout
pub good_sound : (t : List ℕ) → Good t → Sound t (layout_of t)
good_sound t g = record { placed = placed t g.limits g.shape; find = g.find; classes = g.classes; nodes = g.nodes; index = g.index }

-- class record j is one of the class area's
pub record_within : (j c w : ℕ) → j < c → j * w + w ≤ c * w
record_within j c w h = let k = mul-le-mul_right w h in omega (arith, k)

-- what stands in a part of a list
pub mem_part : (n a : ℕ) (t : List ℕ) (c : ℕ) → Mem c (take n (drop a t)) → (x : ℕ) × (x < n) × (c ≡ get_or t (a + x) 0)
mem_part n a t c m = let (x, b, e) = mem_at (take n (drop a t)) c m in
    let h = rw (length-take n (drop a t)) at b in
    let g : x < n = omega arith in
    (x, g, e ∙ get_or-take n (drop a t) x 0 g ∙ get_or-drop a t x 0)
  where
    mem_at : (l : List ℕ) (c : ℕ) → Mem c l → (x : ℕ) × (x < length l) × (c ≡ get_or l x 0)
    mem_at [] c m = elim m [ ]
    mem_at (y ∷ l) c (head e) = (0, omega arith, e)
    mem_at (y ∷ l) c (tail k) = let (x, b, e) = mem_at l c k in (suc x, omega arith, e)

nodes_none : (g : Graph) (c : ℕ) → (Mem c (ids g) → ⊥) → nodes_of g c ≡ []
unfolding nodes_of ids
nodes_none [] c n = refl
nodes_none (k ∷ g) c n = rw (ne_eqb k.id c (λ e. n (head (sym e)))) (nodes_none g c (λ m. n (tail m)))

flat_map_lem : {A B C : Type 0} (f : B → List C) (h : A → B) (l : List A) → flat_map f (map h l) ≡ flat_map (λ a. f (h a)) l
unfolding flat_map
flat_map_lem f h [] = refl
flat_map_lem f h (a ∷ l) = ap (λ r. f (h a) ++ r) (flat_map_lem f h l)

pub ids_of : (t : List ℕ) (l : Layout) → ids (graph_at t l) ≡ map (id_at t l) (from 0 l.c)
unfolding ids graph_at class_at
ids_of t l = sym (map_map (λ c. c.id) (class_at t l) (from 0 l.c))

-- the nodes of a class, by its place in a run of classes with different ids
nodes_of_run : (k : ℕ → Class) (a n j : ℕ) → ((x : ℕ) → x < n → (k (a + x)).id ≡ (k (a + j)).id → x ≡ j) → j < n → nodes_of (map k (from a n)) (k (a + j)).id ≡ (k (a + j)).nodes
unfolding nodes_of from
nodes_of_run k a zero j d h = absurd (omega arith)
nodes_of_run k a (suc n) zero d h = let e : a + 0 ≡ a = omega arith in rw (e, eq-eqb (k a).id (k a).id refl)
nodes_of_run k a (suc n) (suc j) d h =
    let e : a + suc j ≡ suc a + j = omega arith in
    let g : a + 0 ≡ a = omega arith in
    rw (e, ne_eqb (k a).id (k (suc a + j)).id (λ q. let z = d 0 (omega arith) (rw (g, e) q) in omega arith))
    (nodes_of_run k (suc a) n j (λ x b q. let f : a + suc x ≡ suc a + x = omega arith in let z = d (suc x) (omega arith) (rw (f, e) q) in omega arith) (omega arith))

-- the place of a node, in a run with no other of its key
place_of_run : (f : ℕ → Node) (o : ℕ) (ks : List ℕ) (a n j : ℕ) → ((x : ℕ) → x < n → f (a + x) ≡ node o ks → x ≡ j) → j < n → f (a + j) ≡ node o ks → place_in o ks (map f (from a n)) ≡ Some j
unfolding place_in from next
place_of_run f o ks a zero j d h k = absurd (omega arith)
place_of_run f o ks a (suc n) zero d h k = let e : a + 0 ≡ a = omega arith in rw (is_key_lem o ks (f a) (rw e at k))
place_of_run f o ks a (suc n) (suc j) d h k = go (is_key o ks (f a)) refl
    (place_of_run f o ks (suc a) n j (λ x b q. let e : a + suc x ≡ suc a + x = omega arith in let z = d (suc x) (omega arith) (rw e q) in omega arith) (omega arith)
    (let e : a + suc j ≡ suc a + j = omega arith in rw e at k))
  where
    go : (b : Bool) → is_key o ks (f a) ≡ b → place_in o ks (map f (from (suc a) n)) ≡ Some j → cond b (Some 0) (next (place_in o ks (map f (from (suc a) n)))) ≡ Some (suc j)
    go true e r = absurd (let g : a + 0 ≡ a = omega arith in let z = d 0 (omega arith) (rw g (key_is o ks (f a) e)) in omega arith)
    go false e r = rw r

-- nodes by their numbers
pub all_nodes_lem : {t : List ℕ} {l : Layout} → ClassRule t l → all_nodes (graph_at t l) ≡ map (node_at t l) (from 0 l.n)
unfolding all_nodes graph_at class_at
all_nodes_lem {t} {l} r = flat_map_lem (λ c. c.nodes) (class_at t l) (from 0 l.c) ∙ joined_run (node_at t l) l.c l.n r.joined

module _ {t : List ℕ} {l : Layout} (s : Sound t l) where
  -- the class ids are exactly the canonical ids
  pub id_canonical : (x : ℕ) → Mem x (ids (graph_at t l)) ↔ Canonical t l x
  id_canonical x = (λ m. there (rw (ids_of t l) at m), λ c. rw (ids_of t l) (back c))
    where
      there : Mem x (map (id_at t l) (from 0 l.c)) → Canonical t l x
      there m = let (j, b, e) = mem_run (id_at t l) 0 l.c m in rw (e ∙ ap (id_at t l) (zero-add j)) (s.classes.canonical j b)

      back : Canonical t l x → Mem x (map (id_at t l) (from 0 l.c))
      back c = let (j, b, e) = s.classes.every x c in rw (← e, ← zero-add j) (run_mem (id_at t l) 0 l.c j b)

  pub mem_node : (n : Node) → Mem n (all_nodes (graph_at t l)) ↔ ((i : ℕ) × (i < l.n) × (n ≡ node_at t l i))
  mem_node n = (
    λ m. (let (i, b, e) = mem_run (node_at t l) 0 l.n (rw (all_nodes_lem s.classes) at m) in (i, b, e ∙ ap (node_at t l) (zero-add i))),
    λ p. (let (i, b, e) = p in rw (all_nodes_lem s.classes, e, ← zero-add i) (run_mem (node_at t l) 0 l.n i b)),
  )

  -- of two places of the index, the later has the greater key
  pub index_rises : (x y : ℕ) → x < y → y < l.n → less (node_at t l (index_at t l x)) (node_at t l (index_at t l y)) ≡ true
  index_rises = rises_past less_trans (λ x. node_at t l (index_at t l x)) l.n s.index.rising

  index_apart : (x y : ℕ) → x < l.n → y < l.n → node_at t l (index_at t l x) ≡ node_at t l (index_at t l y) → x ≡ y
  index_apart x y a b e = go (ltb x y) refl (ltb y x) refl
    where
      go : (p : Bool) → ltb x y ≡ p → (q : Bool) → ltb y x ≡ q → x ≡ y
      go true p q r = absurd (less_irrefl _ (rw (← e) at (index_rises x y (ltb-true x y p) b)))
      go false p true r = absurd (less_irrefl _ (rw e at (index_rises y x (ltb-true y x r) a)))
      go false p false r = let u = ltb-false x y p in let v = ltb-false y x r in omega arith

  index_once : NoDup (map (index_at t l) (from 0 l.n))
  index_once = run_once (index_at t l) l.n (λ x y a b e. index_apart x y a b (ap (node_at t l) e))

  -- the index names every node
  pub index_onto : (i : ℕ) → i < l.n → (x : ℕ) × (x < l.n) × (index_at t l x ≡ i)
  index_onto i h = let (x, b, e) = mem_run (index_at t l) 0 l.n (all_there l.n (map (index_at t l) (from 0 l.n)) index_once within long i h) in
      (x, b, sym (e ∙ ap (index_at t l) (zero-add x)))
    where
      within : All (λ y. y < l.n) (map (index_at t l) (from 0 l.n))
      within = all_of _ (λ y m. let (x, b, e) = mem_run (index_at t l) 0 l.n m in let z = s.index.below (0 + x) (omega arith) in omega arith)

      long : l.n ≤ length (map (index_at t l) (from 0 l.n))
      long = rw (map_length (index_at t l) 0 l.n) (omega arith)

  -- so a key has at most one node
  pub node_once : (i j : ℕ) → i < l.n → j < l.n → node_at t l i ≡ node_at t l j → i ≡ j
  node_once i j a b e =
      let (x, p, f) = index_onto i a in let (y, q, g) = index_onto j b in
      sym f ∙ ap (index_at t l) (index_apart x y p q (ap (node_at t l) f ∙ e ∙ ap (node_at t l) (sym g))) ∙ g

  nodes_once : NoDup (map (node_at t l) (from 0 l.n))
  nodes_once = run_once (node_at t l) l.n node_once

  -- of two records, the later has the greater id
  pub ids_rise : (x y : ℕ) → x < y → y < l.c → id_at t l x < id_at t l y
  ids_rise = rises_past {R = λ a b. a < b} lt_lt (id_at t l) l.c s.classes.rising

  pub ids_apart : (x y : ℕ) → x < l.c → y < l.c → id_at t l x ≡ id_at t l y → x ≡ y
  ids_apart x y a b e = go (ltb x y) refl (ltb y x) refl
    where
      go : (p : Bool) → ltb x y ≡ p → (q : Bool) → ltb y x ≡ q → x ≡ y
      go true p q r = absurd (let z = ids_rise x y (ltb-true x y p) b in omega arith)
      go false p true r = absurd (let z = ids_rise y x (ltb-true y x r) a in omega arith)
      go false p false r = let u = ltb-false x y p in let v = ltb-false y x r in omega arith

  -- the nodes of class record j
  pub class_nodes : (j : ℕ) → j < l.c → nodes_of (graph_at t l) (id_at t l j) ≡ map (node_at t l) (from (first_at t l j) (count_at t l j))
  unfolding graph_at class_at
  class_nodes j h = rw (← zero-add j) (nodes_of_run (class_at t l) 0 l.c j (λ x b e. ids_apart x j b h (rw (zero-add x, zero-add j) at e)) h)

  -- a class that is not there has none
  pub no_class : (c : ℕ) → (Mem c (ids (graph_at t l)) → ⊥) → nodes_of (graph_at t l) c ≡ []
  no_class c n = nodes_none (graph_at t l) c n

  -- node i stands in the class that it names
  pub owner_nodes : (i : ℕ) → i < l.n → Mem (node_at t l i) (nodes_of (graph_at t l) (owner_at t l i))
  owner_nodes i h =
      let (j, b, low, high) = joined_find l.c l.n s.classes.joined i h in
      let k = i - first_at t l j in
      let e : first_at t l j + (i - first_at t l j) ≡ i = omega arith in
      let o : owner_at t l i ≡ id_at t l j = rw e at (s.nodes.owner j (i - first_at t l j) b (omega arith)) in
      rw (o, class_nodes j b) (rw e at (run_mem (node_at t l) (first_at t l j) (count_at t l j) (i - first_at t l j) (omega arith)))

  pub class_rises : (j : ℕ) → j < l.c → Ascends (λ n m. less n m ≡ true) (map (node_at t l) (from (first_at t l j) (count_at t l j)))
  class_rises j h = ascends_run (node_at t l) (first_at t l j) (count_at t l j) (λ k b. s.nodes.rising j k h b)

  -- the children of node i are in the children area
  pub kids_within : (i : ℕ) → i < l.n → kid_at t l i + arity_at t l i ≤ l.k
  kids_within i h = joined_within s.nodes.joined i h

  -- and as many as its arity
  pub node_arity : (i : ℕ) → i < l.n → length (node_at t l i).kids ≡ arity_at t l i
  unfolding node_at
  node_arity i h = let w = kids_within i h in let p = s.placed in simp (length-take, length-drop) (omega arith)

  pub kid_canonical : (i : ℕ) → i < l.n → (c : ℕ) → Mem c (node_at t l i).kids → Canonical t l c
  unfolding node_at
  kid_canonical i h c m =
      let w = kids_within i h in let p = s.placed in
      let (x, b, e) = mem_part (arity_at t l i) (l.children + kid_at t l i) t c m in
      let q : l.children + kid_at t l i + x ≡ l.children + (kid_at t l i + x) = omega arith in
      rw (e, q) (s.nodes.children (kid_at t l i + x) (omega arith))

  pub well_formed : WellFormed (graph_at t l)
  well_formed = record {
    rising = rw (ids_of t l) (ascends_run (id_at t l) 0 l.c (λ j b. rw (zero-add j, zero-add (suc j)) (s.classes.rising j b)));
    sorted = classes_all (λ c. Ascends (λ n m. less n m ≡ true) c.nodes) (λ j b. unfold class_at in class_rises j b);
    filled = classes_all (λ c. 0 < length c.nodes) (λ j b. unfold class_at in rw (map_length (node_at t l) (first_at t l j) (count_at t l j)) (s.classes.filled j b));
    once = rw (all_nodes_lem s.classes) nodes_once;
    closed = λ n c m k. closed n c ((mem_node n).0 m) k;
  }
    where
      classes_all : (P : Class → Type 0) → ((j : ℕ) → j < l.c → P (class_at t l j)) → All P (graph_at t l)
      classes_all P f = all_of (graph_at t l) (λ c m. unfold graph_at in (let (j, b, e) = mem_run (class_at t l) 0 l.c m in rw (e ∙ ap (class_at t l) (zero-add j)) (f j b)))

      closed : (n : Node) (c : ℕ) → ((i : ℕ) × (i < l.n) × (n ≡ node_at t l i)) → Mem c n.kids → Mem c (ids (graph_at t l))
      closed n c p k = let (i, b, e) = p in (id_canonical c).1 (kid_canonical i b c (rw e at k))

  -- what lookup owes for the key of node i: its number, and its class
  pub node_placed : (o : ℕ) (ks : List ℕ) (i : ℕ) → i < l.n → node_at t l i ≡ node o ks → place_in o ks (all_nodes (graph_at t l)) ≡ Some i
  node_placed o ks i h e = rw (all_nodes_lem s.classes)
      (place_of_run (node_at t l) o ks 0 l.n i (λ x b q. node_once x i b h (rw (zero-add x) at q ∙ sym e)) h (rw (zero-add i) e))

  pub node_found : (o : ℕ) (ks : List ℕ) (i : ℕ) → i < l.n → node_at t l i ≡ node o ks → lookup (graph_at t l) o ks ≡ Some (owner_at t l i)
  node_found o ks i h e = class_found (graph_at t l) o ks (owner_at t l i) well_formed.once (mem-cast (sym e) (owner_nodes i h))

  -- and for a key that no node has
  pub key_unplaced : (o : ℕ) (ks : List ℕ) → ((i : ℕ) → i < l.n → node_at t l i ≡ node o ks → ⊥) → place_in o ks (all_nodes (graph_at t l)) ≡ None
  key_unplaced o ks n = place_none o ks (all_nodes (graph_at t l)) (λ m. let (i, b, e) = (mem_node (node o ks)).0 m in n i b (sym e))
