-- A class's nodes, and what lookup finds: they agree in a well-formed graph. Assumes nothing.
use Rattle.std.proofs.Common.{ℕ, ◌≡◌, refl, Bool, true, false, cond, eqb, sym, ap, arith, eqb-true, eq-eqb, ne_eqb, List, [], ◌∷◌, ◌++◌, None, Some}
use mathlib.Core.List.{flat_map, Memᴰ as Mem}
use mathlib.Core.List.Memᴰ.{append_left as mem-left, append_right as mem-right, cast as mem-cast, head, not-nil, tail}
use Rattle.meaning.specs.Lists.{All, NoDup, empty, more, all_of, nodup_left, nodup_right, nodup_apart}
use Rattle.meaning.specs.Graph.{Graph, Node, node, is_key, has_key, lookup, nodes_of, ids, all_nodes, next, place_in, WellFormed}
use Rattle.meaning.specs.Laws.Ascending.{lt_lt, ascends_once}
use Rattle.meaning.proofs.Laws.Keys.{key_is, is_key_lem}

-- what the matcher may know of a graph: the nodes of a class and lookup agree, nothing twice, children are classes
pub record Reads (g : Graph) : Type 0 where
  pub found : (o : ℕ) (ks : List ℕ) (c : ℕ) → Mem (node o ks) (nodes_of g c) → lookup g o ks ≡ Some c
  pub listed : (o : ℕ) (ks : List ℕ) (c : ℕ) → lookup g o ks ≡ Some c → Mem (node o ks) (nodes_of g c)
  pub once : (c : ℕ) → NoDup (nodes_of g c)
  pub apart : NoDup (ids g)
  pub closed : (n : Node) (c : ℕ) → Mem n (nodes_of g c) → All (λ d. Mem d (ids g)) n.kids

pub key_mem : (o : ℕ) (ks : List ℕ) (l : List Node) → has_key o ks l ≡ true → Mem (node o ks) l
unfolding has_key
key_mem o ks [] h = absurd (let z : ◌≡◌ {A = ℕ} 0 1 = cc in omega arith)
key_mem o ks (n ∷ l) h = go (λ r. key_mem o ks l r) (is_key o ks n) refl h
  where
    go : (has_key o ks l ≡ true → Mem (node o ks) l) → (b : Bool) → is_key o ks n ≡ b → cond b true (has_key o ks l) ≡ true → Mem (node o ks) (n ∷ l)
    go f true e h = head (sym (key_is o ks n e))
    go f false e h = tail (f h)

pub mem_key : (o : ℕ) (ks : List ℕ) (l : List Node) → Mem (node o ks) l → has_key o ks l ≡ true
unfolding has_key
mem_key o ks [] m = elim m [ ]
mem_key o ks (n ∷ l) (head e) = rw (is_key_lem o ks n (sym e))
mem_key o ks (n ∷ l) (tail m) = go (mem_key o ks l m) (is_key o ks n)
  where
    go : has_key o ks l ≡ true → (b : Bool) → cond b true (has_key o ks l) ≡ true
    go f true = refl
    go f false = f

pub no_key : (o : ℕ) (ks : List ℕ) (l : List Node) → (Mem (node o ks) l → ⊥) → has_key o ks l ≡ false
no_key o ks l n = go (has_key o ks l) refl
  where
    go : (b : Bool) → has_key o ks l ≡ b → b ≡ false
    go true e = absurd (n (key_mem o ks l e))
    go false e = refl

pub class_node : (g : Graph) (c : ℕ) (n : Node) → Mem n (nodes_of g c) → Mem n (all_nodes g)
unfolding nodes_of all_nodes flat_map
class_node [] c n m = m
class_node (k ∷ g) c n m = go (eqb k.id c) m (λ r. class_node g c n r)
  where
    go : (b : Bool) → Mem n (cond b k.nodes (nodes_of g c)) → (Mem n (nodes_of g c) → Mem n (all_nodes g)) → Mem n (k.nodes ++ all_nodes g)
    go true m f = mem-left (all_nodes g) m
    go false m f = mem-right k.nodes (f m)

pub class_once : (g : Graph) (c : ℕ) → NoDup (all_nodes g) → NoDup (nodes_of g c)
unfolding nodes_of all_nodes flat_map
class_once [] c d = empty
class_once (k ∷ g) c d = go (eqb k.id c) (class_once g c (nodup_right k.nodes d))
  where
    go : (b : Bool) → NoDup (nodes_of g c) → NoDup (cond b k.nodes (nodes_of g c))
    go true f = nodup_left k.nodes (all_nodes g) d
    go false f = f

-- a node of a class is found there
pub class_found : (g : Graph) (o : ℕ) (ks : List ℕ) (c : ℕ) → NoDup (all_nodes g) → Mem (node o ks) (nodes_of g c) → lookup g o ks ≡ Some c
unfolding nodes_of all_nodes flat_map lookup
class_found [] o ks c d m = absurd (not-nil m)
class_found (k ∷ g) o ks c d m = go (eqb k.id c) refl m (λ r. class_found g o ks c (nodup_right k.nodes d) r)
  where
    go : (b : Bool) → eqb k.id c ≡ b → Mem (node o ks) (cond b k.nodes (nodes_of g c)) → (Mem (node o ks) (nodes_of g c) → lookup g o ks ≡ Some c)
        → cond (has_key o ks k.nodes) (Some k.id) (lookup g o ks) ≡ Some c
    go true e m f = rw (mem_key o ks k.nodes m) (ap Some (eqb-true k.id c e))
    go false e m f = rw (no_key o ks k.nodes (λ j. nodup_apart k.nodes d j (class_node g c (node o ks) m))) (f m)

pub found_id : (g : Graph) (o : ℕ) (ks : List ℕ) (c : ℕ) → lookup g o ks ≡ Some c → Mem c (ids g)
unfolding ids lookup
found_id [] o ks c e = absurd (let z : ◌≡◌ {A = ℕ} 0 1 = cc in omega arith)
found_id (k ∷ g) o ks c e = go (has_key o ks k.nodes) e (λ r. found_id g o ks c r)
  where
    go : (b : Bool) → cond b (Some k.id) (lookup g o ks) ≡ Some c → (lookup g o ks ≡ Some c → Mem c (ids g)) → Mem c (k.id ∷ ids g)
    go true e f = let s : c ≡ k.id = cc in head s
    go false e f = tail (f e)

-- what is found is a node of that class
pub found_class : (g : Graph) (o : ℕ) (ks : List ℕ) (c : ℕ) → NoDup (ids g) → lookup g o ks ≡ Some c → Mem (node o ks) (nodes_of g c)
unfolding nodes_of ids lookup
found_class [] o ks c d e = absurd (let z : ◌≡◌ {A = ℕ} 0 1 = cc in omega arith)
found_class (k ∷ g) o ks c (more n d) e = go (has_key o ks k.nodes) refl e (λ r. found_class g o ks c d r)
  where
    go : (b : Bool) → has_key o ks k.nodes ≡ b → cond b (Some k.id) (lookup g o ks) ≡ Some c → (lookup g o ks ≡ Some c → Mem (node o ks) (nodes_of g c))
        → Mem (node o ks) (cond (eqb k.id c) k.nodes (nodes_of g c))
    go true h e f = let s : k.id ≡ c = cc in rw (eq-eqb k.id c s) (key_mem o ks k.nodes h)
    go false h e f = rw (ne_eqb k.id c (λ s. n (mem-cast s (found_id g o ks c e)))) (f e)

-- class ids stand once
pub ids_once : {g : Graph} → WellFormed g → NoDup (ids g)
ids_once w = ascends_once lt_lt (λ x h. omega arith) w.rising

pub reads : (g : Graph) → WellFormed g → Reads g
reads g w = record {
  found = λ o ks c m. class_found g o ks c w.once m;
  listed = λ o ks c e. found_class g o ks c (ids_once w) e;
  once = λ c. class_once g c w.once;
  apart = ids_once w;
  closed = λ n c m. all_of n.kids (λ d k. w.closed n d (class_node g c n m) k);
}

-- no node with the key: nothing is found
pub lookup_none : (g : Graph) (o : ℕ) (ks : List ℕ) → (Mem (node o ks) (all_nodes g) → ⊥) → lookup g o ks ≡ None
unfolding lookup all_nodes flat_map
lookup_none [] o ks n = refl
lookup_none (k ∷ g) o ks n = rw (no_key o ks k.nodes (λ m. n (mem-left (all_nodes g) m))) (lookup_none g o ks (λ m. n (mem-right k.nodes m)))

pub place_none : (o : ℕ) (ks : List ℕ) (l : List Node) → (Mem (node o ks) l → ⊥) → place_in o ks l ≡ None
unfolding place_in next
place_none o ks [] n = refl
place_none o ks (m ∷ l) n = go (is_key o ks m) refl (place_none o ks l (λ k. n (tail k)))
  where
    go : (b : Bool) → is_key o ks m ≡ b → place_in o ks l ≡ None → cond b (Some 0) (next (place_in o ks l)) ≡ None
    go true e f = absurd (n (head (sym (key_is o ks m e))))
    go false e f = rw f
