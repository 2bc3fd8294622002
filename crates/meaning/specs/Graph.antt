-- A graph of classes, and the class of a key. Assumes nothing.
use Rattle.std.specs.Prelude.{ℕ, suc, ◌<◌, ◌≡◌, Bool, true, false, cond, eqb, ltb, length, Option, None, Some}
use mathlib.Core.List.{List, [], ◌∷◌, map, flat_map, Memᴰ as Mem}
use Rattle.meaning.specs.Tests.{and, same_list}
use Rattle.meaning.specs.Lists.{All, NoDup, Ascends}

-- an operator and its children's classes
pub record Node : Type 0 where
  pub op : ℕ
  pub kids : List ℕ

pub record Class : Type 0 where
  pub id : ℕ
  pub nodes : List Node

abbrev pub node : ℕ → List ℕ → Node
node o ks = record { op = o; kids = ks }

abbrev pub Graph : Type 0
Graph = List Class

-- the smaller number goes first, and on a tie the rest decides
unfoldable pub smaller : ℕ → ℕ → Bool → Bool
smaller a b rest = cond (ltb a b) true (cond (ltb b a) false rest)

-- left to right
unfoldable pub less_kids : List ℕ → List ℕ → Bool
less_kids [] y = false
less_kids (a ∷ x) [] = false
less_kids (a ∷ x) (b ∷ y) = smaller a b (less_kids x y)

-- the key order: by operator, then arity, then children
unfoldable pub less : Node → Node → Bool
less n m = smaller n.op m.op (smaller (length n.kids) (length m.kids) (less_kids n.kids m.kids))

-- the node has the key o(ks)
unfoldable pub is_key : ℕ → List ℕ → Node → Bool
is_key o ks n = and (eqb n.op o) (same_list n.kids ks)

unfoldable pub has_key : ℕ → List ℕ → List Node → Bool
has_key o ks [] = false
has_key o ks (n ∷ l) = cond (is_key o ks n) true (has_key o ks l)

-- the class of the one node o(ks), or nothing
unfoldable pub lookup : Graph → ℕ → List ℕ → Option ℕ
lookup [] o ks = None
lookup (c ∷ g) o ks = cond (has_key o ks c.nodes) (Some c.id) (lookup g o ks)

-- the nodes of the class with the id c
unfoldable pub nodes_of : Graph → ℕ → List Node
nodes_of [] c = []
nodes_of (k ∷ g) c = cond (eqb k.id c) k.nodes (nodes_of g c)

unfoldable pub ids : Graph → List ℕ
ids g = map (λ c. c.id) g

-- every node in table order: a node's number is its place here
unfoldable pub all_nodes : Graph → List Node
all_nodes g = flat_map (λ c. c.nodes) g

unfoldable pub next : Option ℕ → Option ℕ
next None = None
next (Some n) = Some (suc n)

-- the number of the first node o(ks) of the list, or nothing
unfoldable pub place_in : ℕ → List ℕ → List Node → Option ℕ
place_in o ks [] = None
place_in o ks (n ∷ l) = cond (is_key o ks n) (Some 0) (next (place_in o ks l))

-- the node has the operator and the arity
unfoldable pub fits : ℕ → ℕ → Node → Bool
fits o a n = and (eqb n.op o) (eqb (length n.kids) a)

-- the node comes before the nodes with the operator and the arity
unfoldable pub before_block : ℕ → ℕ → Node → Bool
before_block o a n = smaller n.op o (ltb (length n.kids) a)

-- what a good table's graph has, and all that the floors above use
pub record WellFormed (g : Graph) : Type 0 where
  pub rising : Ascends (λ a b. a < b) (ids g)
  pub sorted : All (λ c. Ascends (λ n m. less n m ≡ true) c.nodes) g
  pub filled : All (λ c. 0 < length c.nodes) g
  pub once : NoDup (all_nodes g)
  pub closed : (n : Node) (c : ℕ) → Mem n (all_nodes g) → Mem c n.kids → Mem c (ids g)
