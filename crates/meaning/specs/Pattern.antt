-- Patterns as values: their nodes, and what is made of each node from its children. Assumes nothing.
use Rattle.std.specs.Prelude.{ℕ, ◌+◌, ◌-◌, ◌<◌, List, [], ◌∷◌, ◌++◌, cond, length, get_or, eqb}
use mathlib.Core.List.{Memᴰ as Mem}

-- a variable, or an operator over the pattern nodes of its children
pub data PNode : Type 0 where
  var : ℕ → PNode
  op : ℕ → List ℕ → PNode

abbrev pub Pattern : Type 0
Pattern = List PNode

-- a pattern of a multipattern, and the variable that stands for its root
pub record Bound : Type 0 where
  pub binder : ℕ
  pub pat : Pattern

abbrev pub node_of : Pattern → ℕ → PNode
node_of p n = get_or p n (var 0)

unfoldable pub kids_of : PNode → List ℕ
kids_of (var v) = []
kids_of (op o cs) = cs

abbrev pub root : Pattern → ℕ
root p = length p - 1

-- children stand before their parents, and there is a root
pub record Ordered (p : Pattern) : Type 0 where
  pub rooted : 0 < length p
  pub below : (n c : ℕ) → n < length p → Mem c (kids_of (node_of p n)) → c < n

-- a value for each node, made from the first to the last; a node's value is made from its children's
unfoldable pub build : {A : Type 0} → A → ((ℕ → A) → PNode → A) → Pattern → List A → List A
build d step [] acc = acc
build d step (n ∷ p) acc = build d step p (acc ++ (step (λ c. get_or acc c d) n ∷ []))

-- the value of node n
unfoldable pub value : {A : Type 0} → A → ((ℕ → A) → PNode → A) → Pattern → ℕ → A
value d step p n = get_or (build d step p []) n d

unfoldable pub insert : ℕ → List ℕ → List ℕ
insert v [] = v ∷ []
insert v (u ∷ l) = cond (eqb u v) (u ∷ l) (u ∷ insert v l)

unfoldable pub union : List ℕ → List ℕ → List ℕ
union [] m = m
union (v ∷ l) m = union l (insert v m)

unfoldable pub unions : (ℕ → List ℕ) → List ℕ → List ℕ
unions f [] = []
unions f (c ∷ cs) = union (f c) (unions f cs)

unfoldable pub sum : (ℕ → ℕ) → List ℕ → ℕ
sum f [] = 0
sum f (c ∷ cs) = f c + sum f cs

unfoldable pub free_of : (ℕ → List ℕ) → PNode → List ℕ
free_of i (var v) = v ∷ []
free_of i (op o cs) = unions i cs

-- the variables of node n, each once
unfoldable pub free : Pattern → ℕ → List ℕ
free p = value [] free_of p

unfoldable pub size_of : (ℕ → ℕ) → PNode → ℕ
size_of i (var v) = 0
size_of i (op o cs) = 1 + sum i cs

-- the operators of node n, shared ones counted each time
unfoldable pub size : Pattern → ℕ → ℕ
size p = value 0 size_of p

unfoldable pub occ_of : (ℕ → ℕ) → PNode → ℕ
occ_of i (var v) = 1
occ_of i (op o cs) = 1 + sum i cs

-- the occurrences of node n, shared ones counted each time
unfoldable pub occ : Pattern → ℕ → ℕ
occ p = value 0 occ_of p

-- those of a whole pattern
unfoldable pub occurrences : Pattern → ℕ
occurrences p = occ p (root p)
