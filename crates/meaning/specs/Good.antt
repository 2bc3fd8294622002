-- When a table is good: document 01's rules, a line each. Assumes nothing.
use Rattle.std.specs.Prelude.{ℕ, suc, ◌+◌, ◌*◌, ◌<◌, ◌≤◌, ◌≡◌, true, List, length}
use Rattle.meaning.specs.declared.Layout.{Layout}
use Rattle.meaning.specs.Graph.{less}
use Rattle.meaning.specs.Ranges.{end_from}
use Rattle.meaning.specs.Words.{word, layout_of, find_at, id_at, first_at, count_at, arity_at, kid_at, owner_at, child_at, index_at, node_at}

-- the counts are within their limits
pub record Limits (t : List ℕ) : Type 0 where
  pub ids : word t 0 ≤ 65536
  pub classes : word t 1 ≤ 65536
  pub nodes : word t 2 ≤ 65536
  pub children : word t 3 ≤ 262144

-- the five areas follow one another without gaps, to the end
pub record Shape (t : List ℕ) : Type 0 where
  pub find : word t 4 ≡ (layout_of t).find
  pub classes : word t 5 ≡ (layout_of t).classes
  pub nodes : word t 6 ≡ (layout_of t).nodes
  pub children : word t 7 ≡ (layout_of t).children
  pub index : word t 8 ≡ (layout_of t).index
  pub long : length t ≡ (layout_of t).index + word t 2

-- each range starts where the one before it ends, from the base to the total
pub record JoinedFrom (base : ℕ) (first count : ℕ → ℕ) (n total : ℕ) : Type 0 where
  pub starts : (i : ℕ) → i < n → first i ≡ end_from base first count i
  pub ends : end_from base first count n ≡ total

abbrev pub Joined : (ℕ → ℕ) → (ℕ → ℕ) → ℕ → ℕ → Type 0
Joined = JoinedFrom 0

module _ (t : List ℕ) (l : Layout) where
  pub record Canonical (x : ℕ) : Type 0 where
    pub below : x < l.i
    pub fixed : find_at t l x ≡ x

  pub record FindRule : Type 0 where
    pub below : (x : ℕ) → x < l.i → find_at t l x < l.i
    pub fixed : (x : ℕ) → x < l.i → find_at t l (find_at t l x) ≡ find_at t l x

  pub record ClassRule : Type 0 where
    pub rising : (j : ℕ) → suc j < l.c → id_at t l j < id_at t l (suc j)
    pub canonical : (j : ℕ) → j < l.c → Canonical (id_at t l j)
    pub every : (x : ℕ) → Canonical x → (j : ℕ) × (j < l.c) × (id_at t l j ≡ x)
    pub filled : (j : ℕ) → j < l.c → 0 < count_at t l j
    pub joined : Joined (first_at t l) (count_at t l) l.c l.n

  pub record NodeRule : Type 0 where
    pub arity : (i : ℕ) → i < l.n → arity_at t l i ≤ 8
    pub joined : Joined (kid_at t l) (arity_at t l) l.n l.k
    pub children : (x : ℕ) → x < l.k → Canonical (child_at t l x)
    pub owner : (j k : ℕ) → j < l.c → k < count_at t l j → owner_at t l (first_at t l j + k) ≡ id_at t l j
    pub rising : (j k : ℕ) → j < l.c → suc k < count_at t l j
        → less (node_at t l (first_at t l j + k)) (node_at t l (first_at t l j + suc k)) ≡ true

  pub record IndexRule : Type 0 where
    pub below : (x : ℕ) → x < l.n → index_at t l x < l.n
    pub rising : (x : ℕ) → suc x < l.n → less (node_at t l (index_at t l x)) (node_at t l (index_at t l (suc x))) ≡ true

-- a good table
pub record Good (t : List ℕ) : Type 0 where
  pub header : 9 ≤ length t
  pub limits : Limits t
  pub shape : Shape t
  pub find : FindRule t (layout_of t)
  pub classes : ClassRule t (layout_of t)
  pub nodes : NodeRule t (layout_of t)
  pub index : IndexRule t (layout_of t)

-- document 01's number for the words t, in its order
pub data Numbered (t : List ℕ) : ℕ → Type 0 where
  good : Good t → Numbered t 0
  short : length t < 9 → Numbered t 1
  over : 9 ≤ length t → (Limits t → ⊥) → Numbered t 2
  misplaced : 9 ≤ length t → Limits t → (Shape t → ⊥) → Numbered t 1
  find_broken : 9 ≤ length t → Limits t → Shape t → (FindRule t (layout_of t) → ⊥) → Numbered t 3
  class_broken : 9 ≤ length t → Limits t → Shape t → FindRule t (layout_of t) → (ClassRule t (layout_of t) → ⊥) → Numbered t 4
  node_broken : 9 ≤ length t → Limits t → Shape t → FindRule t (layout_of t) → ClassRule t (layout_of t) → (NodeRule t (layout_of t) → ⊥) → Numbered t 5
  index_broken : 9 ≤ length t → Limits t → Shape t → FindRule t (layout_of t) → ClassRule t (layout_of t) → NodeRule t (layout_of t) → (IndexRule t (layout_of t) → ⊥) → Numbered t 6

-- the areas stand where the layout says, within the words
pub record Placed (t : List ℕ) (l : Layout) : Type 0 where
  pub ids : l.i ≤ 65536
  pub records : l.c ≤ 65536
  pub count : l.n ≤ 65536
  pub kids : l.k ≤ 262144
  pub wide : 3 ≤ l.width
  pub classes : l.classes ≡ l.find + l.i
  pub nodes : l.nodes ≡ l.classes + l.c * l.width
  pub children : l.children ≡ l.nodes + 4 * l.n
  pub index : l.index ≡ l.children + l.k
  pub long : length t ≡ l.index + l.n

-- what a checked table and its layout promise to the floors above
pub record Sound (t : List ℕ) (l : Layout) : Type 0 where
  pub placed : Placed t l
  pub find : FindRule t l
  pub classes : ClassRule t l
  pub nodes : NodeRule t l
  pub index : IndexRule t l
