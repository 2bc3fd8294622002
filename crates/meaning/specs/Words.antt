-- The words of a table, by document 01's areas. Assumes nothing.
use Rattle.std.specs.Prelude.{ℕ, ◌+◌, ◌*◌, List, map, get_or, take, drop}
use Rattle.meaning.specs.declared.Layout.{Layout}
use Rattle.meaning.specs.Graph.{Node, Class, Graph}
use Rattle.meaning.specs.Ranges.{from}

-- the word at i, or 0 past the end
abbrev pub word : List ℕ → ℕ → ℕ
word t i = get_or t i 0

-- where the areas of a table stand, by its counts
abbrev pub laid : ℕ → ℕ → ℕ → ℕ → Layout
laid i c n k = record {
  i = i;
  c = c;
  n = n;
  k = k;
  width = 3;
  find = 9;
  classes = 9 + i;
  nodes = 9 + i + 3 * c;
  children = 9 + i + 3 * c + 4 * n;
  index = 9 + i + 3 * c + 4 * n + k;
}

abbrev pub layout_of : List ℕ → Layout
layout_of t = laid (word t 0) (word t 1) (word t 2) (word t 3)

-- find[x]
abbrev pub find_at : List ℕ → Layout → ℕ → ℕ
find_at t l x = word t (l.find + x)

-- class record j: id, first node, node count
abbrev pub record_word : List ℕ → Layout → ℕ → ℕ → ℕ
record_word t l j f = word t (l.classes + j * l.width + f)

abbrev pub id_at : List ℕ → Layout → ℕ → ℕ
id_at t l j = record_word t l j 0

abbrev pub first_at : List ℕ → Layout → ℕ → ℕ
first_at t l j = record_word t l j 1

abbrev pub count_at : List ℕ → Layout → ℕ → ℕ
count_at t l j = record_word t l j 2

-- node i: operator, arity, first child, owning class
abbrev pub node_word : List ℕ → Layout → ℕ → ℕ → ℕ
node_word t l i f = word t (l.nodes + 4 * i + f)

abbrev pub op_at : List ℕ → Layout → ℕ → ℕ
op_at t l i = node_word t l i 0

abbrev pub arity_at : List ℕ → Layout → ℕ → ℕ
arity_at t l i = node_word t l i 1

abbrev pub kid_at : List ℕ → Layout → ℕ → ℕ
kid_at t l i = node_word t l i 2

abbrev pub owner_at : List ℕ → Layout → ℕ → ℕ
owner_at t l i = node_word t l i 3

abbrev pub child_at : List ℕ → Layout → ℕ → ℕ
child_at t l x = word t (l.children + x)

abbrev pub index_at : List ℕ → Layout → ℕ → ℕ
index_at t l x = word t (l.index + x)

-- node i with its children, a part of the table
unfoldable pub node_at : List ℕ → Layout → ℕ → Node
node_at t l i = record { op = op_at t l i; kids = take (arity_at t l i) (drop (l.children + kid_at t l i) t) }

unfoldable pub class_at : List ℕ → Layout → ℕ → Class
class_at t l j = record { id = id_at t l j; nodes = map (node_at t l) (from (first_at t l j) (count_at t l j)) }

-- the graph that a good table means
unfoldable pub graph_at : List ℕ → Layout → Graph
graph_at t l = map (class_at t l) (from 0 l.c)

-- and its find list
unfoldable pub find_of : List ℕ → Layout → List ℕ
find_of t l = map (find_at t l) (from 0 l.i)
