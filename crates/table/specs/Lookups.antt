-- What lookup answers, and document 01's number and value for each case. Assumes nothing.
use Rattle.std.specs.Prelude.{ℕ, List, Option, None, Some}
use Rattle.meaning.specs.Graph.{Graph, lookup, all_nodes, place_in}
use Rattle.table.specs.declared.lookup.Found.{Found}

-- 0 for a node, 18 where there is none
abbrev pub number_of : Option Found → ℕ
number_of (Some f) = 0
number_of None = 18

-- the node's class
abbrev pub class_of : Option Found → Option ℕ
class_of (Some f) = Some f.class.0
class_of None = None

-- the node's number
abbrev pub place_of : Option Found → Option ℕ
place_of (Some f) = Some f.node
place_of None = None

-- both or nothing
unfoldable pub found : Option ℕ → Option ℕ → Option Found
found None c = None
found (Some i) None = None
found (Some i) (Some c) = Some (record { node = i; class = record { 0 = c } })

-- the one node o(ks) of the graph, by its number and its class
unfoldable pub found_at : Graph → ℕ → List ℕ → Option Found
found_at g o ks = found (place_in o ks (all_nodes g)) (lookup g o ks)
