-- The shape of a node. Assumes nothing.
use Rattle.std.specs.Prelude.{length}
use Rattle.meaning.specs.Graph.{Node}
use Rattle.table.specs.declared.shape.Shape.{Shape}

abbrev pub shape_of : Node → Shape
shape_of n = record { op = n.op; arity = length n.kids }
