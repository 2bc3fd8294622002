-- Where the walk over a run's nodes of one shape starts, and where halving meets one. Assumes nothing.
use Rattle.std.specs.Prelude.{ℕ}
use Rattle.table.specs.declared.shape.Shape.{Shape}
use Rattle.table.specs.declared.walk.Run.{Run}
use Rattle.table.specs.Spans.{block_start, Met}

abbrev pub start_of : Run → Shape → ℕ
start_of r s = block_start r.table.now.areas.words.now r.table.now.areas.layout r.span s.op s.arity

abbrev pub MetBy : Run → Shape → ℕ → Type 0
MetBy r s m = Met r.table.now.areas.words.now r.table.now.areas.layout r.span s.op s.arity m
