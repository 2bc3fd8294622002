use Rattle.table.specs.Spans.{Met}
use Rattle.table.proofs.walk.Run.stepped_back.Given as goal

abbrev pub invariant-loop-k : goal.invariant-loop-k
invariant-loop-k l = Met l.self.table.now.areas.words.now l.self.table.now.areas.layout l.self.span l.shape.op l.shape.arity l.k
