use Rattle.compiler.proofs.Weights.{SoFar}
use Rattle.compiler.proofs.load.weight_of.Given as goal

abbrev pub invariant-loop-child : goal.invariant-loop-child
invariant-loop-child l = SoFar l.pattern.parts.words.now l.i l.child-index l.free l.size
