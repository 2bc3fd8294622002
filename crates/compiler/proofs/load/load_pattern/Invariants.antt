use Rattle.std.proofs.Common.{◌≡◌, length}
use Rattle.compiler.specs.Loaded.{SizedTo, FreeTo}
use Rattle.compiler.proofs.load.load_pattern.Given as goal

abbrev pub invariant-loop-i : goal.invariant-loop-i
invariant-loop-i l = (length l.weights ≡ 64) × SizedTo l.pattern.parts.words.now l.weights l.i × FreeTo l.pattern.parts.words.now l.weights l.i
