use Rattle.std.proofs.Common.{◌≡◌, ◌<◌, length}
use Rattle.meaning.specs.Compiler.{best}
use Rattle.compiler.specs.Lists.{held_in, no_item, goes_first}
use Rattle.compiler.proofs.Compiler.next.Given as goal

abbrev pub invariant-loop-i : goal.invariant-loop-i
invariant-loop-i l = (l.b < length (held_in l.self.items)) × (l.b ≡ best (goes_first l.weights l.self.bound) no_item (held_in l.self.items) l.i)
