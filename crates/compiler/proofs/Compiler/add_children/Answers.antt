use Rattle.std.proofs.Common.{arith, rules}
use Rattle.std.proofs.lemmas.Grind.{common_steps}
use Rattle.pattern.proofs.Children.{turn}
use Rattle.compiler.proofs.Adding.{add_next, room_less}
use Rattle.compiler.proofs.Compiler.add_children.Goals as goal

pub loop-x-preserved : goal.loop-x-preserved
loop-x-preserved c = (
  grind (arith, common_steps, add_next),
  search (rules, room_less, turn),
)
