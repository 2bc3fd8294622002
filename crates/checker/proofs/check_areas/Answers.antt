use Rattle.checker.proofs.Areas.{classes_told, nodes_told}
use Rattle.checker.proofs.check_areas.Goals as goal

pub good-requires-3 : goal.good-requires-3
good-requires-3 c = search classes_told

pub good-requires-4 : goal.good-requires-4
good-requires-4 c = search (classes_told, nodes_told)
