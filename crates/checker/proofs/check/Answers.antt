use Rattle.checker.proofs.Whole.{counted, stands}
use Rattle.checker.proofs.check.Goals as goal

pub layout-layout-requires : goal.layout-layout-requires
layout-layout-requires c = search counted

pub invariant_of-check_areas : goal.invariant_of-check_areas
invariant_of-check_areas c = record { placed = search stands }
