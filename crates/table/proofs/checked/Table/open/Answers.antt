use Rattle.std.proofs.Common.{rules}
use Rattle.table.proofs.Opens.{passed_sound}
use Rattle.table.proofs.checked.Table.open.Goals as goal

pub invariant_of-areas : goal.invariant_of-areas
invariant_of-areas c = record { placed = (passed_sound _ _ _ c.check.ensures (search rules)).placed }

pub invariant_of-result : goal.invariant_of-result
invariant_of-result c = record { sound = passed_sound _ _ _ c.check.ensures (search rules) }
