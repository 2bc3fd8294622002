use Rattle.std.proofs.Common.{rules}
use Rattle.table.proofs.Classes.{its_nodes, absent}
use Rattle.table.proofs.checked.Table.nodes_of.Goals as goal

pub returns-in-Ok : goal.returns-in-Ok
returns-in-Ok c = its_nodes c.args.self.now.sound _ (λ k o h. search rules) _ _ _ c.in-Ok.ensures c.first_at.ensures.0 c.count_at.ensures.0

pub returns-in-Err : goal.returns-in-Err
returns-in-Err c = absent c.args.self.now.sound _ (λ k o h. search rules) _ c.in-Err.ensures
