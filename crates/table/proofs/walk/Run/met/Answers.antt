use Rattle.std.proofs.Common.{rules}
use Rattle.table.proofs.Blocks.{halved}
use Rattle.table.proofs.Shapes.{ordered}
use Rattle.table.proofs.walk.Run.met.Goals as goal

pub returns : goal.returns
returns c = halved _ c.args.self.now.rising _ _ (λ k o h. search (rules, ordered)) _ c.search_by.ensures _ (search rules)
