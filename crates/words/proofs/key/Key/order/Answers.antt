use Rattle.words.proofs.Order.{ordered}
use Rattle.words.proofs.key.Key.order.Goals as goal

pub returns : goal.returns
returns c = ordered c.args.self.now c.args.other.now _ c.cmp.ensures
