use Rattle.meaning.specs.Laws.Joins.{joined_within}
use Rattle.pattern.proofs.once.Nodes.node.Goals as goal

pub children-requires : goal.children-requires
children-requires c = (c.requires, joined_within c.args.self.now.joined _ c.requires)
