use Rattle.std.proofs.Common.{refl, rules}
use Rattle.meaning.specs.PatternRefusal.{is_new, good_once}
use Rattle.meaning.proofs.Laws.Chains.{all_passes}
use Rattle.pattern.proofs.once.Nodes.good_once.Goals as goal

pub returns : goal.returns
unfolding good_once
returns c = rw (← c.args.self.now.parts.laid.counted.nodes) (all_passes (is_new c.args.self.now.parts.words.now) _ refl _ _ c.all.result c.all.ensures.ran (λ x b q k. search rules))
