use Rattle.std.proofs.Common.{refl, rules}
use Rattle.meaning.specs.PatternRefusal.{is_used, good_use}
use Rattle.meaning.proofs.Laws.Chains.{all_passes}
use Rattle.pattern.proofs.parts.Parts.good_use.Goals as goal

pub returns : goal.returns
unfolding good_use
returns c = rw (← c.args.self.now.laid.counted.nodes) (all_passes (is_used c.args.self.now.words.now) _ refl _ _ c.all.result c.all.ensures.ran (λ x b q k. search rules))
