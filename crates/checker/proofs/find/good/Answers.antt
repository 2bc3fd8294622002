use Rattle.std.proofs.Common.{rules, refl}
use Rattle.meaning.specs.Refusal.{good_find_at, good_find}
use Rattle.meaning.proofs.Laws.Chains.{all_passes}
use Rattle.checker.proofs.find.good.Goals as goal

pub returns : goal.returns
unfolding good_find
returns c = all_passes (good_find_at c.args.t.now.words.now c.args.t.now.layout) _ refl _ _ _ c.all.ensures.ran (λ x b q k. search rules)
