use Rattle.std.proofs.Common.{rules, refl}
use Rattle.meaning.specs.Refusal.{good_child_at, good_children}
use Rattle.meaning.proofs.Laws.Chains.{all_passes}
use Rattle.checker.proofs.nodes.good_children.Goals as goal

pub returns : goal.returns
unfolding good_children
returns c = all_passes (good_child_at c.args.t.now.words.now c.args.t.now.layout) _ refl _ _ _ c.all.ensures.ran (λ x b q k. unfold good_child_at in search rules)
