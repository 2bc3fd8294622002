use Rattle.std.proofs.Common.{not, refl, rules}
use Rattle.meaning.specs.PatternRefusal.{is_same, is_new}
use Rattle.meaning.proofs.Laws.Chains.{all_passes}
use Rattle.pattern.proofs.once.Nodes.is_new.Goals as goal

pub returns : goal.returns
unfolding is_new
returns c = all_passes (λ i. not (is_same c.args.self.now.parts.words.now i c.args.j)) _ refl _ _ _ c.all.ensures.ran (λ x b q k. search rules)
