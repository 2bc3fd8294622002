use Rattle.std.proofs.Common.{eqb, refl, rules, tests}
use Rattle.meaning.specs.PatternWords.{child_of}
use Rattle.meaning.specs.PatternRefusal.{is_used}
use Rattle.meaning.proofs.Laws.Chains.{some_passes}
use Rattle.pattern.proofs.parts.Parts.is_used.Goals as goal

pub returns : goal.returns
unfolding is_used
returns c =
    rw (← c.args.self.now.laid.counted.children) (some_passes (λ x. eqb (child_of c.args.self.now.words.now x) c.args.i) _ refl _ _ c.any.result c.any.ensures.ran (λ x b q k. search (rules, tests)))
