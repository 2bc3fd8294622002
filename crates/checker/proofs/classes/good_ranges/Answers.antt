use Rattle.std.proofs.Common.{rules, refl}
use Rattle.meaning.specs.Refusal.{good_range_at, good_ranges}
use Rattle.meaning.proofs.Laws.Chains.{all_then, all_fails}
use Rattle.checker.proofs.classes.good_ranges.Goals as goal

pub returns-then-all : goal.returns-then-all
unfolding good_ranges
returns-then-all c = all_then (good_range_at c.args.t.now.words.now c.args.t.now.layout) _ refl _ _ _ c.all.ensures.ran (λ x b q k. search rules) c.if-all.true (search rules)

pub returns-else-all : goal.returns-else-all
unfolding good_ranges
returns-else-all c = all_fails (good_range_at c.args.t.now.words.now c.args.t.now.layout) _ refl _ _ _ c.all.ensures.ran (λ x b q k. search rules) c.if-all.false _
