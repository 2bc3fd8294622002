use Rattle.std.proofs.Common.{refl, rules}
use Rattle.meaning.specs.PatternRefusal.{good_part_at, good_parts}
use Rattle.meaning.proofs.Laws.Chains.{all_then, all_fails}
use Rattle.pattern.proofs.parts.Parts.good_each.Goals as goal

pub returns-then-all : goal.returns-then-all
unfolding good_parts
returns-then-all c = rw (← c.args.self.now.laid.counted.nodes, ← c.args.self.now.laid.counted.children) (all_then (good_part_at c.args.self.now.words.now) _ refl _ _ c.all.result c.all.ensures.ran (λ x b q k. search rules) c.if-all.true (search rules))

pub returns-else-all : goal.returns-else-all
unfolding good_parts
returns-else-all c = rw (← c.args.self.now.laid.counted.nodes, ← c.args.self.now.laid.counted.children) (all_fails (good_part_at c.args.self.now.words.now) _ refl _ _ c.all.result c.all.ensures.ran (λ x b q k. search rules) c.if-all.false _)
