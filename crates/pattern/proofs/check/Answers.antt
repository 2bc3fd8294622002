use Rattle.std.proofs.Common.{ℕ, List, Bool, true, false, not, ◌≡◌, sym, ◌∙◌}
use Rattle.meaning.specs.GoodPattern.{Downward}
use Rattle.meaning.specs.PatternRefusal.{good_pattern_limits, good_pattern_shape, good_pattern_nodes}
use Rattle.meaning.proofs.Laws.PatternRules.{pattern_limits, pattern_shape, pattern_nodes}
use Rattle.meaning.proofs.Laws.Patterns.{downward}
use Rattle.pattern.specs.Laid.{Counted, Laid, laid}
use Rattle.pattern.specs.declared.header.Counts.{Counts}
use Rattle.pattern.proofs.check.Goals as goal

passed : (a b : Bool) → a ≡ b → not a ≡ false → b ≡ true
passed true b e h = sym e
passed false b e h = sym e ∙ sym h

stands : (w : List ℕ) (p : Counts) (a b : Bool) → a ≡ good_pattern_limits w → not a ≡ false → b ≡ good_pattern_shape w → not b ≡ false → Counted w p → Laid w p
stands w p a b e h f k c = laid (pattern_limits w (passed _ _ e h)) (pattern_shape w (passed _ _ f k)) c

good : (w : List ℕ) (a : Bool) → a ≡ good_pattern_nodes w → not a ≡ false → Downward w
good w a e h = downward (pattern_nodes w (passed _ _ e h))

pub invariant_of-parts : goal.invariant_of-parts
invariant_of-parts c = record { laid = search stands }

pub invariant_of-pattern : goal.invariant_of-pattern
invariant_of-pattern c = record { nodes = search good }
