use Rattle.std.proofs.Common.{ℕ, List, true, ◌≡◌, sym, ◌∙◌}
use Rattle.meaning.specs.Good.{Joined}
use Rattle.meaning.specs.PatternRefusal.{good_parts}
use Rattle.meaning.specs.PatternWords.{degree_at, start_at}
use Rattle.meaning.specs.Tests.{apart}
use Rattle.meaning.proofs.Laws.PatternRules.{part_nodes}
use Rattle.pattern.specs.Laid.{Counted}
use Rattle.pattern.specs.declared.header.Counts.{Counts}
use Rattle.pattern.proofs.good_nodes.Goals.{then-good_each, else-good_each}
use Rattle.pattern.proofs.good_nodes.Goals as goal

joins : {w : List ℕ} {p : Counts} → Counted w p → good_parts w ≡ true → Joined (start_at w) (degree_at w) p.n p.k
joins {w} c h = rw (c.nodes, c.children) (part_nodes w h).joined

pub invariant_of-good_once : goal.invariant_of-good_once
invariant_of-good_once c = elim c.if-good_each.branch [
  | then-good_each w ↦ record { joined = joins c.args.parts.now.laid.counted (sym c.good_each.ensures ∙ w.if-good_each.true) }
  | else-good_each w ↦ apart (sym c.if-good_use.true ∙ w.value-is ∙ w.if-good_each.false)
]
