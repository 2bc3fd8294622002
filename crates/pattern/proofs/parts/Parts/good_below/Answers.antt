use Rattle.std.proofs.Common.{ℕ, ◌+◌, ◌≤◌, ◌≡◌, List, length, ltb, ap, arith, rules, tests}
use Rattle.meaning.specs.PatternWords.{start_at, degree_at, child_of, children_of}
use Rattle.meaning.specs.PatternRefusal.{good_below}
use Rattle.meaning.proofs.Laws.Chains.{items_pass}
use Rattle.meaning.proofs.Laws.Patterns.{child_there, children_count}
use Rattle.pattern.specs.Laid.{Laid}
use Rattle.pattern.specs.declared.header.Counts.{Counts}
use Rattle.pattern.proofs.parts.Parts.good_below.Goals as goal

count : {w : List ℕ} {p : Counts} → Laid w p → (i : ℕ) → start_at w i + degree_at w i ≤ p.k → length (children_of w i) ≡ degree_at w i
count {w} l i h = let n = l.counted.nodes in let z = l.long in children_count w i (omega arith)

pub returns : goal.returns
unfolding good_below
returns c = let w = c.args.self.now.words.now in let i = c.args.i in
    items_pass (λ x. ltb x i) (λ x. ltb (child_of w (start_at w i + x)) i) (children_of w i) (degree_at w i) _ _ c.all.result c.all.ensures.ran
    (cc) (count c.args.self.now.laid i c.requires.1) (λ x b. ap (λ d. ltb d i) (child_there w i x b)) (λ x b q k. search (rules, tests))
