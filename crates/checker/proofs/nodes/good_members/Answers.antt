use Rattle.std.proofs.Common.{rules, refl}
use Rattle.meaning.specs.Refusal.{good_members_at, good_members}
use Rattle.meaning.proofs.Laws.Chains.{all_then, all_fails}
use Rattle.std.proofs.lemmas.Iterator.{serves_from_Range}
use Rattle.checker.proofs.Members.{joined}
use Rattle.checker.proofs.nodes.good_members.Goals as goal

pub all-requires-clause-callable : goal.all-requires-clause-callable
all-requires-clause-callable c = serves_from_Range (λ x q k. search rules) (λ x a b. search (rules, joined, c.requires))

pub returns-then-all : goal.returns-then-all
unfolding good_members
returns-then-all c = all_then (good_members_at c.args.t.now.words.now c.args.t.now.layout) _ refl _ _ _ c.all.ensures.ran (λ x b q k. search rules) c.if-all.true (search rules)

pub returns-else-all : goal.returns-else-all
unfolding good_members
returns-else-all c = all_fails (good_members_at c.args.t.now.words.now c.args.t.now.layout) _ refl _ _ _ c.all.ensures.ran (λ x b q k. search rules) c.if-all.false _
