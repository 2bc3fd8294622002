use Rattle.std.proofs.Common.{rules, ◌∙◌}
use Rattle.std.proofs.lemmas.Iterator.{first_from_Range}
use Rattle.table.proofs.Blocks.{in_line}
use Rattle.table.proofs.walk.Run.start_in_line.Goals as goal

pub returns : goal.returns
returns c = c.unwrap_or.ensures ∙ in_line _ c.args.self.now.rising _ _ _ (first_from_Range _ _ _ _ _ _ c.find.ensures.ran (λ x q k. search rules) (λ x q k. search rules))
