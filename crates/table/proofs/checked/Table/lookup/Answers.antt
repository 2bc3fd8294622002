use Rattle.std.proofs.Common.{rules, sym, ◌∙◌}
use Rattle.meaning.proofs.Laws.Tables.{kids_within}
use Rattle.table.proofs.Keys.{names, told, there, nothing}
use Rattle.table.proofs.checked.Table.lookup.Goals as goal

pub search_by-requires : goal.search_by-requires
search_by-requires c = let s = c.args.self.now.sound in search (rules, names s, kids_within s)

pub returns-in_err-x : goal.returns-in_err-x
returns-in_err-x c = c.from_residual.ensures ∙ nothing c.args.self.now.sound _ _ (λ x r h. search (rules, told)) _ c.search_by.ensures (sym c.ok.ensures.value ∙ c.in_err-x.was)

pub returns : goal.returns
returns c = there c.args.self.now.sound _ _ (λ x r h. search (rules, told)) _ c.search_by.ensures _ (sym c.ok.ensures.value ∙ c.in_ok-x.was) _ _ c.index_at-node.ensures.0 c.owner_at.ensures.0
