use Rattle.std.proofs.Common.{ap, ◌∙◌}
use Rattle.meaning.specs.Entries.{answer, check_table}
use Rattle.mulavedrop.proofs.mulavedrop_check_table.Goals as goal

pub returns : goal.returns
unfolding check_table
returns c = ap (λ n. answer n 0) (c.number_of.ensures ∙ c.check.ensures.number)
