use Rattle.combine_table.proofs.Rows.{quotient_is}
use Rattle.combine_table.proofs.laws.quotient_law.Goals as goal

pub returns : goal.returns
returns c = quotient_is
