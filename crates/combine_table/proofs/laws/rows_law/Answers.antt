use Rattle.combine_table.proofs.Rows.{rounded_down, within, mean_of_none, repeated}
use Rattle.combine_table.proofs.laws.rows_law.Goals as goal

pub returns-clause-rounded_down : goal.returns-clause-rounded_down
returns-clause-rounded_down c = rounded_down

pub returns-clause-within : goal.returns-clause-within
returns-clause-within c = within

pub returns-clause-mean_of_none : goal.returns-clause-mean_of_none
returns-clause-mean_of_none c = mean_of_none

pub returns-clause-repeated : goal.returns-clause-repeated
returns-clause-repeated c = repeated
