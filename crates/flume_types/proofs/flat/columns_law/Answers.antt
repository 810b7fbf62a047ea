use Rattle.flume_types.proofs.CellLemmas.{cells_of-are_filled, columns_of-input, has_type-input}
use Rattle.flume_types.proofs.flat.columns_law.Goals as goal

pub returns-clause-cells : goal.returns-clause-cells
returns-clause-cells c = cells_of-are_filled

pub returns-clause-input : goal.returns-clause-input
returns-clause-input c = columns_of-input

pub returns-clause-records : goal.returns-clause-records
returns-clause-records c = has_type-input
