use Rattle.combine_table.proofs.Parts.{merged-accumulator, finished-accumulator}
use Rattle.combine_table.proofs.Merging.{accumulator-HasShape}
use Rattle.combine_table.proofs.laws.parts_law.Goals as goal

pub returns-clause-merged : goal.returns-clause-merged
returns-clause-merged c = merged-accumulator

pub returns-clause-finished : goal.returns-clause-finished
returns-clause-finished c = finished-accumulator

pub returns-clause-shape : goal.returns-clause-shape
returns-clause-shape c = accumulator-HasShape
