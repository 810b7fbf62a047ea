use Rattle.combine_table.proofs.Merging.{merged-assoc, merged-comm, merged-unit_left, merged-unit_right, merged-HasShape}
use Rattle.combine_table.proofs.laws.merge_law.Goals as goal

pub returns-clause-associative : goal.returns-clause-associative
returns-clause-associative c = merged-assoc

pub returns-clause-commutative : goal.returns-clause-commutative
returns-clause-commutative c = merged-comm

pub returns-clause-unit_left : goal.returns-clause-unit_left
returns-clause-unit_left c = merged-unit_left

pub returns-clause-unit_right : goal.returns-clause-unit_right
returns-clause-unit_right c = merged-unit_right

pub returns-clause-shape : goal.returns-clause-shape
returns-clause-shape c = merged-HasShape
