use Rattle.partial_tables.proofs.Standing.{stands_both}
use Rattle.partial_tables.proofs.Merged.{merged-accumulated}
use Rattle.partial_tables.proofs.Finishing.{finished-accumulated}
use Rattle.partial_tables.proofs.laws.partials_law.Goals as goal

pub returns-clause-sum : goal.returns-clause-sum
returns-clause-sum c comb partials pairs more others_ one other =
    stands_both comb partials pairs more others_ one other

pub returns-clause-merged : goal.returns-clause-merged
returns-clause-merged c = merged-accumulated

pub returns-clause-finished : goal.returns-clause-finished
returns-clause-finished c = finished-accumulated
