use Rattle.optimise.proofs.One.{one_plan, refined_graph, refined_marks, some_optimised, some_refined}
use Rattle.optimise.proofs.laws.one_law.Goals as goal

pub returns-clause-some : goal.returns-clause-some
returns-clause-some c = λ scales g can. some_optimised scales g can.ok can.unfused can.narrow

pub returns-clause-plan : goal.returns-clause-plan
returns-clause-plan c = λ scales g p q can. one_plan scales g p q can.ok can.unfused can.narrow

pub returns-clause-graph : goal.returns-clause-graph
returns-clause-graph c = refined_graph

pub returns-clause-marks : goal.returns-clause-marks
returns-clause-marks c = refined_marks

pub returns-clause-refined : goal.returns-clause-refined
returns-clause-refined c = some_refined
