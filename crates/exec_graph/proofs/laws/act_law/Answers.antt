use Rattle.exec_graph.proofs.Barriers.{barrier_singleton, barrier_operate, barrier_side_input}
use Rattle.exec_graph.proofs.laws.act_law.Goals as goal

pub returns-clause-side_input : goal.returns-clause-side_input
returns-clause-side_input c = barrier_side_input

pub returns-clause-operate : goal.returns-clause-operate
returns-clause-operate c = barrier_operate

pub returns-clause-singleton : goal.returns-clause-singleton
returns-clause-singleton c = barrier_singleton
