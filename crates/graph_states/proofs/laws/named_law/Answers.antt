use Rattle.graph_states.proofs.Named.{graph_again}
use Rattle.graph_states.proofs.Standing.{named_stands}
use Rattle.graph_states.proofs.laws.named_law.Goals as goal

pub returns-clause-same : goal.returns-clause-same
returns-clause-same c = λ g ok. graph_again g ok

pub returns-clause-stands : goal.returns-clause-stands
returns-clause-stands c = λ g ok. named_stands g ok
