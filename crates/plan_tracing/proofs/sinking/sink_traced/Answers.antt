use Rattle.std.proofs.Common.{sym, subst}
use Rattle.exec_graph.specs.Wellformed.{IsGraphOk}
use Rattle.exec_graph.specs.declared.graph.Graph.{Graph}
use Rattle.graph_tracing.specs.Sinks.{IsSinking}
use Rattle.sink_laws.specs.Chain.{IsSunk}
use Rattle.plan_tracing.proofs.sinking.sink_traced.Goals as goal

pub sinks_of-requires : goal.sinks_of-requires
sinks_of-requires c = subst IsGraphOk (sym c.in_ok-copy.ensures) c.requires

pub returns-clause-sinking : goal.returns-clause-sinking
returns-clause-sinking c =
    let last : Graph = c.in_ok-graph.graph in
    let sunk : IsSunk c.in_ok-copy.copy last =
    subst (λ (g : Graph). IsSunk g last) (sym c.in_ok-copy.ensures) c.in_ok-graph.ensures.sunk in
    subst (λ (g : Graph). IsSinking g c.in_ok-rewrites.rewrites last) c.in_ok-copy.ensures
    (c.in_ok-rewrites.ensures last sunk)
