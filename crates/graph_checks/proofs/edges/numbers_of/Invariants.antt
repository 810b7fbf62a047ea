use Rattle.std.proofs.Common.{◌≡◌, ◌++◌, drop}
use Rattle.graph_checks.specs.inner.Edges.{numbers}
use Rattle.graph_checks.proofs.edges.numbers_of.Given as goal

abbrev pub invariant-loop-e : goal.invariant-loop-e
invariant-loop-e l = l.all.items ++ numbers (drop l.e-index l.nodes) ≡ numbers l.nodes
