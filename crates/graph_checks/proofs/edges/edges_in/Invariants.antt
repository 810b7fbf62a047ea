use Rattle.std.proofs.Common.{◌≡◌, ◌++◌, drop}
use Rattle.graph_checks.specs.inner.Edges.{edges_in}
use Rattle.graph_checks.proofs.edges.edges_in.Given as goal

abbrev pub invariant-loop-c : goal.invariant-loop-c
invariant-loop-c l = l.all ++ edges_in l.numbers (drop l.c-index l.places)
    ≡ edges_in l.numbers l.places
