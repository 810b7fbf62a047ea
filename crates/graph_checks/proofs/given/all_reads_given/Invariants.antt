use Rattle.std.proofs.Common.{◌≡◌, drop}
use Rattle.std.specs.List.{list_all}
use Rattle.graph_checks.specs.inner.Numbers.{reads_given}
use Rattle.graph_checks.proofs.given.all_reads_given.Given as goal

abbrev pub invariant-loop-e : goal.invariant-loop-e
invariant-loop-e l = list_all (λ e. reads_given l.nodes e.node) (drop l.e-index l.nodes)
    ≡ list_all (λ e. reads_given l.nodes e.node) l.nodes
