use Rattle.std.proofs.Common.{◌≡◌, drop}
use Rattle.std.specs.List.{list_all}
use Rattle.graph_checks.specs.inner.Numbers.{is_given}
use Rattle.graph_checks.proofs.given.are_given.Given as goal

abbrev pub invariant-loop-c : goal.invariant-loop-c
invariant-loop-c l = list_all (is_given l.nodes) (drop l.c-index l.places)
    ≡ list_all (is_given l.nodes) l.places
