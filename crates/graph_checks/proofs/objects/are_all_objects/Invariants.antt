use Rattle.std.proofs.Common.{◌≡◌, drop, map}
use Rattle.graph_checks.specs.inner.Objects.{are_all, is_object_in}
use Rattle.graph_checks.proofs.objects.are_all_objects.Given as goal

abbrev pub invariant-loop-c : goal.invariant-loop-c
invariant-loop-c l = are_all (map (is_object_in l.nodes) (drop l.c-index l.inputs))
    ≡ are_all (map (is_object_in l.nodes) l.inputs)
