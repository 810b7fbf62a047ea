use Rattle.std.proofs.Common.{◌≡◌, drop, map}
use Rattle.exec_plan.specs.Wellformed.{is_object_place}
use Rattle.plan_checks.specs.inner.Tests.{are_all}
use Rattle.plan_checks.proofs.objects.are_all_objects.Given as goal

abbrev pub invariant-loop-place : goal.invariant-loop-place
invariant-loop-place l = are_all
    (map (is_object_place l.objects l.stages) (drop l.place-index l.takes))
    ≡ are_all (map (is_object_place l.objects l.stages) l.takes)
