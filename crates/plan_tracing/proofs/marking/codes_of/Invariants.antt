use Rattle.std.proofs.Common.{◌≡◌, ◌<◌, ◌^◌, map, take}
use Rattle.std.specs.List.{AllByRecursion}
use Rattle.exec_graph.specs.Places.{code}
use Rattle.exec_graph.specs.declared.graph.Place.{Place}
use Rattle.plan_tracing.proofs.marking.codes_of.Given as goal

abbrev pub invariant-loop-place : goal.invariant-loop-place
invariant-loop-place l = record {
  codes : l.codes.items ≡ map code (take l.place-index l.places);
  small : AllByRecursion (λ (c : Place). c.out < 2 ^ 32) (take l.place-index l.places);
}
