use Rattle.std.proofs.Common.{◌≡◌}
use Rattle.std.specs.Prelude.{filter_map}
use Rattle.flume_value.specs.Parts.{left_of, right_of}
use Rattle.forest_steps.proofs.derived.sides_of.Given as goal

abbrev pub invariant-loop-either : goal.invariant-loop-either
invariant-loop-either l = record {
  lefts : l.sides.lefts.items ≡ filter_map left_of l.yielded;
  rights : l.sides.rights.items ≡ filter_map right_of l.yielded;
}
