use Rattle.flume_value.specs.Parts.{left_of, right_of}
use Rattle.forest_steps.proofs.Deriving.{sides_on}
use Rattle.forest_steps.proofs.derived.sides_of.Goals as goal

pub loop-either-preserved : goal.loop-either-preserved
loop-either-preserved c = record {
  lefts = sides_on left_of c.loop-either.yielded c.loop-either.sides.lefts.items
      c.push_side.new.sides.lefts.items c.in-Some.either c.loop-either.invariant.lefts
      c.in_ok-push_side.ensures.left;
  rights = sides_on right_of c.loop-either.yielded c.loop-either.sides.rights.items
      c.push_side.new.sides.rights.items c.in-Some.either c.loop-either.invariant.rights
      c.in_ok-push_side.ensures.right;
}
