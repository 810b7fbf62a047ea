use Rattle.std.proofs.Common.{◌≡◌, map, take}
use Rattle.plan_tracing.specs.Lists.{mark_of}
use Rattle.plan_tracing.proofs.marking.marks_of.Given as goal

abbrev pub invariant-loop-place : goal.invariant-loop-place
invariant-loop-place l = l.rewrites ≡ map mark_of (take l.place-index l.places)
