use Rattle.std.proofs.Common.{◌≡◌, ◌-◌, slice_get}
use Rattle.graph_build.specs.Calls.{numbers_kept_from}
use Rattle.graph_build.proofs.built.nth_kept.Given as goal

abbrev pub invariant-loop-name : goal.invariant-loop-name
invariant-loop-name l =
    slice_get (numbers_kept_from l.program.script l.name (l.end - l.name)) l.left
    ≡ slice_get (numbers_kept_from l.program.script l.first (l.end - l.first)) l.place
