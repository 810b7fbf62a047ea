use Rattle.std.proofs.Common.{◌≡◌, ◌-◌, slice_get}
use Rattle.graph_build.specs.Calls.{first_emitted}
use Rattle.graph_build.proofs.built.first_called.Given as goal

abbrev pub invariant-loop-name : goal.invariant-loop-name
invariant-loop-name l =
    slice_get (first_emitted l.program.script l.name (l.end - l.name)) 0
    ≡ slice_get (first_emitted l.program.script l.first (l.end - l.first)) 0
