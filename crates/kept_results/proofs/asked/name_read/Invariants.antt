use Rattle.std.proofs.Common.{◌≡◌, drop}
use Rattle.kept_results.specs.Asked.{name_read}
use Rattle.kept_results.proofs.asked.name_read.Given as goal

abbrev pub invariant-loop-place : goal.invariant-loop-place
invariant-loop-place l =
    name_read (drop l.place l.program.script.outputs) l.number
    ≡ name_read l.program.script.outputs l.number
