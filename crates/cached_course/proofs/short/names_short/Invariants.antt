use Rattle.std.proofs.Common.{ℕ, ◌<◌, ◌^◌, List, get_or, length}
use Rattle.script_program.specs.declared.made.Output.{Output}
use Rattle.cached_course.proofs.short.names_short.Given as goal

abbrev pub invariant-loop-number : goal.invariant-loop-number
invariant-loop-number l =
    (k : ℕ) (d : List ℕ × Output) → k < l.number
    → length (get_or l.program.script.outputs k d).1.name < 2 ^ 64
