use Rattle.std.proofs.Common.{◌≡◌, ◌-◌}
use Rattle.graph_build.specs.Calls.{needed_from, number_behind}
use Rattle.graph_build.proofs.outputs.count_needed.Given as goal

abbrev pub invariant-loop-name : goal.invariant-loop-name
invariant-loop-name l =
    number_behind l.count (needed_from l.program.script l.name (l.end - l.name))
    ≡ number_behind 0 (needed_from l.program.script l.first (l.end - l.first))
