use Rattle.std.proofs.Common.{◌≡◌, ◌+◌, ◌-◌, length}
use Rattle.graph_build.specs.Calls.{numbers_kept_from}
use Rattle.graph_build.proofs.outputs.kept_count.Given as goal

abbrev pub invariant-loop-name : goal.invariant-loop-name
invariant-loop-name l =
    l.count + length (numbers_kept_from l.program.script l.name (l.end - l.name))
    ≡ length (numbers_kept_from l.program.script l.first (l.end - l.first))
