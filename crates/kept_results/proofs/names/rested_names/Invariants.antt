use Rattle.std.proofs.Common.{◌≡◌, ◌++◌, drop}
use Rattle.kept_results.proofs.Steps.{told_from}
use Rattle.script_program.specs.Rested.{rested_names, rests}
use Rattle.kept_results.proofs.names.rested_names.Given as goal

abbrev pub invariant-loop-number : goal.invariant-loop-number
invariant-loop-number l =
    let script = l.program.script in
    l.names
    ++ told_from script.nodes (rests script l.asked) (λ it. it.1.0) l.number
    (drop l.number script.nodes)
    ≡ rested_names script l.asked
