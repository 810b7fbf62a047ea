use Rattle.std.proofs.Common.{◌≡◌, ◌++◌, drop}
use Rattle.kept_results.proofs.Steps.{told_from}
use Rattle.kept_results.specs.Sizes.{named_only, rested_nodes}
use Rattle.script_program.specs.Rested.{rests}
use Rattle.kept_results.proofs.nodes.rested_nodes.Given as goal

abbrev pub invariant-loop-number : goal.invariant-loop-number
invariant-loop-number l =
    let script = l.program.script in
    l.nodes.items
    ++ told_from script.nodes (rests script l.asked) named_only l.number
    (drop l.number script.nodes)
    ≡ rested_nodes script l.asked
