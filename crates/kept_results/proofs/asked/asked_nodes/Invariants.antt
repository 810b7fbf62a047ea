use Rattle.std.proofs.Common.{◌≡◌, ◌++◌, drop}
use Rattle.kept_results.proofs.Steps.{asked_from}
use Rattle.kept_results.specs.Asked.{asked_nodes}
use Rattle.kept_results.proofs.asked.asked_nodes.Given as goal

abbrev pub invariant-loop-number : goal.invariant-loop-number
invariant-loop-number l =
    let script = l.program.script in
    l.asked.items ++ asked_from script.outputs l.number (drop l.number script.nodes)
    ≡ asked_nodes script
