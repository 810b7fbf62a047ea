use Rattle.std.proofs.Common.{◌≡◌, ◌++◌, drop}
use Rattle.kept_results.proofs.Steps.{told_from}
use Rattle.kept_results.specs.Sizes.{named_only, nodes_needed}
use Rattle.script_program.specs.Needed.{is_needed}
use Rattle.kept_results.proofs.nodes.nodes_needed.Given as goal

abbrev pub invariant-loop-number : goal.invariant-loop-number
invariant-loop-number l =
    let script = l.program.script in
    l.nodes.items
    ++ told_from script.nodes (is_needed script) named_only l.number (drop l.number script.nodes)
    ≡ nodes_needed script
