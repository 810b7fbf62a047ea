use Rattle.std.proofs.Common.{◌≡◌, ◌++◌, drop}
use Rattle.kept_results.proofs.Steps.{gathered_from}
use Rattle.kept_results.specs.Lists.{input_numbers, number_of_input}
use Rattle.script_program.specs.Needed.{is_needed}
use Rattle.kept_results.proofs.lists.input_numbers.Given as goal

abbrev pub invariant-loop-number : goal.invariant-loop-number
invariant-loop-number l =
    let script = l.program.script in
    l.numbers.items
    ++ gathered_from script.nodes (is_needed script) (λ it. number_of_input it.0 it.1.1.made)
    l.number (drop l.number script.nodes)
    ≡ input_numbers script
