use Rattle.std.proofs.Common.{◌<◌, length, arith}
use Rattle.kept_results.proofs.Steps.{gathered_all, gathered_next}
use Rattle.kept_results.specs.Lists.{input_numbers, number_of_input}
use Rattle.script_program.specs.Needed.{is_needed}
use Rattle.kept_results.proofs.lists.input_numbers.Goals as goal

pub loop-number-preserved : goal.loop-number-preserved
loop-number-preserved c =
    let script = c.args.program.now.script in
    let below : c.loop-number.number < length script.nodes = omega arith in
    gathered_next script.nodes (is_needed script) (λ it. number_of_input it.0 it.1.1.made)
    c.loop-number.numbers.items c.push_input.new.numbers.items (input_numbers script)
    c.loop-number.number below c.in_ok-push_input.ensures c.loop-number.invariant

pub returns : goal.returns
returns c =
    let script = c.args.program.now.script in
    gathered_all script.nodes (is_needed script) (λ it. number_of_input it.0 it.1.1.made)
    c.loop-number.numbers.items (input_numbers script) c.loop-number.number
    (omega (arith, c.loop-number-test.false, c.node_count-number-end.ensures))
    c.loop-number.invariant
