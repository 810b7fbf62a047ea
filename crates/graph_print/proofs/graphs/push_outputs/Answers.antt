use Rattle.std.proofs.Common.{◌<◌, ◌≤◌, ◌++◌, length, min, get_or, arith}
use Rattle.std.proofs.lemmas.Option.{slice_get-get_or}
use Rattle.exec_graph.specs.declared.graph.Place.{Place}
use Rattle.graph_print.specs.GraphText.{output_lines}
use Rattle.script_program.proofs.SourceSteps.{found_below}
use Rattle.graph_print.proofs.LineLemmas.{lines_all, lines_next}
use Rattle.graph_print.proofs.graphs.push_outputs.Goals as goal

pub loop-number-preserved : goal.loop-number-preserved
loop-number-preserved c =
    let below : c.loop-number.number < length c.args.program.now.script.outputs = omega arith in
    let within : c.loop-number.number < length c.args.places.now = omega arith in
    let none : Place = record { node = 0; out = 0 } in
    let (output, here) =
    found_below c.args.program.now.script.outputs c.loop-number.number below in
    lines_next c.loop-number.text.items c.push_output.new.text.items
    (c.args.text.now.items
    ++ output_lines c.args.program.now.script.outputs
    c.args.places.now)
    c.args.program.now.script.outputs c.args.places.now c.loop-number.number output
    (get_or c.args.places.now c.loop-number.number none) here
    (slice_get-get_or c.args.places.now c.loop-number.number none within)
    (c.in_ok-push_output.ensures output here) c.loop-number.invariant

pub returns : goal.returns
returns c =
    let end : min (length c.args.program.now.script.outputs) (length c.args.places.now)
    ≤ c.loop-number.number = omega arith in
    lines_all c.loop-number.text.items
    (c.args.text.now.items
    ++ output_lines c.args.program.now.script.outputs
    c.args.places.now)
    c.args.program.now.script.outputs c.args.places.now c.loop-number.number end
    c.loop-number.invariant
