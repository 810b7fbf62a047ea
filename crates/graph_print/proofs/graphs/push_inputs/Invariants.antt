use Rattle.std.proofs.Common.{◌≡◌, ◌++◌, drop}
use Rattle.std.specs.List.{flat_map}
use Rattle.graph_print.specs.GraphText.{input_text}
use Rattle.graph_print.proofs.graphs.push_inputs.Given as goal

abbrev pub invariant-loop-input : goal.invariant-loop-input
invariant-loop-input l =
    l.text.items ++ flat_map input_text (drop l.input-index l.inputs)
    ≡ l.initial.text.items ++ flat_map input_text l.inputs
