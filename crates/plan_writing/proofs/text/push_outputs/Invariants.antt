use Rattle.std.proofs.Common.{◌≡◌, ◌++◌, drop}
use Rattle.plan_writing.specs.Lists.{one_text, paired}
use Rattle.plan_writing.specs.PlanText.{output_line}
use Rattle.plan_writing.proofs.text.push_outputs.Given as goal

abbrev pub invariant-loop-number : goal.invariant-loop-number
invariant-loop-number g l =
    let outputs = (g.N.Names.naming l.names).outputs in
    l.text.items
    ++ one_text (paired output_line (drop l.number outputs) (drop l.number l.places))
    ≡ l.fn.text.items ++ one_text (paired output_line outputs l.places)
