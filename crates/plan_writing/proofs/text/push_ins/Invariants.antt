use Rattle.std.proofs.Common.{◌≡◌, ◌++◌, drop}
use Rattle.plan_writing.specs.Lists.{one_text, numbered_texts}
use Rattle.plan_writing.specs.PlanText.{in_line}
use Rattle.plan_writing.proofs.text.push_ins.Given as goal

abbrev pub invariant-loop-i : goal.invariant-loop-i
invariant-loop-i g l =
    let line = in_line (g.N.Names.naming l.names) in
    l.text.items ++ one_text (numbered_texts line l.i (drop l.i l.inputs))
    ≡ l.fn.text.items ++ one_text (numbered_texts line 0 l.inputs)
