use Rattle.std.proofs.Common.{◌≡◌, ◌++◌, drop}
use Rattle.plan_writing.specs.Lists.{one_text, numbered_texts}
use Rattle.plan_writing.specs.PlanText.{out_line}
use Rattle.plan_writing.proofs.text.push_outs.Given as goal

abbrev pub invariant-loop-i : goal.invariant-loop-i
invariant-loop-i g l =
    let line = out_line (g.N.Names.naming l.names) l.stage in
    l.text.items ++ one_text (numbered_texts line l.i (drop l.i l.outputs))
    ≡ l.fn.text.items ++ one_text (numbered_texts line 0 l.outputs)
