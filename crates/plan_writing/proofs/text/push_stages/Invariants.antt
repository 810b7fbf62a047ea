use Rattle.std.proofs.Common.{◌≡◌, ◌+◌, ◌++◌, drop}
use Rattle.plan_writing.specs.Lists.{one_text, numbered_texts}
use Rattle.plan_writing.specs.PlanText.{stage_text}
use Rattle.plan_writing.proofs.text.push_stages.Given as goal

abbrev pub invariant-loop-i : goal.invariant-loop-i
invariant-loop-i g l =
    let line = stage_text (g.N.Names.naming l.names) in
    l.text.items ++ one_text (numbered_texts line (l.i + 1) (drop l.i l.stages))
    ≡ l.fn.text.items ++ one_text (numbered_texts line 1 l.stages)
