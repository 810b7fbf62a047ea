use Rattle.std.proofs.Common.{◌≡◌, ◌++◌, [], drop}
use Rattle.plan_writing.specs.inner.Branches.{branches_text, space_before}
use Rattle.plan_writing.proofs.forests.push_steps.Given as goal

abbrev pub invariant-loop-i : goal.invariant-loop-i
invariant-loop-i g l =
    l.text.items
    ++ branches_text (g.N.Names.naming l.names) (space_before l.i) (drop l.i l.step-items)
    ≡ l.fn.text.items ++ branches_text (g.N.Names.naming l.names) [] l.step-items
