use Rattle.std.proofs.Common.{◌≡◌, ◌+◌, ◌++◌, [], drop, map}
use Rattle.exec_graph.specs.Twigs.{twig}
use Rattle.plan_writing.specs.inner.Branches.{branch_text, branches_text, space_before, twigs_text}
use Rattle.plan_writing.proofs.forests.+push.Given as goal

abbrev pub invariant-push_step-loop-i : goal.invariant-push_step-loop-i
invariant-push_step-loop-i g l =
    l.text.items
    ++ twigs_text (g.N.Names.naming l.names) (l.i + 2) (map twig (drop l.i l.output-items))
    ≡ l.fn.text.items ++ branch_text (g.N.Names.naming l.names) l.step

abbrev pub invariant-push_output-loop-i : goal.invariant-push_output-loop-i
invariant-push_output-loop-i g l =
    l.text.items
    ++ branches_text (g.N.Names.naming l.names) (space_before l.i) (drop l.i l.kid-items)
    ≡ l.initial.text.items ++ branches_text (g.N.Names.naming l.names) [] l.kid-items
