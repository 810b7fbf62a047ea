use Rattle.std.proofs.Common.{◌≡◌, ◌++◌, drop, map}
use Rattle.exec_graph.specs.Twigs.{twig}
use Rattle.graph_walks.specs.inner.Numbering.{branch_outs, branches_outs, twig_outs, twigs_outs}
use Rattle.graph_joins.proofs.lists.+names.Given as goal

abbrev pub invariant-push_step-loop-output : goal.invariant-push_step-loop-output
invariant-push_step-loop-output l =
    l.names.items ++ twigs_outs (map twig (drop l.output-index l.output-items))
    ≡ l.fn.names.items ++ branch_outs l.step

abbrev pub invariant-push_output-loop-kid : goal.invariant-push_output-loop-kid
invariant-push_output-loop-kid l =
    l.names.items ++ branches_outs (drop l.kid-index l.kid-items)
    ≡ l.fn.names.items ++ twig_outs (twig l.output)
