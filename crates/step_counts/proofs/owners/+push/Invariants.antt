use Rattle.std.proofs.Common.{◌≡◌, ◌+◌, ◌++◌, ◌∷◌, drop, map}
use Rattle.exec_graph.specs.Twigs.{twig}
use Rattle.step_counts.specs.inner.Owned.{branch_owners, branches_owners, twigs_owners}
use Rattle.step_counts.proofs.owners.+push.Given as goal

abbrev pub invariant-push_step-loop-at : goal.invariant-push_step-loop-at
invariant-push_step-loop-at l =
    l.nodes.items ++ twigs_owners l.step (l.at + 1) (map twig (drop l.at l.output-items))
    ≡ l.fn.nodes.items ++ branch_owners l.step

abbrev pub invariant-push_output-loop-kid : goal.invariant-push_output-loop-kid
invariant-push_output-loop-kid l =
    l.nodes.items ++ branches_owners (drop l.kid-index l.kid-items)
    ≡ l.fn.nodes.items ++ l.fn.owner ∷ branches_owners l.kid-items
