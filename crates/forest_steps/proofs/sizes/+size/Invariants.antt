use Rattle.std.proofs.Common.{◌≡◌, ◌++◌, ◌∷◌, drop, map}
use Rattle.exec_graph.specs.Twigs.{twig}
use Rattle.forest_steps.specs.inner.Sizes.{branch_sizes, branches_sizes, twigs_sizes}
use Rattle.forest_steps.proofs.sizes.+size.Given as goal

abbrev pub invariant-push_step-loop-output : goal.invariant-push_step-loop-output
invariant-push_step-loop-output l =
    l.sizes.items ++ twigs_sizes (map twig (drop l.output-index l.output-items))
    ≡ l.fn.sizes.items ++ branch_sizes l.step

abbrev pub invariant-push_output-loop-kid : goal.invariant-push_output-loop-kid
invariant-push_output-loop-kid l =
    l.sizes.items ++ branches_sizes (drop l.kid-index l.kid-items)
    ≡ l.fn.sizes.items ++ 0 ∷ branches_sizes l.kid-items
