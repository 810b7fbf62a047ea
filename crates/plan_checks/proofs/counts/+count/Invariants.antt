use Rattle.std.proofs.Common.{◌≡◌, ◌+◌, ◌-◌, ◌^◌, ◌≤◌, drop, map, min}
use Rattle.exec_graph.specs.Twigs.{twig}
use Rattle.plan_checks.specs.inner.Counts.{branch_kept, branches_kept, twig_kept, twigs_kept}
use Rattle.plan_checks.proofs.counts.+count.Given as goal

abbrev pub invariant-count_step-loop-output : goal.invariant-count_step-loop-output
invariant-count_step-loop-output l =
    (l.count ≤ 2 ^ 64 - 1)
    × (min (l.count + twigs_kept (map twig (drop l.output-index l.output-items))) (2 ^ 64 - 1)
    ≡ min (branch_kept l.step) (2 ^ 64 - 1))

abbrev pub invariant-count_output-loop-kid : goal.invariant-count_output-loop-kid
invariant-count_output-loop-kid l =
    (l.count ≤ 2 ^ 64 - 1)
    × (min (l.count + branches_kept (drop l.kid-index l.kid-items)) (2 ^ 64 - 1)
    ≡ min (twig_kept (twig l.output)) (2 ^ 64 - 1))
