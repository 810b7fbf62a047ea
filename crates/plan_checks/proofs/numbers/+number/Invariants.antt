use Rattle.std.proofs.Common.{◌≡◌, drop, map}
use Rattle.exec_graph.specs.Twigs.{twig}
use Rattle.plan_checks.specs.inner.Counts.{branch_from, branches_from, twig_from, twigs_from}
use Rattle.plan_checks.proofs.numbers.+number.Given as goal

abbrev pub invariant-after_step-loop-output : goal.invariant-after_step-loop-output
invariant-after_step-loop-output l =
    twigs_from l.next (map twig (drop l.output-index l.output-items))
    ≡ branch_from l.number l.step

abbrev pub invariant-after_output-loop-kid : goal.invariant-after_output-loop-kid
invariant-after_output-loop-kid l =
    branches_from l.next (drop l.kid-index l.kid-items) ≡ twig_from l.number (twig l.output)
