use Rattle.std.proofs.Common.{◌≡◌, ◌+◌, ◌*◌, [], max, drop}
use denote.Param.Weighed.{most}
use Rattle.dofn_eval.specs.declared.expr.Expr.{size-Expr}
use Rattle.dofn_calls.specs.inner.Operands.{values}
use Rattle.dofn_calls.specs.inner.Evaluates.{branch_size}
use Rattle.dofn_eval.specs.Meaning.{expression_value, part_values}
use Rattle.dofn_calls.proofs.evaluate.+eval.Given as goal

abbrev pub decreases-eval : goal.decreases-eval
decreases-eval l = 3 * size-Expr l.e.now

abbrev pub decreases-eval_all : goal.decreases-eval_all
decreases-eval_all l = 3 * most (λ e. size-Expr e) l.parts.now + 1

abbrev pub decreases-eval_two : goal.decreases-eval_two
decreases-eval_two l = 3 * max (size-Expr l.a.now) (size-Expr l.b.now) + 1

abbrev pub decreases-eval_chosen : goal.decreases-eval_chosen
decreases-eval_chosen l =
    3 * max (size-Expr l.test.now) (max (branch_size l.on_true) (branch_size l.on_false)) + 2

abbrev pub decreases-eval_branch : goal.decreases-eval_branch
decreases-eval_branch l = 3 * branch_size l.branch + 1

abbrev pub invariant-eval_all-loop-part : goal.invariant-eval_all-loop-part
invariant-eval_all-loop-part l =
    part_values expression_value l.parts (values l.scope) []
    ≡ part_values expression_value (drop l.part-index l.parts) (values l.scope) l.items.items
