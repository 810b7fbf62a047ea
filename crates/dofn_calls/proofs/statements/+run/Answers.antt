use Rattle.std.proofs.Common.{arith, ap, sym, subst, ◌∙◌}
use Rattle.dofn_eval.specs.Outcome.{Gives}
use Rattle.dofn_eval.specs.Run.{run_statements, for_each}
use Rattle.dofn_calls.specs.inner.Operands.{content, values, named}
use Rattle.dofn_calls.specs.inner.Evaluates.{Evaluates}
use Rattle.dofn_calls.proofs.PassingLemmas.{for_each-passes}
use Rattle.dofn_calls.proofs.StatementLemmas.{falls_If, falls_For, falls_Case, safe_If, safe_For, safe_Case}
use Rattle.dofn_calls.proofs.statements.+run.Goals as goal

pub run_stmt-run_if-requires : goal.run_stmt-run_if-requires
run_stmt-run_if-requires t c = (
  omega (arith, falls_If c.args.stmt.now c.in-If.c c.in-If.a c.in-If.b c.in-If.is, c.decreases),
  safe_If c.args.stmt.now c.in-If.c c.in-If.a c.in-If.b _ _ c.args.out.now c.in-If.is
      (ap (λ vs. named vs (values c.args.outer.now)) c.as_slice-in-If.ensures.value) c.requires,
)

pub run_stmt-run_for-requires : goal.run_stmt-run_for-requires
run_stmt-run_for-requires t c = (
  omega (arith, falls_For c.args.stmt.now c.in-For.e c.in-For.body c.in-For.is, c.decreases),
  safe_For c.args.stmt.now c.in-For.e c.in-For.body _ _ c.args.out.now c.in-For.is
      (ap (λ vs. named vs (values c.args.outer.now)) c.as_slice-in-For.ensures.value) c.requires,
)

pub run_stmt-run_case-requires : goal.run_stmt-run_case-requires
run_stmt-run_case-requires t c = (
  omega (
    arith,
    falls_Case c.args.stmt.now c.in-Case.e c.in-Case.a c.in-Case.b c.in-Case.is,
    c.decreases,
  ),
  safe_Case c.args.stmt.now c.in-Case.e c.in-Case.a c.in-Case.b _ _ c.args.out.now c.in-Case.is
      (ap (λ vs. named vs (values c.args.outer.now)) c.as_slice-in-Case.ensures.value) c.requires,
)

pub run_for-returns-in-Some : goal.run_for-returns-in-Some
run_for-returns-in-Some t c =
    let env = values c.args.scope.now in let out = c.args.out.now in
    subst (λ o. Evaluates (λ _. c.pass_on.new.out) c.pass_on.result o)
    (sym ((λ i. for_each (run_statements (c.in-Some.ensures.passes i)) (c.in_ok-x.ensures i) env
    out)
    ∙ for_each-passes c.in-Some.output (Gives (content c.in_ok-x.x)) env out))
    c.pass_on.ensures
