use Rattle.std.proofs.Common.{arith}
use Rattle.dofn_calls.specs.inner.Operands.{values}
use Rattle.dofn_calls.proofs.EvaluateLemmas.{safe_Variable, safe_Record, safe_List, falls_Record, falls_List}
use Rattle.dofn_calls.proofs.evaluate.+eval.Goals as goal

pub eval-look_up-requires : goal.eval-look_up-requires
eval-look_up-requires t c = safe_Variable c.args.e.now c.in-Variable.slot (values c.args.scope.now)
    c.in-Variable.is c.requires

pub eval-eval_all-requires : goal.eval-eval_all-requires
eval-eval_all-requires t c = (
  omega (
    arith,
    falls_Record c.args.e.now c.in-Record.parts c.as_slice.result.now c.in-Record.is
        c.as_slice.ensures,
    c.decreases,
  ),
  safe_Record c.args.e.now c.in-Record.parts c.as_slice.result.now (values c.args.scope.now)
      c.in-Record.is c.as_slice.ensures c.requires,
)

pub eval-eval_all-requires-in-List : goal.eval-eval_all-requires-in-List
eval-eval_all-requires-in-List t c = (
  omega (
    arith,
    falls_List c.args.e.now c.in-List.parts c.as_slice-in-List.result.now
        c.in-List.is c.as_slice-in-List.ensures,
    c.decreases,
  ),
  safe_List c.args.e.now c.in-List.parts c.as_slice-in-List.result.now (values c.args.scope.now)
      c.in-List.is c.as_slice-in-List.ensures c.requires,
)
