use Rattle.std.proofs.Common.{[], ◌∷◌, replicate, sym, ap, ◌∙◌, subst}
use Rattle.dofn_eval.specs.Outcome.{IsSafe}
use Rattle.dofn_eval.specs.Run.{run_statements}
use Rattle.dofn_eval.proofs.SoundCalls.{safe_call, typed_call}
use Rattle.dofn_calls.proofs.calls.call.Goals as goal

pub run_block-requires : goal.run_block-requires
run_block-requires c =
    let x = c.args.x.now in let none = c.in_ok-out.ensures
    ∙ ap (λ n. replicate n []) c.outputs.ensures.outputs in
    subst IsSafe (sym (λ i. run_statements (c.body.ensures.body i) (x ∷ []) (none i)))
    (safe_call c.args.f.now x c.requires)

pub returns-clause-typed : goal.returns-clause-typed
returns-clause-typed c = λ takes gives typed has.
    let x = c.args.x.now in let none = c.in_ok-out.ensures
    ∙ ap (λ n. replicate n []) c.outputs.ensures.outputs in
    typed_call takes gives c.args.f.now x c.run_block.new.out typed has
    (sym (λ i. run_statements (c.body.ensures.body i) (x ∷ []) (none i)) ∙
    c.in_ok-run_block.ensures)
