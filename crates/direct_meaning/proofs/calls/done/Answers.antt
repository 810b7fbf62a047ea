use Rattle.std.proofs.Common.{◌≡◌, ◌-◌, ◌∙◌, ℕ, Some, subst, sym}
use Rattle.script_program.specs.Program.{function_in}
use Rattle.script_program.specs.Script.{Function}
use Rattle.direct_meaning.proofs.CallLemmas.{done_by_slots}
use Rattle.direct_meaning.proofs.ResultLemmas.{if_all}
use Rattle.direct_meaning.specs.inner.Slots.{IsDone}
use Rattle.direct_meaning.proofs.calls.done.Goals as goal

pub returns : goal.returns
returns c f at =
    let it = function_in c.args.program.now.known c.function.result.now in
    let both : Some it ≡ Some f = sym c.function.ensures.is ∙ at in
    let same : it ≡ f = cc in
    let source = c.args.source.now in
    let before = c.args.traps.now.items in
    let after = c.called.new.traps.items in
    let origin = c.saturating_sub-origin.result in
    subst (λ (g : Function).
    IsDone (c.args.number - c.args.output) c.args.output g source before c.called.result after) same
    (subst (λ (o : ℕ). IsDone o c.args.output it source before c.called.result after)
    c.saturating_sub-origin.ensures
    (if_all c.called.result _ _ _ _
    (λ kept members traps trapped.
    done_by_slots origin c.args.output c.function.result.now.fun it c.function.ensures.does source
    kept before after members traps trapped)
    c.called.ensures.members c.called.ensures.traps c.called.ensures.trapped))
