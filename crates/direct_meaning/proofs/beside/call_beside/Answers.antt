use Rattle.std.proofs.Common.{◌≡◌, ◌++◌, ◌∷◌, [], List, Option, append-nil, ap, sym, ◌∙◌}
use Rattle.std.specs.Option.{option_map}
use Rattle.flume_value.specs.declared.value.Value.{Value}
use Rattle.flume_collection.specs.Calls.{Called}
use Rattle.flume_collection.specs.declared.trap.Trap.{Trap}
use Rattle.direct_meaning.proofs.CallLemmas.{gives_answer, traps_answer}
use Rattle.direct_meaning.specs.Objects.{naming}
use Rattle.direct_meaning.specs.inner.Slots.{emitted_by, trapped_by}
use Rattle.direct_meaning.proofs.beside.call_beside.Goals as goal

nothing_more : {T : Type 0} (xs ys : List T) → ys ≡ [] → xs ≡ xs ++ ys
nothing_more xs ys none = sym (ap (λ l. xs ++ l) none ∙ append-nil xs)

pub returns-in_ok-append-in-Ok-clause-values : goal.returns-in_ok-append-in-Ok-clause-values
returns-in_ok-append-in-Ok-clause-values c =
    let x = c.args.element.now in
    let answer = gives_answer c.args.fun.now c.args.argument.now c.in-Ok.lists c.in-Ok.ensures.ok in
    c.in_ok-append-in-Ok.ensures.items
    ∙ ap (λ (l : List Value). c.args.values.now.items ++ l)
    (c.into_vec.ensures ∙ (c.emitted.ensures
    ∙ sym (ap (λ (o : Option Called). emitted_by 0 (option_map (naming x) o)) answer)))

pub returns-in_ok-append-in-Ok-clause-traps : goal.returns-in_ok-append-in-Ok-clause-traps
returns-in_ok-append-in-Ok-clause-traps c =
    let x = c.args.element.now in
    let answer = gives_answer c.args.fun.now c.args.argument.now c.in-Ok.lists c.in-Ok.ensures.ok in
    nothing_more c.args.traps.now.items _
    (ap (λ (o : Option Called). trapped_by c.args.origin (option_map (naming x) o)) answer)

pub returns-in_ok-push-in-Err-Trap-clause-values : goal.returns-in_ok-push-in-Err-Trap-clause-values
returns-in_ok-push-in-Err-Trap-clause-values c =
    let x = c.args.element.now in
    let trap = rw c.in-Err-Trap.field-0-is at c.in-Err-Trap.ensures.trap in
    let answer = traps_answer c.args.fun.now c.args.argument.now c.in-Err-Trap.kind trap in
    nothing_more c.args.values.now.items _
    (ap (λ (o : Option Called). emitted_by 0 (option_map (naming x) o)) answer)

pub returns-in_ok-push-in-Err-Trap-clause-traps : goal.returns-in_ok-push-in-Err-Trap-clause-traps
returns-in_ok-push-in-Err-Trap-clause-traps c =
    let x = c.args.element.now in
    let trap = rw c.in-Err-Trap.field-0-is at c.in-Err-Trap.ensures.trap in
    let answer = traps_answer c.args.fun.now c.args.argument.now c.in-Err-Trap.kind trap in
    c.in_ok-push-in-Err-Trap.ensures.items
    ∙ ((λ i. c.args.traps.now.items ++ c.in_ok-trap-in-Err-Trap.ensures i ∷ [])
    ∙ sym (ap (λ (l : List Trap). c.args.traps.now.items ++ l)
    (ap (λ (o : Option Called). trapped_by c.args.origin (option_map (naming x) o)) answer)))
