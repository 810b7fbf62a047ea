use Rattle.std.proofs.Common.{length, map, ap, ◌∙◌}
use Rattle.std.proofs.lemmas.List.{length-map}
use Rattle.std.proofs.lemmas.Result.{err_from_is_err_and}
use Rattle.expression_check.specs.of_type_table.Table.{type_at}
use Rattle.body_check.proofs.FunctionLemmas.{IsAnswer, is_answer, started}
use Rattle.body_check.proofs.checks.check_body.Goals as goal
use Rattle.body_check.proofs.checks.check_body.Goals.{After-slots_of-slots}

-- the slots are an answer at the types and the names that stood before
answer : (c : After-slots_of-slots) → IsAnswer c.args.known.now.names c.args.argument.now
    (type_at c.args.known.now.types c.args.takes)
    (map (type_at c.args.known.now.types) c.args.gives.now) c.args.body.now c.slots_of-slots.result
answer c =
    let known = c.args.known.now in
    let takes = type_at known.types c.args.takes in
    let gives = map (type_at known.types) c.args.gives.now in
    let made = c.slots_of-slots.result in
    let types = c.new-2.ensures.types ∙ ap (λ k. k.types) c.replace-taken.ensures.value in
    let names = ap (λ s. s.known) c.new-frame.ensures.sight ∙ c.new-2.ensures.known
    ∙ ap (λ k. k.names) c.replace-taken.ensures.value in
    is_answer known.names c.args.argument.now takes gives c.args.body.now made
    (started c.new-frame.result made known.names known.types c.args.argument.now c.args.takes
    c.args.gives.now c.args.body.now (c.new-frame.ensures.types ∙ types) names
    (c.new-frame.ensures.emits ∙ ap (λ ts. map (type_at ts) c.args.gives.now) types)
    c.slots_of-slots.ensures.gives)

pub returns-in_err-block-clause-gives : goal.returns-in_err-block-clause-gives
returns-in_err-block-clause-gives c =
    let a = answer (goal.at.returns-in_err-block-clause-gives c).After-slots_of-slots in
    let p = err_from_is_err_and c.from_residual.result c.from_residual.ensures.1 in
    rw (p.1, p.2) (rw c.in_err-block.was at a.rules)

pub new-requires-3 : goal.new-requires-3
new-requires-3 c =
    let types = c.args.known.now.types in
    let takes = type_at types c.args.takes in
    let gives = map (type_at types) c.args.gives.now in
    let a = answer (goal.at.new-requires-3 c).After-slots_of-slots in
    let typed = rw c.in_ok-block.was at a.typed in (
      (takes, gives, (typed, length-map c.args.gives.now (type_at types))),
      c.requires.some,
      c.requires.most,
    )

pub returns-clause-gives : goal.returns-clause-gives
returns-clause-gives c =
    let a = answer (goal.at.returns-clause-gives c).After-slots_of-slots in
    rw c.in_ok-block.was at a.rules

pub returns-clause-typed : goal.returns-clause-typed
returns-clause-typed c =
    let a = answer (goal.at.returns-clause-typed c).After-slots_of-slots in
    let typed = rw c.in_ok-block.was at a.typed in
    rw c.new-3.ensures
    (typed, length-map c.args.gives.now (type_at c.args.known.now.types))

pub returns-clause-same : goal.returns-clause-same
returns-clause-same c =
    let a = answer (goal.at.returns-clause-same c).After-slots_of-slots in
    let same = rw c.in_ok-block.was at a.same in
    rw c.new-3.ensures (λ x. same (length c.args.gives.now) x)
