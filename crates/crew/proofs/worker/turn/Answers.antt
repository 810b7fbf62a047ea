use Rattle.std.proofs.Common.{sym, ap, ◌∙◌, subst}
use Rattle.std.proofs.lemmas.Result.{err_from_is_err_and}
use Rattle.claim_board.specs.Protocol.{PassState, winning, losing}
use Rattle.claim_board.specs.Boards.{AreBefore}
use Rattle.crew.proofs.Accounts.{grew_not}
use Rattle.crew.proofs.Turning.{Names, names_of, took_early, turned_seen, turned_down, turned_drilled, turned_won, turned_lost}
use Rattle.crew.proofs.worker.turn.Given.{Over}
use Rattle.crew.proofs.worker.turn.Goals as goal
use Rattle.crew.proofs.worker.turn.Goals.{After-attempt-attempt}

-- the draw names the task and the attempt
named : (g : Over) (c : After-attempt-attempt g) → Names (g.T.Tasks.count_of c.args.tasks.now)
    c.args.phase.now.tries c.args.draw.number c.task-task.result c.attempt-attempt.result
named g c =
    let r = c.requires in
    names_of _ _ c.args.draw _ _ _ _ r.count r.tries r.some r.open c.task-task.ensures
    c.attempt-attempt.ensures

pub returns-in-Some-clause-grew : goal.returns-in-Some-clause-grew
returns-in-Some-clause-grew g c = grew_not _

pub returns-in-Some-clause-turned : goal.returns-in-Some-clause-turned
returns-in-Some-clause-turned g c =
    let n = named g (goal.at.returns-in-Some-clause-turned g c).After-attempt-attempt in
    let s = c.in-Some.ensures.some in
    rw s.2.gained (turned_seen _ _ _ _ s.2.place _ _ _ _ _ _ n s.2.later s.0)

pub returns-in-Down-clause-turned : goal.returns-in-Down-clause-turned
returns-in-Down-clause-turned g c =
    let n = named g (goal.at.returns-in-Down-clause-turned g c).After-attempt-attempt in
    let down = rw (c.spot.ensures c.task-task.result)
    at (rw c.in-Down.is at c.in_ok-attempt-in-None.ensures.ran) in
    let saw = c.in-None.ensures.none in
    rw saw.gained (turned_down _ _ _ _ saw.place _ _ _ _ _ _ n saw.later down)

pub returns-in-Ok-clause-turned : goal.returns-in-Ok-clause-turned
returns-in-Ok-clause-turned g c =
    let n = named g (goal.at.returns-in-Ok-clause-turned g c).After-attempt-attempt in
    let ran = rw c.in-Made.is at c.in_ok-attempt-in-None.ensures.ran in
    let through = rw (c.spot.ensures c.task-task.result) at ran in
    let value = rw c.in-Made.is at c.in_ok-attempt-in-None.ensures.value in
    let undrilled = sym c.is_drilled.ensures ∙ c.if-is_drilled.false in
    let saw = c.in-None.ensures.none in
    let wins = c.in-Ok.ensures.won in
    let won = wins.gained
    ∙ ap (λ (p : PassState). winning p wins.place c.args.draw.number) saw.gained in
    let behind = subst (AreBefore wins.place) saw.gained wins.later in
    rw won
    (turned_won _ _ _ _ saw.place wins.place _ _ _ c.in-Made.out _ _ _ n saw.later behind through
    undrilled value)

pub returns-in-Err-clause-turned : goal.returns-in-Err-clause-turned
returns-in-Err-clause-turned g c =
    let n = named g (goal.at.returns-in-Err-clause-turned g c).After-attempt-attempt in
    let ran = rw c.in-Made.is at c.in_ok-attempt-in-None.ensures.ran in
    let through = rw (c.spot.ensures c.task-task.result) at ran in
    let saw = c.in-None.ensures.none in
    let loses = c.in-Err.ensures.lost.2 in
    let lost = loses.gained
    ∙ ap (λ (p : PassState). losing p loses.place c.args.draw.number c.in-Err.field-0) saw.gained in
    let undrilled = sym c.is_drilled.ensures ∙ c.if-is_drilled.false in
    let behind = subst (AreBefore loses.place) saw.gained loses.later in
    rw lost (turned_lost _ _ _ _ saw.place loses.place c.args.draw.number c.task-task.result
    c.attempt-attempt.result c.in-Err.field-0 c.args.pass.now.state _ _ n saw.later behind through
    undrilled)

pub returns-then-is_drilled-clause-turned : goal.returns-then-is_drilled-clause-turned
returns-then-is_drilled-clause-turned g c =
    let n = named g (goal.at.returns-then-is_drilled-clause-turned g c).After-attempt-attempt in
    let ran = rw c.in-Made.is at c.in_ok-attempt-in-None.ensures.ran in
    let through = rw (c.spot.ensures c.task-task.result) at ran in
    let drilled = sym c.is_drilled.ensures ∙ c.if-is_drilled.true in
    let saw = c.in-None.ensures.none in
    rw saw.gained (turned_drilled _ _ _ _ saw.place _ _ _ _ _ _ n saw.later through drilled)

pub returns-in_err-attempt-in-None-clause-early : goal.returns-in_err-attempt-in-None-clause-early
returns-in_err-attempt-in-None-clause-early g c =
    let at = goal.at.returns-in_err-attempt-in-None-clause-early g c in
    let n = named g at.After-attempt-attempt in
    let early = rw (c.spot.ensures c.task-task.result) at c.in_err-attempt-in-None.ensures.early in
    let saw = c.in-None.ensures.none in
    let p = err_from_is_err_and c.from_residual.result c.from_residual.ensures.1 in
    rw p.1 (rw saw.gained (took_early _ _ _ saw.place _ _ _ _ _ _ n saw.later early))
