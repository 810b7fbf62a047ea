use Rattle.std.proofs.lemmas.Result.{err_from_is_err_and}
use Rattle.value_reading.specs.inner.Reading.{parts_at, value_at}
use Rattle.value_reading.proofs.Turns.{goes_on, stops, is_done}
use Rattle.value_reading.proofs.reading.+values.Goals as goal

pub members_of-returns-in_err-value : goal.members_of-returns-in_err-value
members_of-returns-in_err-value t c =
    let p = err_from_is_err_and c.from_residual.result c.from_residual.ensures.1 in
    rw (p.1, p.2) (λ other.
    stops (value_at c.args.levels) c.loop-turn.members c.args.count c.loop-turn._turn
    c.loop-turn.left (parts_at (value_at c.args.levels) c.args.count c.args.left.now)
    c.loop-turn-test.true (c.in_err-value.ensures other) c.loop-turn.invariant)

pub members_of-loop-turn-preserved : goal.members_of-loop-turn-preserved
members_of-loop-turn-preserved t c =
    rw c.in_ok-push.ensures.ok
    (goes_on (value_at c.args.levels) c.loop-turn.members c.args.count c.loop-turn._turn
    c.loop-turn.left c.in_ok-value.value c.value_of.new.left
    (parts_at (value_at c.args.levels) c.args.count c.args.left.now)
    c.loop-turn-test.true c.in_ok-value.ensures c.loop-turn.invariant)

pub members_of-returns : goal.members_of-returns
members_of-returns t c =
    is_done (value_at c.args.levels) c.loop-turn.members c.args.count c.loop-turn._turn
    c.loop-turn.left (parts_at (value_at c.args.levels) c.args.count c.args.left.now)
    c.loop-turn-test.false c.loop-turn.invariant
