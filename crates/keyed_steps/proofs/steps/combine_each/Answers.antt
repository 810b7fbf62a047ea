use Rattle.std.proofs.Common.{◌≤◌, length, arith}
use Rattle.std.proofs.lemmas.Result.{err_from_is_err_and}
use Rattle.keyed_steps.proofs.Stepping.{come_further, come_all, come_typed, first_trap}
use Rattle.keyed_steps.proofs.steps.combine_each.Goals as goal

pub returns-in_err-combine_group-clause-trap : goal.returns-in_err-combine_group-clause-trap
returns-in_err-combine_group-clause-trap c =
    let p = err_from_is_err_and c.from_residual.result c.from_residual.ensures.1 in
    rw (p.1, p.2)
    (first_trap c.args.comb c.args.groups.now c.loop-group.values
    c.loop-group.group-index c.group-item.result c.in_err-combine_group.field-0.0
    c.loop-group-test.true c.group-item.is c.loop-group.invariant
    c.in_err-combine_group.ensures.trap)

pub loop-group-preserved : goal.loop-group-preserved
loop-group-preserved c =
    come_further c.args.comb c.args.groups.now c.loop-group.values c.push.new.self
    c.loop-group.group-index c.group-item.result c.in_ok-combine_group.field-0
    c.loop-group-test.true c.group-item.is c.loop-group.invariant
    c.in_ok-combine_group.ensures.pair c.in_ok-push.ensures.ok

pub returns-clause-typed : goal.returns-clause-typed
returns-clause-typed c =
    let end : length c.args.groups.now ≤ c.loop-group.group-index =
    omega (arith, c.loop-group-test.false) in
    come_typed c.args.comb c.args.groups.now c.loop-group.values
    (come_all c.args.comb c.args.groups.now c.loop-group.values c.loop-group.group-index
    end c.loop-group.invariant)
