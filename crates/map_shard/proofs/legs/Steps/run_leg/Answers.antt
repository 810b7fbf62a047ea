use Rattle.std.proofs.Common.{[], subst}
use Rattle.task_safety.specs.of_forest_courses.Courses.{IsCourse}
use Rattle.map_shard.specs.inner.Legs.{own_world}
use Rattle.map_shard.proofs.Legging.{given_fit, leg_is}
use Rattle.map_shard.proofs.legs.Steps.run_leg.Goals as goal

pub send_given-requires-clause-fit : goal.send_given-requires-clause-fit
send_given-requires-clause-fit g c =
    given_fit _ _ _ _ _ _ c.in-Ok.given c.in_ok-given.ensures c.in-Ok.is c.requires.fit

pub send_given-requires-clause-stands : goal.send_given-requires-clause-stands
send_given-requires-clause-stands g c = (λ takes. [], c.in_ok-fillings-in-Ok.ensures)

pub returns-in_ok-send_given-in-Ok : goal.returns-in_ok-send_given-in-Ok
returns-in_ok-send_given-in-Ok g c =
    let t = c.args.self.now in
    let w = own_world g.F.Functions.called t in
    leg_is w t.partitions t.m t.does.now c.args.leg.now t.channels.now c.in-Ok.given
    c.in_ok-send_given-in-Ok.field-0
    (subst (IsCourse w t.does.now c.args.leg.now) c.in-Ok.is c.in_ok-given.ensures)
    (c.in_ok-send_given-in-Ok.ensures.filled (λ takes. []) c.in_ok-fillings-in-Ok.ensures)
    c.in_ok-send_given-in-Ok.ensures.counts

pub returns-in-Err : goal.returns-in-Err
returns-in-Err g c =
    let t = c.args.self.now in
    subst (IsCourse (own_world g.F.Functions.called t) t.does.now c.args.leg.now) c.in-Err.is
    c.in_ok-given.ensures
