use Rattle.std.proofs.Common.{◌++◌, List, sym, ap, ◌∙◌, subst}
use Rattle.std.specs.List.{AllZip}
use Rattle.task_safety.specs.of_task_lists.Runs.{all_emissions}
use Rattle.task_safety.specs.of_forest_courses.Courses.{IsCourse}
use Rattle.map_shard.specs.declared.filling.Filling.{Filling}
use Rattle.map_shard.specs.inner.Fillings.{IsFilled}
use Rattle.map_shard.specs.inner.Legs.{count_with, each_with, own_world}
use Rattle.map_shard.specs.inner.Sending.{taken}
use Rattle.map_shard.proofs.Legging.{given_fit, legs_joined, trap_behind}
use Rattle.map_shard.proofs.legs.Steps.go_on.Goals as goal

pub send_given-requires-clause-fit : goal.send_given-requires-clause-fit
send_given-requires-clause-fit g c =
    given_fit _ _ _ _ _ _ c.in-Ok.given c.in_ok-given.ensures c.in-Ok.is c.requires.can.fit

pub send_given-requires-clause-stands : goal.send_given-requires-clause-stands
send_given-requires-clause-stands g c =
    let t = c.args.self.now in
    let w = own_world g.F.Functions.called t in
    (taken t.m (all_emissions w t.does.now c.requires.stands.0), c.requires.stands.1.filled)

pub returns-in_ok-with_counts-in-Ok : goal.returns-in_ok-with_counts-in-Ok
returns-in_ok-with_counts-in-Ok g c done stands =
    let t = c.args.self.now in
    let w = own_world g.F.Functions.called t in
    let more = c.in_ok-more-in-Ok.ensures in
    let all = c.in_ok-with_counts-in-Ok.ensures in
    let before = taken t.m (all_emissions w t.does.now done) in
    legs_joined w t.partitions t.m t.does.now done c.args.leg.now t.channels.now
    c.requires.single c.args.legs c.in_ok-with_counts-in-Ok.field-0 c.in-Ok.given stands
    (subst (IsCourse w t.does.now c.args.leg.now) c.in-Ok.is c.in_ok-given.ensures)
    (subst (λ (fs : List Filling). AllZip (IsFilled t.partitions
    (λ takes. before takes ++ taken t.m c.in-Ok.given.lists takes)) t.channels.now fs)
    (sym all.fillings) (more.filled before stands.filled))
    (all.counts ∙ ap (each_with count_with c.args.legs.counts.items) more.counts)

pub returns-in-Err : goal.returns-in-Err
returns-in-Err g c done stands =
    let t = c.args.self.now in
    let w = own_world g.F.Functions.called t in
    trap_behind w t.partitions t.m t.does.now done c.args.leg.now c.in-Err.trap stands.calm
    (subst (IsCourse w t.does.now c.args.leg.now) c.in-Err.is c.in_ok-given.ensures)
