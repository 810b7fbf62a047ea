use Rattle.std.proofs.Common.{subst}
use Rattle.map_shard.specs.inner.Legs.{AreLegs, HaveRun}
use Rattle.map_shard.proofs.Filled.{whole_is}
use Rattle.map_shard.proofs.legs.Steps.run.Goals as goal

pub returns-in_ok-whole-in-Ok : goal.returns-in_ok-whole-in-Ok
returns-in_ok-whole-in-Ok g c =
    let t = c.args.self.now in
    whole_is _ t.partitions t.m t.does.now t.channels.now c.args.elements.now c.in-Ok.legs
    c.in_ok-whole-in-Ok.field-0
    (subst (HaveRun g.F.Functions.called t c.args.elements.now) c.in-Ok.is c.in_ok-legs.ensures)
    c.in_ok-whole-in-Ok.ensures.sent c.in_ok-whole-in-Ok.ensures.counts

pub returns-in-Err : goal.returns-in-Err
returns-in-Err g c =
    subst (HaveRun g.F.Functions.called c.args.self.now c.args.elements.now) c.in-Err.is
    c.in_ok-legs.ensures
