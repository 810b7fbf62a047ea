use Rattle.std.proofs.Common.{subst}
use Rattle.map_shard.specs.inner.Legs.{HaveRun}
use Rattle.map_shard.proofs.Legging.{trap_before}
use Rattle.map_shard.proofs.legs.Steps.add_leg.Goals as goal

pub go_on-requires-clause-stands : goal.go_on-requires-clause-stands
go_on-requires-clause-stands g c =
    let were = c.requires.stands in
    (were.0, subst (HaveRun g.F.Functions.called c.args.self.now were.0) c.in-Ok.is were.1)

pub returns-in-Ok : goal.returns-in-Ok
returns-in-Ok g c done stands =
    c.go_on.ensures done
    (subst (HaveRun g.F.Functions.called c.args.self.now done) c.in-Ok.is stands)

pub returns-in-Err : goal.returns-in-Err
returns-in-Err g c done stands =
    let t = c.args.self.now in
    trap_before _ t.partitions t.m t.does.now done c.args.leg.now c.in-Err.trap
    (subst (HaveRun g.F.Functions.called t done) c.in-Err.is stands)
