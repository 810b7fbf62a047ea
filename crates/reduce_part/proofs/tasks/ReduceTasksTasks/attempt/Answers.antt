use Rattle.std.proofs.Common.{subst}
use Rattle.crew.specs.Drills.{attempt_at}
use Rattle.forest_run.specs.Asked.{WasAsked}
use Rattle.forest_run.proofs.Ending.{asked_early, asked_ran}
use Rattle.reduce_part.specs.Reducing.{reducing_places}
use Rattle.reduce_part.proofs.Channels.{channel_within, no_pass, places_are, task_ready, values_by}
use Rattle.reduce_part.proofs.tasks.ReduceTasksTasks.attempt.Goals as goal

pub bounds-as_slice-channel : goal.bounds-as_slice-channel
bounds-as_slice-channel g c =
    let below = rw (← c.self.view_is) at c.requires in
    channel_within c.self.invariant c.args.task below c.as_slice.result.now c.as_slice.ensures

pub reduce_partition-requires : goal.reduce_partition-requires
reduce_partition-requires g c =
    let below = rw (← c.self.view_is) at c.requires in record {
      ready = task_ready c.self.invariant c.args.task below c.as_slice.result.now
          c.as_slice.ensures c.index-as_slice-channel.result c.index-as_slice-channel.is
          c.in-Group.grouping c.in-Group.is;
    }

pub unreachable-requires : goal.unreachable-requires
unreachable-requires g c =
    let below = rw (← c.self.view_is) at c.requires in
    no_pass c.self.invariant c.args.task below c.as_slice.result.now c.as_slice.ensures
    c.index-as_slice-channel.result c.index-as_slice-channel.is c.in-Pass.field-0
    c.in-Pass.field-1 c.in-Pass.is

pub returns : goal.returns
returns g c =
    let below = rw (← c.self.view_is) at c.requires in
    let places = places_are c.self.invariant c.args.task below c.as_slice.result.now
    c.as_slice.ensures c.index-as_slice-channel.result c.index-as_slice-channel.is
    c.in-Group.grouping c.in-Group.is c.self.view_is in
    let ready = task_ready c.self.invariant c.args.task below c.as_slice.result.now
    c.as_slice.ensures c.index-as_slice-channel.result c.index-as_slice-channel.is
    c.in-Group.grouping c.in-Group.is in
    let e = attempt_at c.args.at.now c.args.task in
    let a = g.H.Host.account c.args.host.now in
    let b = g.H.Host.account c.reduce_partition.new.host in
    let all = reducing_places c.args.self.now c.args.task in
    let asked = subst (λ n. WasAsked e n a b c.reduce_partition.result) places
    (c.reduce_partition.ensures.asked ready.pairs ready.gathered) in record {
      value = values_by c.self.invariant c.args.task below c.as_slice.result.now
          c.as_slice.ensures c.index-as_slice-channel.result c.index-as_slice-channel.is
          c.in-Group.grouping c.in-Group.is c.self.view_is g.F.Functions.called
          c.reduce_partition.result c.reduce_partition.ensures.value;
      ran = asked_ran e all a b c.reduce_partition.result asked;
      early = asked_early e all a b c.reduce_partition.result asked;
    }
