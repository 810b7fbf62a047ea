use Rattle.std.proofs.Common.{◌≡◌, ◌++◌, List, drop, map, take}
use Rattle.std.specs.List.{AllZip, flat_map}
use Rattle.flume_value.specs.declared.value.Value.{Value}
use Rattle.exec_plan.specs.declared.plan.Take.{Take}
use Rattle.map_shard.specs.inner.Fillings.{IsFilled}
use Rattle.map_shard.specs.inner.Sending.{taken, taken_by, takes_of}
use Rattle.map_shard.proofs.send.send_more.Given as goal

abbrev pub invariant-loop-channel : goal.invariant-loop-channel
invariant-loop-channel l = record {
  given : l.given.rest.items
      ≡ map (taken_by l.m l.fn.lists.items) (flat_map takes_of (drop l.channel-index l.channels));
  filled : (before : List Take → List Value)
      → AllZip (IsFilled l.partitions before) l.channels l.fn.fillings.items
      → AllZip (IsFilled l.partitions (λ takes. before takes ++ taken l.m l.fn.lists.items takes))
      (take l.channel-index l.channels) l.more.items
      × AllZip (IsFilled l.partitions before) (drop l.channel-index l.channels) l.old.rest.items;
}
