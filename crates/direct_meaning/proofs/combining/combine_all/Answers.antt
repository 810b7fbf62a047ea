use Rattle.combine_table.specs.Combinations.{combined}
use Rattle.flume_collection.specs.Calls.{trap_named}
use Rattle.direct_meaning.proofs.CombineLemmas.{traps_further, values_further}
use Rattle.direct_meaning.proofs.combining.combine_all.Goals as goal

pub loop-group-preserved : goal.loop-group-preserved
loop-group-preserved c =
    let by = combined c.args.by in
    let at = c.loop-group.group-index in
    let group = c.group-item.result in
    record {
      values = rw c.in_ok-combine_one.ensures.values
          (values_further by c.args.groups.now c.loop-group.values.items at group
          c.loop-group-test.true c.group-item.is c.loop-group.invariant.values);
      traps = rw (c.in_ok-combine_one.ensures.traps, c.loop-group.invariant.traps)
          (traps_further (trap_named c.args.origin) by c.args.groups.now c.args.traps.now.items at
          group c.loop-group-test.true c.group-item.is);
    }
