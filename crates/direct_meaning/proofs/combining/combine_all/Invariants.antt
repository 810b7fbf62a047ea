use Rattle.std.proofs.Common.{◌≡◌, ◌++◌, map, take}
use Rattle.flume_value.specs.Bag.{bag_of}
use Rattle.bag_groups.specs.Combining.{combined_each, traps_of_each}
use Rattle.combine_table.specs.Combinations.{combined}
use Rattle.flume_collection.specs.Calls.{trap_named}
use Rattle.direct_meaning.proofs.combining.combine_all.Given as goal

abbrev pub invariant-loop-group : goal.invariant-loop-group
invariant-loop-group l =
    let done = take l.group-index l.groups in
    record {
      values : bag_of l.values.items ≡ combined_each (combined l.by) done;
      traps : l.traps.items ≡ l.initial.traps.items
          ++ map (trap_named l.origin) (traps_of_each (combined l.by) done);
    }
