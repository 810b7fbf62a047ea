use Rattle.std.proofs.Common.{◌≡◌, ◌++◌, length, take}
use Rattle.std.specs.List.{fold, flat_map}
use Rattle.flume_value.specs.Canonical.{canonical, length_bytes}
use Rattle.flume_value.specs.Partitions.{hash_step}
use Rattle.flume_value.proofs.hashing.+hash.Given as goal

abbrev pub invariant-hash_items-loop-item : goal.invariant-hash_items-loop-item
invariant-hash_items-loop-item l =
    l.hash ≡ fold hash_step l.fn.start
    (length_bytes (length l.items) ++ flat_map canonical (take l.item-index l.items))
