use Rattle.std.proofs.Common.{◌≡◌, ◌++◌, codes, take}
use Rattle.std.specs.List.{flat_map}
use Rattle.script_keys.specs.Keys.{part_bytes}
use Rattle.script_keys.proofs.keys.key_of.Given as goal

abbrev pub invariant-loop-part : goal.invariant-loop-part
invariant-loop-part l =
    l.key.items ≡ codes "FLUME1" ++ flat_map (part_bytes l.files) (take l.part-index l.parts)
