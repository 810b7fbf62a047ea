use Rattle.std.proofs.Common.{◌≡◌, ◌++◌, take}
use Rattle.std.specs.List.{flat_map}
use Rattle.script_keys.specs.Outlines.{operand_names}
use Rattle.script_keys.proofs.outline.read_in.Given as goal

abbrev pub invariant-loop-own : goal.invariant-loop-own
invariant-loop-own l =
    l.reads ≡ l.repeat.from ++ flat_map (λ own. operand_names own.by) (take l.own-index l.lets)
