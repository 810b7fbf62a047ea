use Rattle.std.proofs.Common.{◌≡◌, take}
use Rattle.std.specs.List.{flat_map}
use Rattle.script_keys.specs.Outlines.{callees}
use Rattle.script_keys.proofs.outline.called_in.Given as goal

abbrev pub invariant-loop-own : goal.invariant-loop-own
invariant-loop-own l = l.calls ≡ flat_map (λ own. callees own.by) (take l.own-index l.lets)
