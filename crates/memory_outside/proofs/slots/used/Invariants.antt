use Rattle.std.proofs.Common.{◌≡◌, sum_by, take}
use Rattle.memory_outside.specs.Slots.{slot_size}
use Rattle.memory_outside.proofs.slots.used.Given as goal

abbrev pub invariant-loop-slot : goal.invariant-loop-slot
invariant-loop-slot l = l.all ≡ sum_by slot_size (take l.slot-index l.slots)
