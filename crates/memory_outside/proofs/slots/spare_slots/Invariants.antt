use Rattle.std.proofs.Common.{◌≡◌, vec_len}
use Rattle.std.specs.List.{All}
use Rattle.memory_outside.specs.Slots.{HasSlotRoom}
use Rattle.memory_outside.proofs.slots.spare_slots.Given as goal

abbrev pub invariant-loop-turn : goal.invariant-loop-turn
invariant-loop-turn l = record {
  rooms : All (HasSlotRoom l.room) l.spare.items;
  len : vec_len l.spare ≡ l._turn;
}
