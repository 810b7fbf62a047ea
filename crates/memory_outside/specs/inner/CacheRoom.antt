-- The room of a cache in memory.
use Rattle.std.specs.Prelude.{ℕ, ◌≤◌, ◌+◌, All, sum_by, vec_capacity, vec_len}
use Rattle.std.specs.Global.{Vec}
use Rattle.memory_outside.specs.Slots.{HasSlotRoom, slot_size}
use Rattle.memory_outside.specs.declared.slots.Slot.{Slot}

-- The entries are within the room, and each slot has all of the room, those to spare included.
pub record AreSlots (slots spare : Vec Slot) (room : ℕ) : Type 0 where
  pub slots_room : All (HasSlotRoom room) slots.items
  pub spare_room : All (HasSlotRoom room) spare.items
  pub within : sum_by slot_size slots.items ≤ room
  pub places : vec_len slots + vec_len spare ≤ vec_capacity slots
