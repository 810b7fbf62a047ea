-- The room of a shelf in memory.
use Rattle.std.specs.Prelude.{◌≤◌, ◌+◌, All, sum_by, vec_capacity, vec_len}
use Rattle.std.specs.Option.{ForSome}
use Rattle.memory_outside.specs.Slots.{slot_files, HasSlotRoom, IsPlace, slot_size}
use Rattle.memory_outside.specs.declared.shelf.MemShelf.TheInside.{Inside}

-- The files are within the room, each slot has all of the room, and the begun file is found by its
-- name.
pub record IsWithinRoom (shelf : Inside) : Type 0 where
  pub begun_is_place : ForSome shelf.begun (λ k. IsPlace (slot_files shelf.slots.items) k)
  pub slots_room : All (HasSlotRoom shelf.room) shelf.slots.items
  pub spare_room : All (HasSlotRoom shelf.room) shelf.spare.items
  pub within : sum_by slot_size shelf.slots.items ≤ shelf.room
  pub places : vec_len shelf.slots + vec_len shelf.spare ≤ vec_capacity shelf.slots
