use Rattle.std.proofs.Common.{◌≡◌, ◌≤◌, take, vec_len, vec_capacity}
use Rattle.std.specs.List.{All}
use Rattle.memory_outside.specs.Slots.{slot_files, HasSlotRoom}
use Rattle.memory_outside.proofs.slots.copy_files.Given as goal

abbrev pub invariant-loop-file : goal.invariant-loop-file
invariant-loop-file l = record {
  files : slot_files l.slots.items ≡ take l.file-index l.files;
  rooms : All (HasSlotRoom l.room) l.slots.items;
  len : vec_len l.slots ≡ l.file-index;
  capacity : l.max_files ≤ vec_capacity l.slots;
}
