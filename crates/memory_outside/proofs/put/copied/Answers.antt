use Rattle.std.proofs.Common.{Some, ap, sym, ◌∙◌}
use Rattle.memory_outside.specs.Slots.{slot_files}
use Rattle.memory_outside.proofs.Places.{at_place, at_none, within}
use Rattle.memory_outside.proofs.SlotEntries.{found_as}
use Rattle.memory_outside.proofs.put.copied.Goals as goal

pub slot_bytes-requires : goal.slot_bytes-requires
slot_bytes-requires c =
    within c.args.slots.now c.args.key.now c.in-Some.k (sym c.in-Some.ensures)

pub returns-in_ok-from_slice-in-Some : goal.returns-in_ok-from_slice-in-Some
returns-in_ok-from_slice-in-Some c =
    ap Some (c.in_ok-from_slice-in-Some.ensures.items ∙ c.slot_bytes.ensures.bytes)
    ∙ sym (at_place (slot_files c.args.slots.now) c.args.key.now c.in-Some.k
    (sym c.in-Some.ensures)).bytes_is
    ∙ found_as c.args.slots.now c.args.key.now

pub returns-in-None : goal.returns-in-None
returns-in-None c =
    sym (at_none (slot_files c.args.slots.now) c.args.key.now (sym c.in-None.ensures)).bytes_is
    ∙ found_as c.args.slots.now c.args.key.now
