use Rattle.std.proofs.Common.{◌≡◌, Some, None, ap, sym, ◌∙◌}
use Rattle.memory_outside.specs.Slots.{slot_files, place_of_file}
use Rattle.memory_outside.proofs.Places.{at_place, at_none, within}
use Rattle.cache_store.specs.Entries.{found_in}
use Rattle.memory_outside.proofs.SlotEntries.{found_as}
use Rattle.memory_outside.proofs.cache.MemCache.value.Goals as goal

pub slot_bytes-requires : goal.slot_bytes-requires
slot_bytes-requires c =
    let p : place_of_file (slot_files c.self.inside.slots.items) c.args.key.now ≡ Some c.in-Some.k
    = sym (rw c.deref.ensures.value at c.in-Some.ensures) in
    rw c.deref-in-Some.ensures.value
    (within c.self.inside.slots.items c.args.key.now c.in-Some.k p)

pub returns-in-Some : goal.returns-in-Some
returns-in-Some c =
    let p : place_of_file (slot_files c.self.inside.slots.items) c.args.key.now ≡ Some c.in-Some.k
    = sym (rw c.deref.ensures.value at c.in-Some.ensures) in
    ap Some (rw c.deref-in-Some.ensures.value at c.slot_bytes.ensures.bytes)
    ∙ sym (at_place (slot_files c.self.inside.slots.items) c.args.key.now c.in-Some.k p).bytes_is
    ∙ found_as c.self.inside.slots.items c.args.key.now
    ∙ ap (λ cache. found_in cache.entries c.args.key.now) c.self.view_is

pub returns-in-None : goal.returns-in-None
returns-in-None c =
    let p : place_of_file (slot_files c.self.inside.slots.items) c.args.key.now ≡ None
    = sym (rw c.deref.ensures.value at c.in-None.ensures) in
    sym (at_none (slot_files c.self.inside.slots.items) c.args.key.now p).bytes_is
    ∙ found_as c.self.inside.slots.items c.args.key.now
    ∙ ap (λ cache. found_in cache.entries c.args.key.now) c.self.view_is
