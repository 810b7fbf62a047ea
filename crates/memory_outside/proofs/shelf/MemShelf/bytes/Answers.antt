use Rattle.std.proofs.Common.{◌≡◌, ◌<◌, Some, None, length, arith, ap, sym, ◌∙◌}
use Rattle.outside.specs.Files.{bytes_of}
use Rattle.memory_outside.specs.Slots.{slot_files, place_of_file}
use Rattle.memory_outside.proofs.Places.{at_place, at_none, within}
use Rattle.memory_outside.proofs.SlotLemmas.{slot_bytes}
use Rattle.memory_outside.proofs.shelf.MemShelf.bytes.Goals as goal

pub index-requires : goal.index-requires
index-requires c =
    let p : place_of_file (slot_files c.self.inside.slots.items) c.args.name.now ≡ Some c.in-Some.k
    = sym (rw (c.deref.ensures.value, c.as_bytes.ensures.value) at c.in-Some.ensures) in
    omega (
      arith,
      c.self.inside.slots.ok.0,
      within c.self.inside.slots.items c.args.name.now
          c.in-Some.k p,
    )

pub returns-in-Some : goal.returns-in-Some
returns-in-Some c =
    let p : place_of_file (slot_files c.self.inside.slots.items) c.args.name.now ≡ Some c.in-Some.k
    = sym (rw (c.deref.ensures.value, c.as_bytes.ensures.value) at c.in-Some.ensures) in
    let below : c.in-Some.k < length c.self.inside.slots.items
    = within c.self.inside.slots.items c.args.name.now c.in-Some.k p in
    ap Some (c.as_slice.ensures.value ∙ sym (slot_bytes c.self.inside.slots.items c.in-Some.k
    c.index.result.now below c.index.ensures))
    ∙ sym (at_place (slot_files c.self.inside.slots.items) c.args.name.now c.in-Some.k p).bytes_is
    ∙ ap (λ shelf. bytes_of shelf.files c.args.name.now) c.self.view_is

pub returns-in-None : goal.returns-in-None
returns-in-None c =
    let p : place_of_file (slot_files c.self.inside.slots.items) c.args.name.now ≡ None
    = sym (rw (c.deref.ensures.value, c.as_bytes.ensures.value) at c.in-None.ensures) in
    sym (at_none (slot_files c.self.inside.slots.items) c.args.name.now p).bytes_is
    ∙ ap (λ shelf. bytes_of shelf.files c.args.name.now) c.self.view_is
