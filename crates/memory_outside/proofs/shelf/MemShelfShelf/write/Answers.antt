use Rattle.std.proofs.Common.{◌++◌, Some, arith, ap, ◌∙◌, length, take, unwrap_or, []}
use Rattle.outside.specs.Files.{with_piece}
use Rattle.memory_outside.specs.Slots.{file_name_at, bytes_at, slot_files}
use Rattle.memory_outside.proofs.Places.{Rewritten, rewritten, within, written_files, written_name, written_place}
use Rattle.memory_outside.proofs.shelf.MemShelfShelf.write.Goals as goal
use Rattle.memory_outside.proofs.shelf.MemShelfShelf.write.Goals.{After-add_piece}

pub add_piece-requires-clause-within : goal.add_piece-requires-clause-within
add_piece-requires-clause-within c =
    omega (
      arith,
      c.self.inside.slots.ok.0,
      within c.self.inside.slots.items _ c.in-Some.k
          (c.self.invariant.begun_is_place c.in-Some.k c.in-Some.is),
    )

more : (c : After-add_piece) → Rewritten (slot_files c.self.inside.slots.items)
    (slot_files c.add_piece.new.slots.items)
    (file_name_at (slot_files c.self.inside.slots.items) c.in-Some.k)
    (bytes_at (slot_files c.self.inside.slots.items) c.in-Some.k ++ c.args.piece.now) c.in-Some.k
more c = rewritten _ _ _ _ _ (c.self.invariant.begun_is_place c.in-Some.k c.in-Some.is)
    c.add_piece.ensures.files

pub invariant_of-self-2 : goal.invariant_of-self-2
invariant_of-self-2 c = record {
  begun_is_place = written_place (slot_files c.self.inside.slots.items) _ c.self.inside.begun
      c.in-Some.k c.args.piece.now c.in-Some.is
      (c.self.invariant.begun_is_place c.in-Some.k c.in-Some.is)
      (more (goal.at.invariant_of-self-2 c).After-add_piece);
  slots_room = c.add_piece.ensures.rooms;
  spare_room = c.self.invariant.spare_room;
  within =
      let used = rw c.deref.ensures.value at c.used.ensures in
      omega (
        arith,
        c.add_piece.ensures.total,
        used,
        c.if-piece-self.false,
        c.self.invariant.within,
      );
  places = omega (
    arith,
    c.add_piece.ensures.len,
    c.add_piece.ensures.capacity,
    c.self.invariant.places,
  );
}

pub returns-clause-ok : goal.returns-clause-ok
returns-clause-ok c =
    ap Some (written_files (slot_files c.self.inside.slots.items) _ c.self.inside.begun c.in-Some.k
    c.args.piece.now c.in-Some.is (c.self.invariant.begun_is_place c.in-Some.k c.in-Some.is)
    (more (goal.at.returns-clause-ok c).After-add_piece)
    ∙ ap (λ shelf. with_piece shelf.files (unwrap_or shelf.begun [])
    (take (length c.args.piece.now) c.args.piece.now)) c.self.view_is)

pub returns-clause-name : goal.returns-clause-name
returns-clause-name c =
    written_name (slot_files c.self.inside.slots.items) _ c.self.inside.begun c.in-Some.k
    c.args.piece.now c.in-Some.is (c.self.invariant.begun_is_place c.in-Some.k c.in-Some.is)
    (more (goal.at.returns-clause-name c).After-add_piece)
    ∙ ap (λ shelf. unwrap_or shelf.begun []) c.self.view_is
