use Rattle.std.proofs.Common.{◌≡◌, ◌+◌, ◌<◌, ◌≤◌, ◌++◌, length, vec_len, vec_capacity, is_ok, true, arith, ap, sym, ◌∙◌}
use Rattle.memory_outside.proofs.SlotLemmas.{slot_written, slot_bytes}
use Rattle.memory_outside.proofs.RoomLemmas.{size_within, room_at}
use Rattle.memory_outside.proofs.slots.add_piece.Goals as goal

pub returns-clause-files : goal.returns-clause-files
returns-clause-files c =
    let slots = c.args.slots.now.items in
    let x = c.index_mut.result.now in
    let is = c.index_mut.ensures.value in
    let below : c.args.k < length c.args.slots.now.items = omega (arith, c.args.slots.now.ok.0) in
    let fits : vec_len x.bytes + length c.args.piece.now ≤ vec_capacity x.bytes =
    omega (
      arith,
      x.bytes.ok.0,
      (room_at slots c.args.k x below is c.args.room c.requires.rooms).1,
      size_within slots c.args.k x below is,
      c.requires.fits,
    ) in
    let ok : is_ok c.extend_from_slice.result ≡ true = c.extend_from_slice.ensures.succeeds fits in
    slot_written slots c.args.k x below is _ _
    ((rw ok at c.extend_from_slice.ensures.items)
    ∙ ap (λ b. b ++ c.args.piece.now) (sym (slot_bytes slots c.args.k x below is)))
