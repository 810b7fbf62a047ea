use Rattle.std.proofs.Common.{◌<◌, ◌∙◌, ap, length, arith}
use Rattle.std.proofs.lemmas.List.{length-map}
use Rattle.memory_outside.specs.Slots.{slot_file, slot_files}
use Rattle.memory_outside.proofs.SlotEntries.{emptied_filled, piece_added}
use Rattle.memory_outside.proofs.put.replace.Goals as goal

pub returns-clause-files : goal.returns-clause-files
returns-clause-files c =
    let slots = c.args.slots.now.items in
    let below : c.args.k < length (slot_files slots)
    = omega (arith, c.requires.within, c.args.slots.now.ok.0, length-map slots slot_file) in
    c.add_piece.ensures.files
    ∙ ap (λ fs. piece_added fs c.args.k c.args.bytes.now) c.empty_file.ensures.files
    ∙ emptied_filled (slot_files slots) c.args.k c.args.bytes.now below
