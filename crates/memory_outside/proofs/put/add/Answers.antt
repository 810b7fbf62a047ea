use Rattle.std.proofs.Common.{◌≡◌, ◌++◌, ◌∷◌, [], ◌∙◌, List, ap, length, arith}
use Rattle.std.proofs.lemmas.List.{length-map}
use Rattle.outside.specs.declared.file.File.{File}
use Rattle.memory_outside.specs.Slots.{slot_file, slot_files}
use Rattle.memory_outside.proofs.SlotEntries.{added_filled, piece_added}
use Rattle.memory_outside.proofs.put.add.Goals as goal

pub returns-clause-files : goal.returns-clause-files
returns-clause-files c =
    let slots = c.args.slots.now.items in
    let bytes = c.args.bytes.now in
    let empty : File = record { name = c.args.name.now; bytes = [] } in
    let many : c.len-k.result ≡ length (slot_files slots)
    = omega (arith, c.args.slots.now.ok.0, c.len-k.ensures, length-map slots slot_file) in
    c.add_piece.ensures.files
    ∙ ap (λ (fs : List File). piece_added fs c.len-k.result bytes) c.add_file.ensures.files
    ∙ ap (λ n. piece_added (slot_files slots ++ empty ∷ []) n bytes) many
    ∙ added_filled (slot_files slots) c.args.name.now bytes
