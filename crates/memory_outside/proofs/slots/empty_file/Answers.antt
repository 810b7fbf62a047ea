use Rattle.std.proofs.Common.{◌<◌, length, arith}
use Rattle.memory_outside.proofs.SlotLemmas.{slot_written, total_emptied}
use Rattle.memory_outside.proofs.slots.empty_file.Goals as goal

pub returns-clause-files : goal.returns-clause-files
returns-clause-files c =
    let below : c.args.k < length c.args.slots.now.items = omega (arith, c.args.slots.now.ok.0) in
    slot_written c.args.slots.now.items c.args.k c.index_mut.result.now below
    c.index_mut.ensures.value _ _ c.clear.ensures.items

pub returns-clause-total : goal.returns-clause-total
returns-clause-total c =
    let below : c.args.k < length c.args.slots.now.items = omega (arith, c.args.slots.now.ok.0) in
    total_emptied c.args.slots.now.items c.args.k c.index_mut.result.now below
    c.index_mut.ensures.value _ c.clear.ensures.items
