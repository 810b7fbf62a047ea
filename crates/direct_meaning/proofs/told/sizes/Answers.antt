use Rattle.direct_meaning.proofs.SizeLemmas.{size_more}
use Rattle.direct_meaning.proofs.told.sizes.Goals as goal

pub loop-number-preserved : goal.loop-number-preserved
loop-number-preserved c =
    size_more c.args.program.now.script.nodes c.args.table.now c.loop-number.number
    c.node_name.result.now c.index-table-number.result c.loop-number.sizes.items
    c.push_size.new.sizes.items c.node_name.ensures c.loop-number-test.true
    c.index-table-number.is c.in_ok-push_size.ensures c.loop-number.invariant
