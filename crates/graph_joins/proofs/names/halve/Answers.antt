use Rattle.std.proofs.Common.{ap, ◌∙◌}
use Rattle.graph_joins.specs.Blocks.{names_in}
use Rattle.graph_joins.specs.declared.names.Block.{Block}
use Rattle.graph_joins.proofs.BlockLemmas.{names_halved}
use Rattle.graph_joins.proofs.names.halve.Goals as goal

pub returns : goal.returns
returns c =
    let new : Block = record {
      number = c.len-number.result;
      names = c.in_ok-names.names;
    } in
    ap names_in c.in_ok-insert.ensures.items
    ∙ names_halved c.args.blocks.now.items c.args.at c.index_mut.result.now
    c.second_half.new.block new c.requires c.index_mut.ensures.value c.in_ok-names.ensures
