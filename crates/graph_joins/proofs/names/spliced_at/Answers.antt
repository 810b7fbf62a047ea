use Rattle.std.proofs.Common.{◌∙◌}
use Rattle.graph_joins.specs.Blocks.{names_in}
use Rattle.graph_joins.proofs.BlockLemmas.{names_put}
use Rattle.graph_joins.proofs.names.spliced_at.Goals as goal

pub returns : goal.returns
returns c =
    c.in_ok-halve.ensures
    ∙ names_put c.args.blocks.items c.args.spot.block c.args.spot.behind c.args.keep
    (names_in c.args.more.now) c.index_mut.result.now c.put_names.new.block c.requires.block
    c.index_mut.ensures.value (c.requires.behind c.index_mut.result.now)
    c.in_ok-put_names.ensures
