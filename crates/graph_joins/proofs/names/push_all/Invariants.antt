use Rattle.std.proofs.Common.{◌≡◌, ◌++◌, drop}
use Rattle.graph_joins.specs.Blocks.{names_in}
use Rattle.graph_joins.proofs.names.push_all.Given as goal

abbrev pub invariant-loop-block : goal.invariant-loop-block
invariant-loop-block l =
    l.names.items ++ names_in (drop l.block-index l.blocks)
    ≡ l.fn.names.items ++ names_in l.blocks
