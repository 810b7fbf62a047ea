use Rattle.std.proofs.Common.{◌≡◌, ◌+◌, take, length}
use Rattle.graph_joins.specs.Blocks.{names_in}
use Rattle.graph_joins.proofs.names.spot_of.Given as goal

-- those that stand in the blocks before, and those left to pass
abbrev pub invariant-loop-i : goal.invariant-loop-i
invariant-loop-i l = l.at ≡ length (names_in (take l.i l.blocks)) + l.rest
