use Rattle.std.proofs.Common.{◌∙◌, sym}
use Rattle.graph_build.proofs.WantedLemmas.{wanted_needed, wanted_needless}
use Rattle.graph_build.proofs.wanted.wanted_within.Goals as goal

pub returns-then-is_needed : goal.returns-then-is_needed
returns-then-is_needed c =
    wanted_needed c.args.program.now.script c.args.number _ c.node-node.ensures.is
    (sym c.if-is_needed.true ∙ c.is_needed.ensures)

pub returns-else-is_needed : goal.returns-else-is_needed
returns-else-is_needed c =
    wanted_needless c.args.program.now.script c.args.number _ c.node-node.ensures.is
    (sym c.if-is_needed.false ∙ c.is_needed.ensures)
