use Rattle.std.proofs.Common.{◌∙◌}
use Rattle.graph_build.proofs.BuiltLemmas.{built_is}
use Rattle.graph_build.proofs.built.built_at.Goals as goal

pub returns : goal.returns
returns c =
    c.in_ok-built.ensures
    ∙ built_is c.args.program.now.script c.args.number _ c.node-node.ensures.is
