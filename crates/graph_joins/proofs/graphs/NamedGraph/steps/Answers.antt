use Rattle.std.proofs.Common.{◌∙◌}
use Rattle.graph_joins.proofs.PresentLemmas.{forest_present}
use Rattle.graph_joins.proofs.graphs.NamedGraph.steps.Goals as goal

pub returns : goal.returns
returns c =
    c.steps_at.ensures
    ∙ forest_present c.entries.result.now c.args.self.now.nodes c.args.number
    c.entries.ensures.ascends c.entries.ensures.present
