use Rattle.std.proofs.Common.{◌∙◌}
use Rattle.graph_joins.proofs.PresentLemmas.{input_present}
use Rattle.graph_joins.proofs.graphs.NamedGraph.input.Goals as goal

pub returns : goal.returns
returns c =
    c.input_at.ensures
    ∙ input_present c.entries.result.now c.args.self.now.nodes c.args.number
    c.entries.ensures.ascends c.entries.ensures.present
