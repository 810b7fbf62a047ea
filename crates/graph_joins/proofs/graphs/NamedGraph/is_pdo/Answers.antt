use Rattle.std.proofs.Common.{◌∙◌}
use Rattle.graph_joins.proofs.PresentLemmas.{pdo_present}
use Rattle.graph_joins.proofs.graphs.NamedGraph.is_pdo.Goals as goal

pub returns : goal.returns
returns c =
    c.is_pdo_at.ensures
    ∙ pdo_present c.entries.result.now c.args.self.now.nodes c.args.number
    c.entries.ensures.ascends c.entries.ensures.present
