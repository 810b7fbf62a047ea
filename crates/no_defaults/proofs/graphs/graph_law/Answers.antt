use Rattle.no_defaults.proofs.GraphLemmas.{graph_finds}
use Rattle.no_defaults.proofs.graphs.graph_law.Goals as goal

pub returns : goal.returns
returns c = graph_finds
