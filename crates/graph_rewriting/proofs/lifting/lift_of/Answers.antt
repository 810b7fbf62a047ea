use Rattle.std.proofs.Common.{sym, subst}
use Rattle.exec_graph.specs.Wellformed.{Ascends}
use Rattle.graph_rewriting.proofs.lifting.lift_of.Goals as goal

pub comb_at-requires : goal.comb_at-requires
comb_at-requires c = subst Ascends (sym c.as_slice-nodes.ensures) c.requires
