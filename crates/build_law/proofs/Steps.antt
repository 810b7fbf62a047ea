-- The steps of a collection, by what they are: one ahead of the last, and the last.
use Rattle.std.specs.Prelude.{ℕ, false, true}
use Rattle.exec_graph.specs.declared.graph.Node.{Node}
use Rattle.exec_graph.specs.declared.graph.Node.TheVariants.{Pdo}
use Rattle.exec_graph.specs.declared.graph.Place.{Place}
use Rattle.exec_graph.specs.declared.step.Does.{Does}
use Rattle.graph_build.specs.Nodes.{one_step}

abbrev pub step : ℕ → Does → Place → Node
step origin does input = Pdo input (one_step origin false does)

abbrev pub last_step : ℕ → Does → Place → Node
last_step origin does input = Pdo input (one_step origin true does)
