-- What the steps and the groups of a graph read.
use Rattle.std.specs.List.{All}
use Rattle.flume_value.specs.declared.value.Value.{Value}
use Rattle.bag_groups.specs.Pairs.{IsPair}
use Rattle.keyed_steps.specs.Keyed.{IsGroup}
use Rattle.flume_collection.specs.Collection.{Collection}
use Rattle.exec_graph.specs.Calls.{called}
use Rattle.exec_graph.specs.Forests.{Label, Forest, Bare, Grow}
use Rattle.exec_graph.specs.Meaning.{through}
use Rattle.exec_graph.specs.World.{World}
use Rattle.exec_graph.specs.declared.graph.Node.{Node}
use Rattle.exec_graph.specs.declared.graph.Node.TheVariants.{Source, Flatten, Pdo, Gbk, Barrier}
use Rattle.exec_graph.specs.declared.graph.Place.{Place}
use Rattle.exec_graph.specs.declared.step.Does.{Does}
use Rattle.exec_graph.specs.declared.step.Does.TheVariants as does
use Rattle.no_defaults.specs.Readings.{HasOutput, IsListed}

-- the member is of the form that the step reads
abbrev pub SuitsStep : Does → Value → Type 0
SuitsStep (does.Combine c) member = IsGroup c member
SuitsStep does.TagLeft member = IsPair member
SuitsStep does.TagRight member = IsPair member
SuitsStep does.Split member = IsListed member
SuitsStep does.Spread member = IsListed member
SuitsStep _ member = Unit {0}

-- and the answer has a list for the output that the label stands for
abbrev pub StepFinds : World → Label → Value → Type 0
StepFinds w l member = SuitsStep l.does member × HasOutput l.at (called w l.does member)

-- so it is with each step of a forest, on all that it is given
abbrev pub ForestFinds : World → Collection → Forest → Type 0
ForestFinds w v Bare = Unit {0}
ForestFinds w v (Grow l kids rest) =
    All (StepFinds w l) v.bag × ForestFinds w (through w l v) kids × ForestFinds w v rest

-- and with each group
abbrev pub NodeFinds : World → (Place → Collection) → Node → Type 0
NodeFinds w m (Source r) = Unit {0}
NodeFinds w m (Flatten ins) = Unit {0}
NodeFinds w m (Pdo c f) = ForestFinds w (m c) f
NodeFinds w m (Gbk c o l k) = All IsPair (m c).bag
NodeFinds w m (Barrier ins o l a) = Unit {0}
