-- Nodes of which some are taken out: a Flatten of nothing stands in the place of each.
use Rattle.std.specs.Prelude.{nat_lt, Bool, true, List, length}
use Rattle.std.specs.List.{filter}
use Rattle.exec_graph.specs.declared.graph.Entry.{Entry}
use Rattle.exec_graph.specs.declared.graph.Node.{Node}
use Rattle.exec_graph.specs.declared.graph.Node.TheVariants.{Source, Flatten, Pdo, Gbk, Barrier}

abbrev pub is_here : Node → Bool
is_here (Source r) = true
is_here (Flatten ins) = nat_lt 0 (length ins)
is_here (Pdo c f) = true
is_here (Gbk c o l k) = true
is_here (Barrier ins o l a) = true

abbrev pub present : List Entry → List Entry
present es = filter (λ (e : Entry). is_here e.node) es
