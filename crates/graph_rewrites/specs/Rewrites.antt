-- When a rewrite may be made, and what it makes of a graph with its marks.
use Rattle.std.specs.Prelude.{ℕ, ◌<◌, ◌≤◌, nat_lt, cond, List, [], ◌∷◌, ◌++◌, Option, Some}
use Rattle.graph_bounds.specs.of_exec_graph.Forests.{Forest}
use Rattle.graph_bounds.specs.of_exec_graph.Meaning.{place, node_at}
use Rattle.graph_bounds.specs.of_exec_graph.Wellformed.{most_nodes, total_size}
use Rattle.graph_bounds.specs.of_exec_graph.declared.graph.Place.{Place}
use Rattle.graph_bounds.specs.of_exec_graph.declared.graph.Node.{Node}
use Rattle.graph_bounds.specs.of_exec_graph.declared.graph.Node.TheVariants.{Pdo}
use Rattle.graph_bounds.specs.of_exec_graph.declared.graph.Graph.{Graph}
use Rattle.graph_bounds.specs.of_exec_graph.declared.graph.Blocked.{Blocked}
use Rattle.fusion_blocks.specs.Blocks.{CanMark}
use Rattle.graph_bounds.specs.of_graph_laws.Kids.{CanKid, CanPair, with_kid, with_sibling}
use Rattle.graph_bounds.specs.of_graph_laws.Lifting.{CanLift, lifted_at}
use Rattle.graph_bounds.specs.of_sink_laws.Chain.{CanSinkPdo, CanNest, after_call, after_nest, forest_of}
use Rattle.graph_bounds.specs.of_sink_laws.declared.pair.Pair.{Pair}
use Rattle.graph_rewrites.specs.Exchange.{swapped}
use Rattle.graph_rewrites.specs.declared.rewrite.Rewrite.{Rewrite}
use Rattle.graph_rewrites.specs.declared.rewrite.Rewrite.TheVariants.{Merge, Sink, Lift, Kid, Sibling, Mark}

abbrev pub pair_of_nodes : ℕ → ℕ → Pair
pair_of_nodes flatten other = record { flatten = flatten; other = other }

-- ---- kids and siblings, by their numbers

-- what a Pdo reads
abbrev pub input_of : Option Node → Place
input_of (Some (Pdo c f)) = c
input_of _ = place 0 0

abbrev pub input_at : Graph → ℕ → Place
input_at g n = input_of (node_at g.nodes n)

abbrev pub forest_at : Graph → ℕ → Forest
forest_at g n = forest_of (node_at g.nodes n)

-- q is a Pdo that reads the output k of the Pdo p
abbrev pub CanBeKid : Graph → ℕ → ℕ → ℕ → Type 0
CanBeKid g p k q = CanKid g p k q (input_at g p) (forest_at g p) (forest_at g q)

-- p and q are Pdos that read one collection
abbrev pub CanBeSibling : Graph → ℕ → ℕ → Type 0
CanBeSibling g p q = CanPair g p q (input_at g p) (forest_at g p) (forest_at g q)

-- the two Pdos have each other's number
abbrev pub swapped_at : Graph → ℕ → ℕ → ℕ → Graph
swapped_at g p k q =
    swapped g p q (input_at g p) (place p k) (forest_at g p) (forest_at g q)

-- q is a kid of p, under the number of p
abbrev pub kid_under : Graph → ℕ → ℕ → ℕ → Graph
kid_under g p k q = with_kid g p k q (input_at g p) (forest_at g p) (forest_at g q)

-- q is a kid of p, under the number of q: the two first exchange their numbers
abbrev pub kid_under_other : Graph → ℕ → ℕ → ℕ → Graph
kid_under_other g p k q =
    with_kid (swapped_at g p k q) q k p (input_at g p) (forest_at g p) (forest_at g q)

-- q is a kid of p, under the lesser of both numbers
abbrev pub after_kid : Graph → ℕ → ℕ → ℕ → Graph
after_kid g p k q = cond (nat_lt q p) (kid_under_other g p k q) (kid_under g p k q)

abbrev pub after_sibling : Graph → ℕ → ℕ → Graph
after_sibling g p q = with_sibling g p q (input_at g p) (forest_at g p) (forest_at g q)

-- ---- rewrites

-- there is room for the graph after the step
abbrev pub HasRoom : Graph → Pair → Type 0
HasRoom g p = total_size (after_call g p).nodes ≤ most_nodes

-- the rewrite may be made of the graph with its marks, whatever was made before
abbrev pub CanApply : Blocked → Rewrite → Type 0
CanApply b (Merge outer inner) = CanNest b.graph (pair_of_nodes outer inner)
CanApply b (Sink flatten pdo) =
    CanSinkPdo b.graph (pair_of_nodes flatten pdo) × HasRoom b.graph (pair_of_nodes flatten pdo)
CanApply b (Lift group) = CanLift b.graph group
CanApply b (Kid keeper output reader) = CanBeKid b.graph keeper output reader
CanApply b (Sibling keeper other) = (keeper < other) × CanBeSibling b.graph keeper other
CanApply b (Mark node output) = CanMark b.graph (place node output)

-- the graph that it makes
abbrev pub rewritten : Graph → Rewrite → Graph
rewritten g (Merge outer inner) = after_nest g (pair_of_nodes outer inner)
rewritten g (Sink flatten pdo) = after_call g (pair_of_nodes flatten pdo)
rewritten g (Lift group) = lifted_at group g
rewritten g (Kid keeper output reader) = after_kid g keeper output reader
rewritten g (Sibling keeper other) = after_sibling g keeper other
rewritten g (Mark node output) = g

-- the marks behind it
abbrev pub marks_with : List Place → Rewrite → List Place
marks_with marks (Merge outer inner) = marks
marks_with marks (Sink flatten pdo) = marks
marks_with marks (Lift group) = marks
marks_with marks (Kid keeper output reader) = marks
marks_with marks (Sibling keeper other) = marks
marks_with marks (Mark node output) = marks ++ place node output ∷ []

abbrev pub applied : Blocked → Rewrite → Blocked
applied b r = record { graph = rewritten b.graph r; marks = marks_with b.marks r }
