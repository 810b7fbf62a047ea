-- Who reads a collection, in a graph with marked collections.
use Rattle.std.specs.Prelude.{◌&&◌, ◌||◌, Bool, true, false, cond, List, Option, Some}
use Rattle.exec_graph.specs.Meaning.{node_at}
use Rattle.exec_graph.specs.declared.graph.Place.{Place}
use Rattle.exec_graph.specs.declared.graph.Node.{Node}
use Rattle.exec_graph.specs.declared.graph.Node.TheVariants.{Pdo}
use Rattle.exec_graph.specs.declared.graph.Graph.{Graph}
use Rattle.exec_graph.specs.declared.graph.Blocked.{Blocked}
pub use Rattle.exec_graph.specs.Readers.{same_place, among, calls_on, collects, any_node, those, readers}

abbrev pub is_pdo : Option Node → Bool
is_pdo (Some (Pdo c f)) = true
is_pdo _ = false

abbrev pub is_marked : Blocked → Place → Bool
is_marked b c = among c b.marks

-- an unmarked output of a Pdo: what reads it is fused into that Pdo
abbrev pub is_unmarked : Blocked → Place → Bool
is_unmarked b c = is_pdo (node_at b.graph.nodes c.node) && cond (is_marked b c) false true

-- a graph with the outputs of Pdos whose readers are to be fused into these
pub record Cut : Type 0 where
  pub graph : Graph
  pub marks : List Place
  pub inner : Place → Bool

-- fusing takes all unmarked outputs
abbrev pub cut_of : Blocked → Cut
cut_of b = record { graph = b.graph; marks = b.marks; inner = is_unmarked b }

abbrev pub is_inner : Cut → Place → Bool
is_inner b c = b.inner c

abbrev pub is_outer : Cut → Place → Bool
is_outer b c = cond (b.inner c) false true

-- a step keeps its output where a Gbk, a Flatten, a Barrier or a script output reads it, or where a
-- Pdo reads it that is not fused into it
abbrev pub is_kept : Cut → Place → Bool
is_kept b c = any_node (collects c) b.graph.nodes || (among c b.graph.outputs || (is_outer b c &&
    any_node (calls_on c) b.graph.nodes))
