-- Whether a pair can be merged or sunk, as a test.
use Rattle.std.specs.Prelude.{ℕ, nat_le, ◌&&◌, Bool, true, false, List, length, Option, Some}
use Rattle.exec_graph.specs.Meaning.{node_at, place}
use Rattle.exec_graph.specs.Readers.{among, same_place}
use Rattle.exec_graph.specs.Wellformed.{most_nodes}
use Rattle.exec_graph.specs.declared.graph.Entry.{Entry}
use Rattle.exec_graph.specs.declared.graph.Node.{Node}
use Rattle.exec_graph.specs.declared.graph.Node.TheVariants.{Flatten, Pdo}
use Rattle.sink_laws.specs.Chain.{ins_of}
use Rattle.sink_laws.specs.Merging.{spliced}
use Rattle.sink_laws.specs.declared.pair.Pair.{Pair}

abbrev pub is_flatten : Option Node → Bool
is_flatten (Some (Flatten ins)) = true
is_flatten _ = false

-- Whether it is a Pdo that reads the first output of n.
abbrev pub calls_first : ℕ → Option Node → Bool
calls_first n (Some (Pdo c f)) = same_place (place n 0) c
calls_first n _ = false

abbrev pub can_nest : List Entry → Pair → Bool
can_nest es p =
    is_flatten (node_at es p.other)
    && (among (place p.other 0) (ins_of (node_at es p.flatten))
    && nat_le (length (spliced p.other (ins_of (node_at es p.other))
    (ins_of (node_at es p.flatten)))) most_nodes)

abbrev pub can_call : List Entry → Pair → Bool
can_call es p =
    is_flatten (node_at es p.flatten) && calls_first p.flatten (node_at es p.other)
