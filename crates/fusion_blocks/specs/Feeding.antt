-- Which collections feed a Gbk: its input does, and where that is a Flatten's, so do the inputs of
-- the Flatten.
use Rattle.std.specs.Prelude.{◌&&◌, ◌||◌, Bool, false, List}
use Rattle.std.specs.List.{list_any}
use Rattle.exec_graph.specs.Meaning.{place}
use Rattle.exec_graph.specs.Readers.{same_place, among, any_node}
use Rattle.exec_graph.specs.declared.graph.Place.{Place}
use Rattle.exec_graph.specs.declared.graph.Node.{Node}
use Rattle.exec_graph.specs.declared.graph.Node.TheVariants.{Flatten, Gbk}
use Rattle.exec_graph.specs.declared.graph.Entry.{Entry}

-- whether the node is a Gbk of c
abbrev pub is_gbk_of : Place → Node → Bool
is_gbk_of c (Gbk d o l k) = same_place c d
is_gbk_of c _ = false

-- whether the node is a Flatten of c
abbrev pub is_flatten_of : Place → Node → Bool
is_flatten_of c (Flatten ins) = among c ins
is_flatten_of c _ = false

-- whether c is the input of a Gbk
abbrev pub is_grouped : List Entry → Place → Bool
is_grouped es c = any_node (is_gbk_of c) es

-- whether the node is a Gbk of c, or a Flatten of c that is the input of a Gbk
abbrev pub feeds_by : List Entry → Place → Entry → Bool
feeds_by es c e = is_gbk_of c e.node || (is_grouped es (place e.number 0) && is_flatten_of c e.node)

-- whether c feeds a Gbk
abbrev pub feeds : List Entry → Place → Bool
feeds es c = list_any (feeds_by es c) es
