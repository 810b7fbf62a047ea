-- The execution graph of a script: the nodes of its needed collections, in the order of the script.
-- A call stands in it once, behind its kept names, where one of its names is needed that is not
-- kept.
use Rattle.std.specs.Prelude.{ℕ, ◌+◌, ◌-◌, List, [], ◌∷◌, ◌++◌, length, map, Option, Some, None, if◌then◌else◌, slice_index, slice_index_or}
use Rattle.std.proofs.Common.{suc}
use Rattle.exec_graph.specs.declared.graph.Entry.{Entry}
use Rattle.exec_graph.specs.declared.graph.Graph.{Graph}
use Rattle.exec_graph.specs.declared.graph.Place.{Place}
use Rattle.script_program.specs.declared.made.Emitted.{Emitted}
use Rattle.script_program.specs.declared.made.Made.{Made}
use Rattle.script_program.specs.Script.{Script}
use Rattle.exec_graph.specs.Meaning.{place}
use Rattle.graph_build.specs.Built.{Built, built}
use Rattle.graph_build.specs.Calls.{emitted_as, is_saved_made, numbers_kept_from, needed_from, number_behind, other_names}
use Rattle.graph_build.specs.Nodes.{before_last, first_of, sources_made, made_nodes}
use Rattle.graph_build.specs.Wanted.{wanted}

-- ---- numbers

-- the number of the last node of what is built, whose first has the number n; 0 where nothing is
abbrev pub last_node : ℕ → Option Built → ℕ
last_node n None = 0
last_node n (Some it) = n + before_last it.made

-- the number behind its nodes
abbrev pub number_past : ℕ → Option Built → ℕ
number_past n None = n
number_past n (Some it) = n + before_last it.made + 1

-- the number of the last node that is built at each collection, where the next node has the number
-- n
abbrev pub giving_from : ℕ → List (Option Built) → List ℕ
giving_from n [] = []
giving_from n (it ∷ rest) = last_node n it ∷ giving_from (number_past n it) rest

abbrev pub giving : Script → List ℕ
giving script = giving_from 0 (built script)

-- ---- places

-- the place of an output that a call emits, by the number of its first name: the call's node, which
-- stands behind the kept names, and how many of the outputs before it are needed
abbrev pub call_place : Script → List ℕ → ℕ → ℕ → ℕ → Place
call_place script giving first function output =
    place
    (slice_index giving
    (first + length (numbers_kept_from script first (suc (other_names script function)))))
    (number_behind 0 (needed_from script first output))

-- the place of an output of a call that is kept: a node of its own, behind those of the kept names
-- before it
abbrev pub kept_place : Script → List ℕ → ℕ → ℕ → Place
kept_place script giving first output =
    first_of (slice_index giving (first + length (numbers_kept_from script first output)))

-- the place of a collection that is so made, by the numbers of the last nodes: what that node
-- gives, or an output of a call
abbrev pub place_as : Script → List ℕ → ℕ → Made → Option Emitted → Place
place_as script giving number how None = first_of (slice_index giving number)
place_as script giving number how (Some it) =
    if is_saved_made (Some how) then kept_place script giving (number - it.output) it.output
    else call_place script giving (number - it.output) it.function it.output

-- none is read where it is not needed
abbrev pub place_made : Script → List ℕ → ℕ → Option Made → Place
place_made script giving number None = first_of 0
place_made script giving number (Some how) =
    place_as script giving number how (emitted_as how)

abbrev pub places_from : Script → List ℕ → ℕ → List (Option Made) → List Place
places_from script giving number [] = []
places_from script giving number (how ∷ rest) =
    place_made script giving number how ∷ places_from script giving (suc number) rest

-- the places of all collections of a script
abbrev pub places : Script → List Place
places script = places_from script (giving script) 0 (wanted script)

-- the place of the collection of that number, by those of all
abbrev pub place_at_number : List Place → ℕ → Place
place_at_number places number = slice_index_or places number (first_of 0)

-- ---- nodes

-- the number of the next source behind what is built, in order of the script
abbrev pub next_source : ℕ → Option Built → ℕ
next_source source None = source
next_source source (Some it) = source + sources_made it.made

-- the nodes of what is built
abbrev pub nodes_at : Script → (ℕ → Place) → ℕ → ℕ → Option Built → List Entry
nodes_at script gives source n None = []
nodes_at script gives source n (Some it) = made_nodes script gives it.number source n it.made

-- the nodes of all that is built, one behind the other
abbrev pub nodes_from : Script → (ℕ → Place) → ℕ → ℕ → List (Option Built) → List Entry
nodes_from script gives source n [] = []
nodes_from script gives source n (it ∷ rest) =
    nodes_at script gives source n it
    ++ nodes_from script gives (next_source source it) (number_past n it) rest

abbrev pub nodes_of : Script → List Entry
nodes_of script = nodes_from script (place_at_number (places script)) 0 0 (built script)

-- ---- the graph

-- the execution graph of a script
abbrev pub graph_of : Script → Graph
graph_of script = record {
  nodes = nodes_of script;
  outputs = map (λ output. place_at_number (places script) output.1.reads) script.outputs;
  next = length (nodes_of script);
}
