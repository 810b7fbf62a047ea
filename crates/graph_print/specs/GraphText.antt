-- The text of an execution graph: a line for each node, and for each output of the script.
use Rattle.std.specs.Prelude.{ℕ, ◌==◌, List, [], ◌∷◌, ◌++◌, codes, decimal, if◌then◌else◌, slice_get, slice_index, Option, Some, None}
use Rattle.std.specs.List.{flat_map}
use Rattle.exec_graph.specs.declared.graph.Act.{Act}
use Rattle.exec_graph.specs.declared.graph.Act.TheVariants.{SideInput, Operate, Singleton}
use Rattle.exec_graph.specs.declared.graph.Entry.{Entry}
use Rattle.exec_graph.specs.declared.graph.Graph.{Graph}
use Rattle.exec_graph.specs.declared.graph.Node.{Node}
use Rattle.exec_graph.specs.declared.graph.Node.TheVariants.{Source, Flatten, Pdo, Gbk, Barrier}
use Rattle.exec_graph.specs.declared.graph.Place.{Place}
use Rattle.exec_graph.specs.Forests.{Forest, Bare, Grow}
use Rattle.graph_build.specs.Origins.{origins_of}
use Rattle.printing.specs.Printed.{quoted}
use Rattle.graph_build.specs.of_script_program.Needed.{made_of}
use Rattle.graph_build.specs.of_script_program.declared.made.Made.{Made}
use Rattle.graph_build.specs.of_script_program.declared.made.Made.TheVariants as made
use Rattle.graph_build.specs.of_script_program.declared.made.Output.{Output}
use Rattle.graph_build.specs.of_script_program.Script.{Script}
use Rattle.written_types.specs.Named.{Named}
use Rattle.graph_print.specs.Names.{printed_name}
use Rattle.graph_print.specs.Steps.{act_text, step_text}

-- what a node gives: the first output by the number of the node alone
abbrev pub place_text : Place → List ℕ
place_text place =
    if place.out == 0 then decimal place.node
    else decimal place.node ++ (codes "." ++ decimal place.out)

-- the one step of a forest
abbrev pub root_text : Script → Forest → List ℕ
root_text script Bare = []
root_text script (Grow step kids rest) = step_text script step.origin step.does

abbrev pub input_text : Place → List ℕ
input_text place = place_text place ++ codes " "

-- an object beside a collection
abbrev pub object_text : Place → List ℕ
object_text object = codes "with " ++ input_text object

-- a collection, and the object beside it
abbrev pub beside_text : List Place → List ℕ
beside_text [] = []
beside_text (input ∷ objects) = input_text input ++ flat_map object_text objects

-- what an act takes: a collection beside an object, objects, or one collection
abbrev pub taken_text : Act → List Place → List ℕ
taken_text (SideInput function) inputs = codes "do " ++ beside_text inputs
taken_text (Operate function) inputs = codes "operate " ++ flat_map input_text inputs
taken_text (Singleton combiner) inputs = codes "operate " ++ flat_map input_text inputs

-- a source is an input, or a collection that an earlier run has kept
abbrev pub source_word : Option Made → List ℕ
source_word (Some (made.Saved is_object call)) = codes "saved "
source_word _ = codes "source "

-- the node of the collection `origin`, behind its number
abbrev pub node_text : Script → ℕ → Node → List ℕ
node_text script origin (Source input) =
    source_word (slice_get (made_of script) origin) ++ printed_name script.nodes origin
node_text script origin (Flatten inputs) =
    codes "flatten " ++ (flat_map input_text inputs ++ printed_name script.nodes origin)
node_text script origin (Pdo input steps) =
    codes "do " ++ (input_text input ++ root_text script steps)
node_text script origin (Gbk input group last lifted) =
    codes "group " ++ (input_text input ++ printed_name script.nodes group)
node_text script origin (Barrier inputs own last act) =
    taken_text act inputs ++ act_text script own act

-- the line of a node, where the nodes are built for these collections
abbrev pub node_line : Script → List ℕ → Entry → List ℕ
node_line script origins entry =
    decimal entry.number
    ++ (codes " "
    ++ (node_text script (slice_index origins entry.number) entry.node ++ codes "\n"))

-- the line of an output that is read there, by the name that its statement has
abbrev pub output_line : List ℕ × Output → Place → List ℕ
output_line output place =
    codes "output "
    ++ (output.1.name
    ++ (codes " reads "
    ++ (place_text place ++ (codes " to " ++ (quoted output.0 ++ codes "\n")))))

abbrev pub output_lines : Named Output → List Place → List ℕ
output_lines [] places = []
output_lines (output ∷ outputs) [] = []
output_lines (output ∷ outputs) (place ∷ places) =
    output_line output place ++ output_lines outputs places

-- the text of the graph that is built of a script, whose names it prints
abbrev pub graph_text : Script → Graph → List ℕ
graph_text script graph =
    codes "graph\n"
    ++ (flat_map (node_line script (origins_of script)) graph.nodes
    ++ output_lines script.outputs graph.outputs)
