-- What is in memory: types under numbers, and names with numbers of types.
use Rattle.std.specs.Prelude.{ℕ, ◌<◌, ◌≤◌, List, length, map}
use Rattle.std.specs.List.{All}
use Rattle.flume_types.specs.declared.types.Ty.{Ty}
use Rattle.body_check.specs.of_written_types.Named.{Named}
use Rattle.body_check.specs.of_written_types.Known.{Known}
use Rattle.script_program.specs.declared.made.Function.{Function as HeldFunction}
use Rattle.script_program.specs.declared.made.Node.{Node as HeldNode}
use Rattle.script_program.specs.declared.made.Output.{Output}
use Rattle.script_program.specs.Script.{Function, Node}
use Rattle.script_program.specs.Saved.{kept_from, saved_as}
use Rattle.script_program.specs.Program.{Numbered, HasTypes, function_in, node_in, DoesAsWritten}

abbrev pub function_of : Known → List ℕ × HeldFunction → List ℕ × Function
function_of known entry = (entry.0, function_in known entry.1)

abbrev pub node_of : List Ty → List ℕ × HeldNode → List ℕ × Node
node_of types entry = (entry.0, node_in types entry.1)

abbrev pub numbered_of : Known → Named HeldFunction → Named HeldNode → Named Output → Numbered
numbered_of known functions nodes outputs = record {
  known = known;
  script = record {
    functions = map (function_of known) functions;
    nodes = map (node_of known.types) nodes;
    outputs = outputs;
  };
}

-- the numbers are those of types, and of the first names, and the slots do what the body does
pub record FunctionIn (known : Known) (held : HeldFunction) : Type 0 where
  pub within : HasTypes known.types held.signature
  pub named : held.type_names ≤ length known.names
  pub does : DoesAsWritten held.fun (function_in known held)

-- the number is that of a type
abbrev pub NodeIn : Known → HeldNode → Type 0
NodeIn known held = held.ty < length known.types

abbrev pub AreFunctions : Known → Named HeldFunction → Type 0
AreFunctions known functions = All (λ entry. FunctionIn known entry.1) functions

abbrev pub AreNodes : Known → Named HeldNode → Type 0
AreNodes known nodes = All (λ entry. NodeIn known entry.1) nodes

abbrev pub AreHeld : Known → Named HeldFunction → Named HeldNode → Type 0
AreHeld known functions nodes = AreFunctions known functions × AreNodes known nodes

-- ---- kept collections

-- a collection in memory that is kept
abbrev pub held_saved : HeldNode → HeldNode
held_saved held = record held { made = saved_as held.made }

abbrev pub held_saved_from : List ℕ → ℕ → Named HeldNode → Named HeldNode
held_saved_from found number nodes = kept_from held_saved found number nodes
