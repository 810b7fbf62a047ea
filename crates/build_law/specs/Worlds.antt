-- The world that the graph of a script means something in.
use Rattle.std.specs.Prelude.{List, [], Option, Some, None, Ok, slice_index_or}
use Rattle.flume_value.specs.declared.value.Value.{Value}
use Rattle.flume_collection.specs.Calls.{Called}
use Rattle.direct_meaning.specs.Calls.{answer_of}
use Rattle.exec_graph.specs.World.{World}
use Rattle.graph_build.specs.of_script_program.Script.{Function, Script}
use Rattle.direct_meaning.specs.of_script_laws.WellFormed.{function_at}

-- an answer; a call that has none gives nothing
abbrev pub or_silent : Option Called → Called
or_silent None = Ok []
or_silent (Some called) = called

abbrev pub answered_by : Option Function → Value → Called
answered_by None x = Ok []
answered_by (Some function) x = or_silent (answer_of function x)

-- the lists of the needed sources of a script, by their numbers: rows of inputs, and behind them
-- members of kept collections; and what its functions answer
abbrev pub script_world : Script → List (List Value) → World
script_world script inputs = record {
  rows = λ r. slice_index_or inputs r [];
  called = λ f x. answered_by (function_at script.functions f) x;
}
