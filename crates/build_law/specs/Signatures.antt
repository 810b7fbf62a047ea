-- The types of a script's needed sources and of its functions.
use Rattle.std.specs.Prelude.{Bool, false, List, [], ◌∷◌, ◌++◌, Option, Some, None, slice_get}
use Rattle.std.specs.List.{flat_map}
use Rattle.flume_types.specs.declared.types.Ty.{Ty}
use Rattle.flume_types.specs.declared.types.Ty.TheVariants as type
use Rattle.exec_graph.specs.Typing.{Signatures}
use Rattle.graph_build.specs.of_script_program.Needed.{needed_nodes}
use Rattle.graph_build.specs.of_script_program.declared.made.Made.{Made}
use Rattle.graph_build.specs.of_script_program.declared.made.Made.TheVariants as made
use Rattle.graph_build.specs.of_script_program.Script.{Function, Script}
use Rattle.direct_meaning.specs.of_script_laws.WellFormed.{function_at}
use Rattle.direct_meaning.specs.Inputs.{Sourced}

-- ---- sources, by their numbers

-- the source that a collection is where it is an input, and where it is a kept one
abbrev pub input_by : Made → Ty → List Sourced
input_by (made.Input file columns) type = record { type = type; is_object = false } ∷ []
input_by _ type = []

abbrev pub saved_by : Made → Ty → List Sourced
saved_by (made.Saved is_object call) type = record { type = type; is_object = is_object } ∷ []
saved_by _ type = []

-- the needed inputs, and behind them the needed kept collections, both in order of the script
abbrev pub sources_of : Script → List Sourced
sources_of script =
    flat_map (λ it. input_by it.1.1.made it.1.1.type) (needed_nodes script)
    ++ flat_map (λ it. saved_by it.1.1.made it.1.1.type) (needed_nodes script)

-- what is not there has the type int, is no object, and gives nothing
abbrev pub source_type : Option Sourced → Ty
source_type None = type.Int
source_type (Some source) = source.type

abbrev pub source_object : Option Sourced → Bool
source_object None = false
source_object (Some source) = source.is_object

-- ---- signatures

abbrev pub taken_by : Option Function → Ty
taken_by None = type.Int
taken_by (Some function) = function.signature.takes

abbrev pub given_by : Option Function → List Ty
given_by None = []
given_by (Some function) = function.signature.gives

-- of each needed source, by its number, and of each function
abbrev pub signatures_of : Script → Signatures
signatures_of script = record {
  inputs = λ r. source_type (slice_get (sources_of script) r);
  takes = λ f. taken_by (function_at script.functions f);
  gives = λ f. given_by (function_at script.functions f);
}
