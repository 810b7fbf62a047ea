-- The text and the JSON of a plan of a script, whose names they print.
use Rattle.std.specs.Prelude.{ℕ, List, map}
use Rattle.serde_json.specs.Data.{Data}
use Rattle.exec_plan.specs.declared.plan.Plan.{Plan}
use Rattle.graph_print.specs.of_script_program.declared.made.Output.{Output}
use Rattle.graph_print.specs.of_script_program.Script.{Script}
use Rattle.graph_print.specs.Names.{printed_name}
use Rattle.graph_print.specs.Steps.{combiner_text, step_text}
use Rattle.plan_writing.specs.Naming.{Naming, Written}
use Rattle.plan_writing.specs.PlanText as text
use Rattle.plan_json.specs.PlanJson as json

-- an output by its file, under the name that its statement has
abbrev pub written_of : List ℕ × Output → Written
written_of output = record { name = output.1.name; file = output.0 }

-- what a script calls the numbers of its plans
abbrev pub naming_of : Script → Naming
naming_of script = record {
  step = step_text script;
  node = printed_name script.nodes;
  combiner = combiner_text;
  outputs = map written_of script.outputs;
}

abbrev pub plan_text_of : Script → Plan → List ℕ
plan_text_of script plan = text.plan_text_of (naming_of script) plan

abbrev pub plan_json_of : Script → Plan → Data
plan_json_of script plan = json.plan_json_of (naming_of script) plan
