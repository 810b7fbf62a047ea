-- The plan of a script, as rewrites of its graph make it.
use Rattle.std.specs.Prelude.{List}
use Rattle.exec_graph.specs.declared.graph.Blocked.{Blocked}
use Rattle.exec_plan.specs.declared.plan.Plan.{Plan}
use Rattle.form_laws.specs.Formed.{IsFormed}
use Rattle.fusion_blocks.specs.Blocks.{unmarked}
use Rattle.graph_build.specs.Graphs.{graph_of}
use Rattle.graph_rewrites.specs.Replays.{Leads}
use Rattle.graph_rewrites.specs.declared.rewrite.Rewrite.{Rewrite}
use Rattle.pass_rewrites.specs.of_optimise.Optimised.{source_count}
use Rattle.script_program.specs.Script.{Script}

-- The rewrites lead from the script's graph to a graph with its marks, of which the plan is formed.
pub record IsMadeBy (script : Script) (rs : List Rewrite) (plan : Plan) : Type 0 where
  pub refined : Blocked
  pub leads : Leads 0 rs (unmarked (graph_of script)) refined
  pub formed : IsFormed (source_count (graph_of script).nodes) refined plan
