-- The line of a plan with rewrites that lead to it is taken, whatever the names and the graph are.
use Rattle.std.proofs.Common.{List, ◌++◌, Ok, refl}
use Rattle.std.specs.List.{AllByRecursion}
use Rattle.exec_graph.specs.declared.graph.Graph.{Graph}
use Rattle.exec_plan.specs.declared.plan.Plan.{Plan}
use Rattle.graph_rewrites.specs.declared.rewrite.Rewrite.{Rewrite}
use Rattle.plan_tracing.specs.of_plan_check.Checked.{Forms, IsChecked}
use Rattle.plan_tracing.specs.of_plan_file_law.Files.{plan_file_text, told_by}
use Rattle.plan_tracing.proofs.of_plan_file_law.Ended.{line_feed}
use Rattle.plan_tracing.proofs.of_plan_file_law.Files.{line_read}
use Rattle.plan_tracing.specs.of_plan_files.Written.{HasSmallNumbers}
use Rattle.plan_writing.specs.Naming.{Naming}

pub line_taken : (names : Naming) (g : Graph) (rewrites : List Rewrite) (plan : Plan)
    → AllByRecursion HasSmallNumbers rewrites → Forms g rewrites plan
    → IsChecked names g (plan_file_text names plan rewrites ++ line_feed) (Ok plan)
line_taken names g rewrites plan small forms = (
  record {
    file = told_by names plan rewrites;
    is_file = line_read names plan rewrites small;
    forms = forms;
  },
  refl,
)
