use Rattle.std.proofs.Common.{ℕ, List, Ok, refl}
use Rattle.exec_graph.specs.declared.graph.Graph.{Graph}
use Rattle.exec_plan.specs.declared.plan.Plan.{Plan}
use Rattle.graph_rewrites.specs.declared.rewrite.Rewrite.{Rewrite}
use Rattle.plan_check.specs.Checked.{Forms, IsChecked}
use Rattle.plan_file_law.specs.Files.{told_by}
use Rattle.plan_file_law.specs.of_plan_files.Reads.{IsFile}
use Rattle.plan_writing.specs.Naming.{Naming}
use Rattle.plan_tracing.proofs.laws.accepted_law.Goals as goal

taken : (names : Naming) (g : Graph) (rewrites : List Rewrite) (plan : Plan) (bytes : List ℕ)
    → Forms g rewrites plan → IsFile bytes (told_by names plan rewrites)
    → IsChecked names g bytes (Ok plan)
taken names g rewrites plan bytes forms is_file =
    (record { file = told_by names plan rewrites; is_file = is_file; forms = forms }, refl)

pub returns-clause-text : goal.returns-clause-text
returns-clause-text c = λ names g rewrites plan answer ok small forms checked known.
    c.answer_law.ensures names g _ answer (Ok plan) ok checked
    (taken names g rewrites plan _ forms (c.file_law.ensures.text names plan rewrites small))
    known (λ e. let bad : ⊥ = cc in bad)

pub returns-clause-line : goal.returns-clause-line
returns-clause-line c = λ names g rewrites plan answer ok small forms checked known.
    c.answer_law.ensures names g _ answer (Ok plan) ok checked
    (taken names g rewrites plan _ forms (c.file_law.ensures.line names plan rewrites small))
    known (λ e. let bad : ⊥ = cc in bad)
