use Rattle.plan_texts.specs.of_graph_build.Graphs.{graph_of}
use Rattle.plan_texts.specs.Texts.{naming_of}
use Rattle.outer_plans.proofs.Lines.{line_taken}
use Rattle.outer_plans.proofs.laws.line_law.Goals as goal

pub returns : goal.returns
returns c = λ script rewrites plan small leads.
    line_taken (naming_of script) (graph_of script) rewrites plan small leads
