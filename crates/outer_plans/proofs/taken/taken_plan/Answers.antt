use Rattle.std.proofs.Common.{subst}
use Rattle.exec_graph.specs.declared.graph.Graph.{Graph}
use Rattle.plan_tracing.specs.of_plan_check.Checked.{IsChecked}
use Rattle.plan_texts.specs.Texts.{naming_of}
use Rattle.outer_plans.proofs.Sources.{checked_means}
use Rattle.outer_plans.proofs.taken.taken_plan.Goals as goal

pub check_plan-requires : goal.check_plan-requires
check_plan-requires c =
    c.passes_law.ensures _ _ c.requires.well_formed c.requires.built c.requires.ok

pub returns-clause-answer : goal.returns-clause-answer
returns-clause-answer c =
    subst (λ (g : Graph). IsChecked (naming_of c.args.program.now.script) g c.args.bytes.now
    c.check_plan.result) c.requires.built c.check_plan.ensures.checked

pub returns-clause-means : goal.returns-clause-means
returns-clause-means c =
    let script = c.args.program.now.script in
    checked_means script (naming_of script) c.args.graph c.args.bytes.now c.check_plan.result
    c.requires.built c.requires.well_formed c.check_plan.ensures.checked
    c.check_plan.ensures.well_formed c.check_plan.ensures.same c.check_plan.ensures.types
