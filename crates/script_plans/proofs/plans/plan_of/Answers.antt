use Rattle.script_plans.proofs.Meant.{means_graph}
use Rattle.script_plans.proofs.plans.plan_of.Goals as goal

pub optimise-requires : goal.optimise-requires
optimise-requires c =
    c.passes_law.ensures _ _ c.requires.well_formed c.requires.built c.requires.ok

pub returns-clause-means : goal.returns-clause-means
returns-clause-means c =
    let made = c.in_ok-plan.ensures in
    means_graph c.args.program.now.script c.args.graph c.in_ok-plan.plan c.requires.built
    c.requires.well_formed made.well_formed made.same made.types made.sources
