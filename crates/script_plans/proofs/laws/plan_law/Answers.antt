use Rattle.std.proofs.Common.{refl}
use Rattle.build_law.specs.of_graph_build.Graphs.{graph_of}
use Rattle.script_plans.proofs.Planned.{can_optimise}
use Rattle.script_plans.proofs.laws.plan_law.Goals as goal
use Rattle.script_plans.specs.Plans.{scales_of}

pub returns-clause-some : goal.returns-clause-some
returns-clause-some c statements script short e =
    c.one_law.ensures.some (scales_of script) (graph_of script) (can_optimise script
    (graph_of script) (c.well_formed_law.ensures.well_formed statements script e) refl
    (c.graph_law.ensures.accepted statements script short e)
    c.one_step_law.ensures.unfused c.one_step_law.ensures.narrow)

pub returns-clause-one : goal.returns-clause-one
returns-clause-one c statements script p q short e =
    c.one_law.ensures.plan (scales_of script) (graph_of script) p q (can_optimise script
    (graph_of script) (c.well_formed_law.ensures.well_formed statements script e) refl
    (c.graph_law.ensures.accepted statements script short e)
    c.one_step_law.ensures.unfused c.one_step_law.ensures.narrow)
