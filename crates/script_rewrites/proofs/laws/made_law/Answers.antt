use Rattle.graph_build.specs.Graphs.{graph_of}
use Rattle.script_plans.specs.Plans.{scales_of}
use Rattle.script_rewrites.proofs.laws.made_law.Goals as goal

pub returns : goal.returns
returns c = λ statements script plan short e made.
    let well = c.well_formed_law.ensures.well_formed statements script e in
    let list =
    c.refined_law.ensures (scales_of script) (graph_of script) made.refined
    (c.graph_law.ensures.accepted statements script short e)
    (c.one_step_law.ensures.unfused script) (c.one_step_law.ensures.narrow script well)
    made.is_refined in
    (list.0, record { refined = made.refined; leads = list.1; formed = made.is_formed })
