use Rattle.graph_build.specs.Graphs.{graph_of}
use Rattle.script_rewrites.proofs.Places.{built_outputs, made_outputs}
use Rattle.script_rewrites.proofs.laws.places_law.Goals as goal

pub returns-clause-graph : goal.returns-clause-graph
returns-clause-graph c = built_outputs

pub returns-clause-plan : goal.returns-clause-plan
returns-clause-plan c = λ statements script rs plan short e made.
    made_outputs script rs plan made
    (c.replay_law.ensures.same rs (graph_of script) made.refined
    (c.graph_law.ensures.accepted statements script short e) made.leads)

pub returns-clause-script : goal.returns-clause-script
returns-clause-script c = λ statements script plan short e is.
    let it = c.made_law.ensures statements script plan short e is in
    made_outputs script it.0 plan it.1
    (c.replay_law.ensures.same it.0 (graph_of script) it.1.refined
    (c.graph_law.ensures.accepted statements script short e) it.1.leads)
