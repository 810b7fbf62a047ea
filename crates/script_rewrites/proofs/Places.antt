-- A graph that means the same has as many outputs, and so has a plan that is formed of it.
use Rattle.std.proofs.Common.{◌≡◌, ℕ, List, [], length, map, sym, ap, ◌∙◌}
use Rattle.std.specs.Prelude.{Ok}
use Rattle.std.proofs.lemmas.List.{length-map}
use Rattle.flume_collection.specs.Collection.{Collection}
use Rattle.exec_graph.specs.Meaning.{SameMeaning, collection}
use Rattle.exec_graph.specs.World.{World}
use Rattle.exec_graph.specs.declared.graph.Blocked.{Blocked}
use Rattle.exec_graph.specs.declared.graph.Graph.{Graph}
use Rattle.exec_graph.specs.declared.graph.Place.{Place}
use Rattle.exec_plan.specs.declared.plan.Plan.{Plan}
use Rattle.form_laws.specs.Formed.{IsFormed}
use Rattle.graph_build.specs.Graphs.{graph_of, place_at_number, places}
use Rattle.graph_rewrites.specs.declared.rewrite.Rewrite.{Rewrite}
use Rattle.pass_rewrites.specs.of_optimise.Optimised.{source_count}
use Rattle.plan_laws.specs.Operations.{at_source, places_of}
use Rattle.script_program.specs.Script.{Script}
use Rattle.script_rewrites.specs.Made.{IsMadeBy}

-- a world in which nothing is read, and each call answers nothing
abbrev idle : World
idle = record { rows = λ n. []; called = λ n x. Ok [] }

same_outputs : (g h : Graph) → SameMeaning g h → length h.outputs ≡ length g.outputs
same_outputs g h same =
    let m : Place → Collection = collection idle g in
    let k : Place → Collection = collection idle h in
    let one : map m g.outputs ≡ map k h.outputs = (same idle).outputs in
    sym (length-map h.outputs k) ∙ ap length (sym one) ∙ length-map g.outputs m

formed_outputs : (sources : ℕ) (b : Blocked) (p : Plan) → IsFormed sources b p
    → length p.outputs ≡ length b.graph.outputs
formed_outputs sources b p f =
    ap (λ (q : Plan). length q.outputs) f.plan
    ∙ length-map b.graph.outputs
    (places_of b.graph.nodes 1 (at_source b.graph.nodes) f.operations)

pub built_outputs : (script : Script) → length (graph_of script).outputs ≡ length script.outputs
built_outputs script =
    length-map script.outputs (λ output. place_at_number (places script) output.1.reads)

pub made_outputs : (script : Script) (rs : List Rewrite) (plan : Plan)
    → (it : IsMadeBy script rs plan) → SameMeaning (graph_of script) it.refined.graph
    → length plan.outputs ≡ length script.outputs
made_outputs script rs plan it same =
    formed_outputs (source_count (graph_of script).nodes) it.refined plan it.formed
    ∙ same_outputs (graph_of script) it.refined.graph same
    ∙ built_outputs script
