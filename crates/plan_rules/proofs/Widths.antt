-- A stage gives as many results as its operation gives collections.
use Rattle.std.proofs.Common.{◌≡◌, ℕ, ◌+◌, List, [], ◌∷◌, ◌++◌, map, length, Option, Some, None, refl, sym, ◌∙◌, arith, length-append}
use Rattle.std.specs.List.{AllByRecursion, flat_map}
use Rattle.graph_laws.specs.of_exec_graph.Meaning.{node_at, place}
use Rattle.graph_laws.specs.of_exec_graph.declared.graph.Place.{Place}
use Rattle.graph_laws.specs.of_exec_graph.declared.graph.Node.{Node}
use Rattle.graph_laws.specs.of_exec_graph.declared.graph.Node.TheVariants.{Source, Flatten, Pdo, Gbk, Barrier}
use Rattle.graph_laws.specs.of_exec_graph.declared.graph.Entry.{Entry}
use Rattle.plan_making.specs.of_exec_plan.declared.plan.PlanPlace.{PlanPlace}
use Rattle.plan_making.specs.of_exec_plan.declared.plan.OutChannel.{OutChannel}
use Rattle.plan_making.specs.of_exec_plan.declared.plan.OutChannel.TheVariants.{Group, Pass}
use Rattle.plan_making.specs.of_exec_plan.Channels.{outs_of}
use Rattle.plan_making.specs.of_exec_plan.Wellformed.{count_of_outputs, stage_width, results_given, widths}
use Rattle.plan_laws.specs.declared.operations.Key.{Key}
use Rattle.plan_laws.specs.declared.operations.Grouped.{Grouped}
use Rattle.plan_laws.specs.declared.operations.Operation.{Operation}
use Rattle.plan_laws.specs.declared.operations.Operation.TheVariants.{Flat, Class}
use Rattle.plan_laws.specs.Operations.{flat_inputs, flat_stage, IsGroupedOk, IsHonest, IsReducer, IsPdoOn, TakesInputs, forest_in, gives_of, group_at, group_gives, group_channel, numbered_out, numbered_outs, outs_at, pass_of, reduced, reducer_forest, stage_of}
pub use Rattle.plan_making.proofs.of_exec_plan.Meeting.{map-length as length_map, outs_counted as outs_length}

numbered_width : (n : ℕ) (o : OutChannel) → results_given (numbered_out n o) ≡ results_given o
numbered_width n (Group g) = refl
numbered_width n (Pass k i) = refl

numbered_widths : (n : ℕ) (os : List OutChannel) → widths (numbered_outs n os) ≡ widths os
numbered_widths n [] = refl
numbered_widths n (o ∷ os) =
    let a = numbered_width n o in
    let b = numbered_widths (n + results_given o) os in omega arith

forest_outs : (n r : ℕ) (o : Option Node) → IsPdoOn (place n 0) o
    → count_of_outputs (forest_in o) ≡ length (map (place r) (outs_at o))
forest_outs n r (Some (Pdo c f)) h = sym (length_map (place r) (outs_of f) ∙ outs_length f)
forest_outs n r _ h = absurd h

reducer_outs : (es : List Entry) (n : ℕ) (r : Option ℕ) → IsReducer es n r
    → count_of_outputs (reducer_forest es r) ≡ length (reduced es n r)
reducer_outs es n None h = refl
reducer_outs es n (Some r) h = forest_outs n r (node_at es r) h

pub group_width : (es : List Entry) (keys : List Key) (n : ℕ) (r : Option ℕ) (o : Option Node)
    → TakesInputs es keys o → IsReducer es n r
    → results_given (Group (group_at es keys r o)) ≡ length (reduced es n r)
group_width es keys n r (Some (Gbk c x l k)) t h = reducer_outs es n r h
group_width es keys n r _ t h = absurd t

pub class_widths : (es : List Entry) (keys : List Key) (gs : List Grouped) (cs : List Place)
    → AllByRecursion (IsGroupedOk es keys) gs
    → widths (map (group_channel es keys) gs ++ map (pass_of keys) cs)
    ≡ length (flat_map (group_gives es) gs ++ cs)
class_widths es keys [] [] h = refl
class_widths es keys [] (c ∷ cs) h = let i = class_widths es keys [] cs tt in omega arith
class_widths es keys (g ∷ gs) cs h =
    let a = group_width es keys g.gbk g.reducer (node_at es g.gbk) h.0.0 h.0.1 in
    let b = class_widths es keys gs cs h.1 in
    let c = length-append (group_gives es g) (flat_map (group_gives es) gs) in
    let d = length-append (flat_map (group_gives es) gs) cs in
    let e = length-append (group_gives es g ++ flat_map (group_gives es) gs) cs in
    omega arith

flat_width : (o : Option Node) (takes : List PlanPlace) → stage_width (flat_stage o takes) ≡ 1
flat_width None takes = refl
flat_width (Some (Source s)) takes = refl
flat_width (Some (Flatten ins)) takes = refl
flat_width (Some (Pdo c f)) takes = refl
flat_width (Some (Gbk c o l k)) takes = refl
flat_width (Some (Barrier ins o l a)) takes = refl

pub operation_width : (es : List Entry) (f : Place → PlanPlace) (o : Operation) → IsHonest es o
    → stage_width (stage_of es f o) ≡ length (gives_of es o)
operation_width es f (Flat n) h = flat_width (node_at es n) (map f (flat_inputs (node_at es n)))
operation_width es f (Class keys gs cs) h =
    numbered_widths 0 (map (group_channel es keys) gs ++ map (pass_of keys) cs)
    ∙ class_widths es keys gs cs h.1
