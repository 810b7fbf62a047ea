-- The stage of an operation is well-formed where what it reads is made.
use Rattle.std.proofs.Common.{◌≡◌, ℕ, ◌+◌, ◌<◌, ◌≤◌, Bool, true, false, ◌||◌, List, [], ◌∷◌, ◌++◌, map, length, Option, Some, None, refl, arith, length-append}
use Rattle.std.specs.Prelude.{option_map}
use Rattle.std.specs.List.{AllByRecursion, flat_map}
use Rattle.flume_value.proofs.EachLemmas.{Each-left, Each-right}
use Rattle.graph_laws.specs.of_exec_graph.Meaning.{node_at}
use Rattle.graph_laws.specs.of_exec_graph.declared.graph.Place.{Place}
use Rattle.graph_laws.specs.of_exec_graph.declared.graph.Node.{Node}
use Rattle.graph_laws.specs.of_exec_graph.declared.graph.Node.TheVariants.{Source, Flatten, Pdo, Gbk, Barrier}
use Rattle.graph_laws.specs.of_exec_graph.declared.graph.Entry.{Entry}
use Rattle.plan_making.specs.of_exec_plan.declared.plan.PlanPlace.{PlanPlace}
use Rattle.plan_making.specs.of_exec_plan.declared.plan.OutChannel.{OutChannel}
use Rattle.plan_making.specs.of_exec_plan.declared.plan.Stage.{Stage}
use Rattle.plan_making.specs.of_exec_plan.Meaning.{in_reads, object_places as with_place}
use Rattle.plan_making.specs.of_exec_plan.Wellformed.{AreOutChannels, IsGroupOk, IsLiftOk, IsPlaceSoFar, IsStageOk, most_channels, results_given}
use Rattle.plan_laws.specs.declared.operations.Key.{Key}
use Rattle.plan_laws.specs.declared.operations.Grouped.{Grouped}
use Rattle.plan_laws.specs.declared.operations.Operation.{Operation}
use Rattle.plan_laws.specs.declared.operations.Operation.TheVariants.{Flat, Class}
use Rattle.plan_laws.specs.Operations.{IsGroupedOk, IsHonest, IsKeyOk, IsTakenPlace, Reading, TakesInputs, channel_of, channels_of, flat_inputs, flat_stage, group_at, group_channel, read_through, channel_named, numbered_outs, pass_of, reading_reads, reads_of, reducer_forest, stage_of, with_object}
use Rattle.plan_rules.proofs.Taking.{AreNumbered, inputs, inputs_numbered, reducer_numbered, take_exists, takes_exist}
use Rattle.plan_rules.proofs.Widths.{length_map}

-- what a lifted Gbk is reduced by is a step of its combiner
abbrev pub IsLifted : List Entry → Option Node → Option ℕ → Type 0
IsLifted es (Some (Gbk c o l k)) r = IsLiftOk k (reducer_forest es r)
IsLifted es o r = Unit {0}

abbrev pub AreLifted : List Entry → List Grouped → Type 0
AreLifted es gs = AllByRecursion (λ g. IsLifted es (node_at es g.gbk) g.reducer) gs

group_ok : (es : List Entry) (f : Place → PlanPlace) (keys : List Key) (n : ℕ) (r : Option ℕ)
    (o : Option Node) → AreNumbered es → AllByRecursion (IsKeyOk es) keys → TakesInputs es keys o
    → IsLifted es o r
    → IsGroupOk (inputs es f keys) false n (record (group_at es keys r o) { first = n })
group_ok es f keys n r None a ok t l = absurd t
group_ok es f keys n r (Some (Source s)) a ok t l = absurd t
group_ok es f keys n r (Some (Flatten ins)) a ok t l = absurd t
group_ok es f keys n r (Some (Pdo d g)) a ok t l = absurd t
group_ok es f keys n r (Some (Gbk c x y k)) a ok t l = record {
  before = refl;
  first = refl;
  takes = takes_exist es f keys (read_through es c) a ok t;
  steps = reducer_numbered es r a;
  lift = l;
}
group_ok es f keys n r (Some (Barrier ins x y d)) a ok t l = absurd t

passes_ok : (es : List Entry) (f : Place → PlanPlace) (keys : List Key) (passed : Bool) (n : ℕ)
    (cs : List Place) → AreNumbered es → AllByRecursion (IsKeyOk es) keys
    → AllByRecursion (IsTakenPlace es keys) cs
    → AreOutChannels (inputs es f keys) passed n (numbered_outs n (map (pass_of keys) cs))
passes_ok es f keys passed n [] a ok h = tt
passes_ok es f keys passed n (c ∷ cs) a ok h = (
  (refl, take_exists es f keys c a ok h.0),
  passes_ok es f keys (passed || true) (n + 1) cs a ok h.1,
)

outs_ok : (es : List Entry) (f : Place → PlanPlace) (keys : List Key) (n : ℕ) (gs : List Grouped)
    (cs : List Place) → AreNumbered es → AllByRecursion (IsKeyOk es) keys
    → AllByRecursion (IsGroupedOk es keys) gs → AreLifted es gs
    → AllByRecursion (IsTakenPlace es keys) cs
    → AreOutChannels (inputs es f keys) false n
    (numbered_outs n (map (group_channel es keys) gs ++ map (pass_of keys) cs))
outs_ok es f keys n [] cs a ok i l h = passes_ok es f keys false n cs a ok h
outs_ok es f keys n (g ∷ gs) cs a ok i l h = (
  group_ok es f keys n g.reducer (node_at es g.gbk) a ok i.0.0 l.0,
  outs_ok es f keys (n + results_given (group_channel es keys g)) gs cs a ok i.1 l.1 h,
)

-- ---- stages

object_made : (n : ℕ) (before : List Stage) (f : Place → PlanPlace) (o : Option Place)
    → AllByRecursion (λ c. IsPlaceSoFar n before (f c)) (with_object o)
    → AllByRecursion (IsPlaceSoFar n before) (with_place (option_map f o))
object_made n before f None a = tt
object_made n before f (Some c) a = a

inputs_made : (n : ℕ) (before : List Stage) (f : Place → PlanPlace) (rs : List Reading)
    → AllByRecursion (λ c. IsPlaceSoFar n before (f c)) (flat_map reading_reads rs)
    → AllByRecursion (λ c. AllByRecursion (IsPlaceSoFar n before) (in_reads c))
    (map (channel_named f) rs)
inputs_made n before f [] a = tt
inputs_made n before f (r ∷ rs) a =
    let P : Place → Type 0 = λ c. IsPlaceSoFar n before (f c) in
    let more : List Place = flat_map reading_reads rs in (
      (a.0, object_made n before f r.beside (Each-left P (with_object r.beside) more a.1)),
      inputs_made n before f rs (Each-right P (with_object r.beside) more a.1),
    )

pub places_made : (n : ℕ) (before : List Stage) (f : Place → PlanPlace) (cs : List Place)
    → AllByRecursion (λ c. IsPlaceSoFar n before (f c)) cs
    → AllByRecursion (IsPlaceSoFar n before) (map f cs)
places_made n before f [] a = tt
places_made n before f (c ∷ cs) a = (a.0, places_made n before f cs a.1)

numbered_length : (n : ℕ) (os : List OutChannel) → length (numbered_outs n os) ≡ length os
numbered_length n [] = refl
numbered_length n (o ∷ os) = let i = numbered_length (n + results_given o) os in omega arith

-- the channels are some and not too many, and lifted Gbks are reduced by their combiners
pub record IsClassShort (es : List Entry) (keys : List Key) (gs : List Grouped) (cs : List Place)
    : Type 0 where
  pub some : 0 < length keys
  pub inputs : length keys ≤ most_channels
  pub outputs : length gs + length cs ≤ most_channels
  pub lifted : AreLifted es gs

abbrev pub IsShort : List Entry → Operation → Type 0
IsShort es (Flat n) = Unit {0}
IsShort es (Class keys gs cs) = IsClassShort es keys gs cs

flat_ok : (n : ℕ) (before : List Stage) (o : Option Node) (takes : List PlanPlace)
    → AllByRecursion (IsPlaceSoFar n before) takes → IsStageOk n before (flat_stage o takes)
flat_ok n before None takes a = a
flat_ok n before (Some (Source s)) takes a = a
flat_ok n before (Some (Flatten ins)) takes a = a
flat_ok n before (Some (Pdo c f)) takes a = a
flat_ok n before (Some (Gbk c o l k)) takes a = a
flat_ok n before (Some (Barrier ins o l d)) takes a = a

pub stage_ok : (n : ℕ) (es : List Entry) (before : List Stage) (f : Place → PlanPlace)
    (o : Operation) → AreNumbered es → IsHonest es o → IsShort es o
    → AllByRecursion (λ c. IsPlaceSoFar n before (f c)) (reads_of es o)
    → IsStageOk n before (stage_of es f o)
stage_ok n es before f (Flat k) a s t r =
    flat_ok n before (node_at es k) (map f (flat_inputs (node_at es k)))
    (places_made n before f (flat_inputs (node_at es k)) r)
stage_ok n es before f (Class keys gs cs) a s t r =
    let e = length_map (channel_named f) (map (channel_of es) keys) in
    let d = length_map (channel_of es) keys in
    let x = numbered_length 0 (map (group_channel es keys) gs ++ map (pass_of keys) cs) in
    let y = length-append (map (group_channel es keys) gs) (map (pass_of keys) cs) in
    let u = length_map (group_channel es keys) gs in
    let v = length_map (pass_of keys) cs in
    let some : 0 < length keys = t.some in
    let few : length keys ≤ 131072 = t.inputs in
    let outs : length gs + length cs ≤ 131072 = t.outputs in
    record {
      some = omega arith;
      few_inputs = omega arith;
      few_outputs = omega arith;
      reads = inputs_made n before f (channels_of es keys) r;
      steps = inputs_numbered es f keys a;
      channels = outs_ok es f keys 0 gs cs a s.0 s.1 t.lifted s.2;
    }
