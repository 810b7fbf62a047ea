-- Operations over a graph without objects make a plan without any: a stage operates only where its
-- node is a barrier, and a channel is beside an object only there.
use Rattle.std.proofs.Common.{◌≡◌, ℕ, ◌++◌, List, [], ◌∷◌, map, Option, Some, None, suc, refl}
use Rattle.std.specs.List.{AllByRecursion}
use Rattle.exec_plan.specs.of_exec_graph.Meaning.{node_at}
use Rattle.exec_plan.specs.of_exec_graph.ObjectFree.{IsNodeFree}
use Rattle.exec_plan.specs.of_exec_graph.declared.graph.Place.{Place}
use Rattle.exec_plan.specs.of_exec_graph.declared.graph.Node.{Node}
use Rattle.exec_plan.specs.of_exec_graph.declared.graph.Node.TheVariants.{Source, Flatten, Pdo, Gbk, Barrier}
use Rattle.exec_plan.specs.of_exec_graph.declared.graph.Entry.{Entry}
use Rattle.exec_plan.proofs.of_exec_graph.Entries.{all_found}
use Rattle.exec_plan.specs.ObjectFree.{IsStageFree}
use Rattle.exec_plan.specs.declared.plan.InChannel.{InChannel}
use Rattle.exec_plan.specs.declared.plan.PlanPlace.{PlanPlace}
use Rattle.plan_laws.specs.declared.operations.Key.{Key}
use Rattle.plan_laws.specs.declared.operations.Key.TheVariants.{Mapper, Whole}
use Rattle.plan_laws.specs.declared.operations.Operation.{Operation}
use Rattle.plan_laws.specs.declared.operations.Operation.TheVariants.{Flat, Class}
use Rattle.plan_laws.specs.Operations.{channel_of, channels_of, flat_inputs, flat_stage, gives_of, channel_named, pdo_channel, placed_results, stage_of, stages_of}

abbrev AreFree : List Entry → Type 0
AreFree es = AllByRecursion (λ e. IsNodeFree e.node) es

-- ---- stages of one node

node_stage : (es : List Entry) (n : ℕ) (o : Option Node) (takes : List PlanPlace) → AreFree es
    → node_at es n ≡ o → IsStageFree (flat_stage o takes)
node_stage es n None takes a h = tt
node_stage es n (Some (Source r)) takes a h = tt
node_stage es n (Some (Flatten ins)) takes a h = tt
node_stage es n (Some (Pdo c f)) takes a h = tt
node_stage es n (Some (Gbk c o l k)) takes a h = tt
node_stage es n (Some (Barrier ins o l d)) takes a h =
    all_found (λ (e : Entry). IsNodeFree e.node) es n (Barrier ins o l d) h a

-- ---- channels

node_channel : (es : List Entry) (f : Place → PlanPlace) (n : ℕ) (o : Option Node) → AreFree es
    → node_at es n ≡ o → (channel_named f (pdo_channel n o)).beside ≡ None
node_channel es f n None a h = refl
node_channel es f n (Some (Source r)) a h = refl
node_channel es f n (Some (Flatten ins)) a h = refl
node_channel es f n (Some (Pdo c g)) a h = refl
node_channel es f n (Some (Gbk c o l k)) a h = refl
node_channel es f n (Some (Barrier ins o l d)) a h =
    let bad : ⊥ = all_found (λ (e : Entry). IsNodeFree e.node) es n (Barrier ins o l d) h a in
    absurd bad

key_channel : (es : List Entry) (f : Place → PlanPlace) (k : Key) → AreFree es
    → (channel_named f (channel_of es k)).beside ≡ None
key_channel es f (Mapper n) a = node_channel es f n (node_at es n) a refl
key_channel es f (Whole c) a = refl

key_channels : (es : List Entry) (f : Place → PlanPlace) (ks : List Key) → AreFree es
    → AllByRecursion (λ (c : InChannel). c.beside ≡ None)
    (map (channel_named f) (channels_of es ks))
key_channels es f [] a = tt
key_channels es f (k ∷ ks) a = (key_channel es f k a, key_channels es f ks a)

-- ---- stages

one_stage : (es : List Entry) (f : Place → PlanPlace) (o : Operation) → AreFree es
    → IsStageFree (stage_of es f o)
one_stage es f (Flat n) a =
    node_stage es n (node_at es n) (map f (flat_inputs (node_at es n))) a refl
one_stage es f (Class keys groups passes) a = key_channels es f keys a

pub all_stages : (es : List Entry) (k : ℕ) (f : Place → PlanPlace) (os : List Operation)
    → AreFree es → AllByRecursion IsStageFree (stages_of es k f os)
all_stages es k f [] a = tt
all_stages es k f (o ∷ os) a =
    (one_stage es f o a, all_stages es (suc k) (placed_results k 0 (gives_of es o) f) os a)
