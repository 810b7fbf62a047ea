-- Operations of a plan, by the nodes of a graph that they carry out.
use Rattle.std.specs.Prelude.{◌≡◌, ℕ, ◌+◌, ◌⊎◌, Bool, true, false, cond, ◌==◌, List, [], ◌∷◌, ◌++◌, map, Option, Some, None, option_map}
use Rattle.std.proofs.Common.{suc}
use Rattle.std.specs.List.{AllByRecursion, flat_map}
use Rattle.exec_plan.specs.of_flume_collection.Collection.{Collection}
use Rattle.exec_plan.specs.of_exec_graph.World.{World}
use Rattle.exec_plan.specs.of_exec_graph.Forests.{Forest, Bare, Grow}
use Rattle.exec_plan.specs.of_exec_graph.declared.graph.Act.{Act}
use Rattle.exec_plan.specs.of_exec_graph.declared.graph.Act.TheVariants.{SideInput, Operate as Operates, Singleton}
use Rattle.exec_plan.specs.of_exec_graph.declared.step.Does.TheVariants as does
use Rattle.exec_plan.specs.of_exec_graph.Meaning.{IsThere, all_traps, collection, node_at, own_bag, place}
use Rattle.exec_plan.specs.of_exec_graph.Readers.{same_place}
use Rattle.exec_plan.specs.of_exec_graph.declared.graph.Place.{Place}
use Rattle.exec_plan.specs.of_exec_graph.declared.graph.Node.{Node}
use Rattle.exec_plan.specs.of_exec_graph.declared.graph.Node.TheVariants.{Source, Flatten, Pdo, Gbk, Barrier}
use Rattle.exec_plan.specs.of_exec_graph.declared.graph.Entry.{Entry}
use Rattle.exec_plan.specs.of_exec_graph.declared.graph.Graph.{Graph}
use Rattle.exec_plan.specs.declared.plan.PlanPlace.{PlanPlace}
use Rattle.exec_plan.specs.declared.plan.PlanPlace.TheVariants as at
use Rattle.exec_plan.specs.declared.plan.Take.{Take}
use Rattle.exec_plan.specs.declared.plan.InChannel.{InChannel}
use Rattle.exec_plan.specs.declared.plan.Grouping.{Grouping}
use Rattle.exec_plan.specs.declared.plan.OutChannel.{OutChannel}
use Rattle.exec_plan.specs.declared.plan.OutChannel.TheVariants.{Group, Pass}
use Rattle.exec_plan.specs.declared.plan.Stage.{Stage}
use Rattle.exec_plan.specs.declared.plan.Stage.TheVariants.{Mscr, Flatten as Joined, Operate}
use Rattle.exec_plan.specs.declared.plan.Plan.{Plan}
use Rattle.exec_plan.specs.Channels.{Fed, outs_of}
use Rattle.exec_plan.specs.Meaning.{emitted_by, plan_collection, plan_traps}
use Rattle.exec_plan.specs.Wellformed.{results_given}
use Rattle.plan_laws.specs.declared.operations.Key.{Key}
use Rattle.plan_laws.specs.declared.operations.Key.TheVariants.{Mapper, Whole}
use Rattle.plan_laws.specs.declared.operations.Grouped.{Grouped}
use Rattle.plan_laws.specs.declared.operations.Operation.{Operation}
use Rattle.plan_laws.specs.declared.operations.Operation.TheVariants.{Flat, Class}

-- ---- input channels

-- a collection of the graph, and the steps on it, beside an object or none
pub record Reading : Type 0 where
  pub reads : Place
  pub beside : Option Place
  pub does : Option Forest

-- the channel, where f says which collection of the plan each of the graph's is
abbrev pub channel_named : (Place → PlanPlace) → Reading → InChannel
channel_named f r = record { reads = f r.reads; beside = option_map f r.beside; does = r.does }

-- the channel with what it reads, where m says what each collection of the graph is
abbrev pub channel_valued : (Place → Collection) → Reading → Fed
channel_valued m r = record { value = m r.reads; beside = option_map m r.beside; does = r.does }

abbrev pub reading_of_all : Place → Reading
reading_of_all c = record { reads = c; beside = None; does = None }

-- one step, which calls a function, and whose output is kept
abbrev pub one_call : ℕ → Bool → ℕ → Forest
one_call o l f =
    Grow (record { origin = o; last = l; does = does.Call f; at = 0; out = Some 0 }) Bare Bare

abbrev pub side_channel : ℕ → ℕ → Bool → Act → List Place → Reading
side_channel n o l (SideInput f) (c ∷ (object ∷ [])) =
    record { reads = c; beside = Some object; does = Some (one_call o l f) }
side_channel n o l a ins = reading_of_all (place n 0)

abbrev pub pdo_channel : ℕ → Option Node → Reading
pdo_channel n (Some (Pdo c f)) = record { reads = c; beside = None; does = Some f }
pdo_channel n (Some (Barrier ins o l a)) = side_channel n o l a ins
pdo_channel n o = reading_of_all (place n 0)

abbrev pub channel_of : List Entry → Key → Reading
channel_of es (Mapper n) = pdo_channel n (node_at es n)
channel_of es (Whole c) = reading_of_all c

abbrev pub channels_of : List Entry → List Key → List Reading
channels_of es keys = map (channel_of es) keys

-- ---- what is taken

abbrev pub is_read_under : Key → Place → Bool
is_read_under (Mapper n) c = n == c.node
is_read_under (Whole d) c = same_place d c

abbrev pub key_out : Key → Place → ℕ
key_out (Mapper n) c = c.out
key_out (Whole d) c = 0

-- the first channel that has the collection, and as which output
abbrev pub position : List Key → Place → ℕ
position [] c = 0
position (k ∷ ks) c = cond (is_read_under k c) 0 (suc (position ks c))

abbrev pub out_in : List Key → Place → ℕ
out_in [] c = 0
out_in (k ∷ ks) c = cond (is_read_under k c) (key_out k c) (out_in ks c)

abbrev pub take_of : List Key → Place → Take
take_of keys c = record { channel = position keys c; out = out_in keys c }

-- ---- output channels

-- what a Gbk of c groups: the inputs of the Flatten that it reads, or c
abbrev pub inputs_at : Place → Option Node → List Place
inputs_at c (Some (Flatten ins)) = ins
inputs_at c o = c ∷ []

abbrev pub read_through : List Entry → Place → List Place
read_through es c = inputs_at c (node_at es c.node)

abbrev pub forest_in : Option Node → Option Forest
forest_in (Some (Pdo c f)) = Some f
forest_in o = None

abbrev pub reducer_forest : List Entry → Option ℕ → Option Forest
reducer_forest es None = None
reducer_forest es (Some r) = forest_in (node_at es r)

abbrev pub group_at : List Entry → List Key → Option ℕ → Option Node → Grouping
group_at es keys r (Some (Gbk c o l k)) = record {
  origin = o;
  last = l;
  lifted = k;
  takes = map (take_of keys) (read_through es c);
  does = reducer_forest es r;
  first = 0;
}
group_at es keys r x =
    record { origin = 0; last = false; lifted = None; takes = []; does = None; first = 0 }

abbrev pub group_channel : List Entry → List Key → Grouped → OutChannel
group_channel es keys g = Group (group_at es keys g.reducer (node_at es g.gbk))

abbrev pub pass_of : List Key → Place → OutChannel
pass_of keys c = Pass (take_of keys c) 0

-- results are numbered over the channels
abbrev pub numbered_out : ℕ → OutChannel → OutChannel
numbered_out n (Group g) = Group (record g { first = n })
numbered_out n (Pass k i) = Pass k n

abbrev pub numbered_outs : ℕ → List OutChannel → List OutChannel
numbered_outs n [] = []
numbered_outs n (o ∷ os) = numbered_out n o ∷ numbered_outs (n + results_given o) os

abbrev pub class_outs : List Entry → List Key → List Grouped → List Place → List OutChannel
class_outs es keys groups passes =
    numbered_outs 0 (map (group_channel es keys) groups ++ map (pass_of keys) passes)

-- ---- the stage of an operation

abbrev pub flat_inputs : Option Node → List Place
flat_inputs (Some (Flatten ins)) = ins
flat_inputs (Some (Barrier ins o l a)) = ins
flat_inputs o = []

abbrev pub flat_stage : Option Node → List PlanPlace → Stage
flat_stage (Some (Barrier ins o l a)) takes = Operate takes o l a
flat_stage o takes = Joined takes

abbrev pub stage_of : List Entry → (Place → PlanPlace) → Operation → Stage
stage_of es f (Flat n) = flat_stage (node_at es n) (map f (flat_inputs (node_at es n)))
stage_of es f (Class keys groups passes) =
    Mscr
    (record {
      inputs = map (channel_named f) (channels_of es keys);
      outputs = class_outs es keys groups passes;
    })

abbrev pub with_object : Option Place → List Place
with_object None = []
with_object (Some c) = c ∷ []

abbrev pub reading_reads : Reading → List Place
reading_reads r = r.reads ∷ with_object r.beside

-- the collections of the graph that it reads
abbrev pub reads_of : List Entry → Operation → List Place
reads_of es (Flat n) = flat_inputs (node_at es n)
reads_of es (Class keys groups passes) = flat_map reading_reads (channels_of es keys)

-- the collections of the graph that its results are, in order
abbrev pub outs_at : Option Node → List ℕ
outs_at (Some (Pdo c f)) = outs_of f
outs_at o = []

abbrev pub reduced : List Entry → ℕ → Option ℕ → List Place
reduced es n None = place n 0 ∷ []
reduced es n (Some r) = map (place r) (outs_at (node_at es r))

abbrev pub group_gives : List Entry → Grouped → List Place
group_gives es g = reduced es g.gbk g.reducer

abbrev pub gives_of : List Entry → Operation → List Place
gives_of es (Flat n) = place n 0 ∷ []
gives_of es (Class keys groups passes) = flat_map (group_gives es) groups ++ passes

-- the nodes that it carries out
abbrev pub key_runs : Key → List ℕ
key_runs (Mapper n) = n ∷ []
key_runs (Whole c) = []

abbrev pub reducer_runs : Option ℕ → List ℕ
reducer_runs None = []
reducer_runs (Some r) = r ∷ []

abbrev pub group_runs : Grouped → List ℕ
group_runs g = g.gbk ∷ reducer_runs g.reducer

abbrev pub runs : Operation → List ℕ
runs (Flat n) = n ∷ []
runs (Class keys groups passes) = flat_map key_runs keys ++ flat_map group_runs groups

-- ---- an operation that stands for nodes of the graph

abbrev pub IsSide : Act → List Place → Type 0
IsSide (SideInput f) (c ∷ (object ∷ [])) = Unit {0}
IsSide a ins = ⊥

-- a Pdo, or a step beside an object
abbrev pub IsPdo : Option Node → Type 0
IsPdo (Some (Pdo c f)) = Unit {0}
IsPdo (Some (Barrier ins o l a)) = IsSide a ins
IsPdo o = ⊥

abbrev pub IsKeyOk : List Entry → Key → Type 0
IsKeyOk es (Mapper n) = IsPdo (node_at es n)
IsKeyOk es (Whole c) = Unit {0}

abbrev pub HasKey : List Key → Place → Type 0
HasKey [] c = ⊥
HasKey (k ∷ ks) c = (is_read_under k c ≡ true) ⊎ HasKey ks c

-- a collection that is there and that a channel has
abbrev pub IsTakenPlace : List Entry → List Key → Place → Type 0
IsTakenPlace es keys c = HasKey keys c × IsThere es c

abbrev pub IsPdoOn : Place → Option Node → Type 0
IsPdoOn d (Some (Pdo c f)) = c ≡ d
IsPdoOn d o = ⊥

abbrev pub IsReducer : List Entry → ℕ → Option ℕ → Type 0
IsReducer es n None = Unit {0}
IsReducer es n (Some r) = IsPdoOn (place n 0) (node_at es r)

abbrev pub TakesInputs : List Entry → List Key → Option Node → Type 0
TakesInputs es keys (Some (Gbk c o l k)) = AllByRecursion (IsTakenPlace es keys) (read_through es c)
TakesInputs es keys o = ⊥

abbrev pub IsGroupedOk : List Entry → List Key → Grouped → Type 0
IsGroupedOk es keys g = TakesInputs es keys (node_at es g.gbk) × IsReducer es g.gbk g.reducer

abbrev pub IsOperate : Act → Type 0
IsOperate (SideInput f) = ⊥
IsOperate (Operates f) = Unit {0}
IsOperate (Singleton k) = Unit {0}

-- a Flatten, or what is made of objects or of one pair
abbrev pub IsFlat : Option Node → Type 0
IsFlat (Some (Flatten ins)) = Unit {0}
IsFlat (Some (Barrier ins o l a)) = IsOperate a
IsFlat o = ⊥

abbrev pub IsHonest : List Entry → Operation → Type 0
IsHonest es (Flat n) = IsFlat (node_at es n)
IsHonest es (Class keys groups passes) =
    AllByRecursion (IsKeyOk es) keys × AllByRecursion (IsGroupedOk es keys) groups
    × AllByRecursion (IsTakenPlace es keys) passes

-- ---- the plan

-- the collections cs are the results of stage k from number i on, and others are where f says
abbrev pub placed_results : ℕ → ℕ → List Place → (Place → PlanPlace) → Place → PlanPlace
placed_results k i [] f c = f c
placed_results k i (d ∷ ds) f c =
    cond (same_place d c) (at.Result k i) (placed_results k (suc i) ds f c)

-- the stages of a plan from number k on, and where the graph's collections are in the end
abbrev pub stages_of : List Entry → ℕ → (Place → PlanPlace) → List Operation → List Stage
stages_of es k f [] = []
stages_of es k f (o ∷ os) =
    stage_of es f o ∷ stages_of es (suc k) (placed_results k 0 (gives_of es o) f) os

abbrev pub places_of : List Entry → ℕ → (Place → PlanPlace) → List Operation → Place → PlanPlace
places_of es k f [] = f
places_of es k f (o ∷ os) = places_of es (suc k) (placed_results k 0 (gives_of es o) f) os

-- sources stand under their numbers
abbrev pub source_at : Option Node → ℕ
source_at (Some (Source r)) = r.number
source_at o = 0

abbrev pub at_source : List Entry → Place → PlanPlace
at_source es c = at.Source (source_at (node_at es c.node))

-- the sources that are objects
abbrev pub object_source : Node → List ℕ
object_source (Source r) = cond r.is_object (r.number ∷ []) []
object_source (Flatten ins) = []
object_source (Pdo c f) = []
object_source (Gbk c o l k) = []
object_source (Barrier ins o l a) = []

abbrev pub plan_of : ℕ → List Entry → List Place → List Operation → Plan
plan_of sources es outs os = record {
  sources = sources;
  objects = flat_map (λ e. object_source e.node) es;
  stages = stages_of es 1 (at_source es) os;
  outputs = map (places_of es 1 (at_source es) os) outs;
}

-- ---- operations that carry out a graph

-- it is one of them
abbrev pub IsIn : {X : Type 0} → X → List X → Type 0
IsIn x [] = ⊥
IsIn x (y ∷ ys) = (y ≡ x) ⊎ IsIn x ys

-- each operation reads collections that are made before
abbrev pub AreReady : List Entry → List Place → List Operation → Type 0
AreReady es made [] = Unit {0}
AreReady es made (o ∷ os) =
    AllByRecursion (λ c. IsIn c made) (reads_of es o) × AreReady es (gives_of es o ++ made) os

abbrev pub made_after : List Entry → List Place → List Operation → List Place
made_after es made [] = made
made_after es made (o ∷ os) = made_after es (gives_of es o ++ made) os

abbrev pub source_place : ℕ → Node → List Place
source_place n (Source r) = place n 0 ∷ []
source_place n (Flatten ins) = []
source_place n (Pdo c f) = []
source_place n (Gbk c o l k) = []
source_place n (Barrier ins o l a) = []

abbrev pub source_places : List Entry → List Place
source_places [] = []
source_places (e ∷ es) = source_place e.number e.node ++ source_places es

-- how often
abbrev pub times_named : ℕ → List ℕ → ℕ
times_named n [] = 0
times_named n (k ∷ ks) = cond (k == n) 1 0 + times_named n ks

-- Pdos, Gbks, and what is made of whole collections
abbrev pub works : Node → Bool
works (Source r) = false
works (Flatten ins) = false
works (Pdo c f) = true
works (Gbk c o l k) = true
works (Barrier ins o l a) = true

abbrev pub works_at : Option Node → Bool
works_at None = false
works_at (Some x) = works x

-- each stands for nodes and reads what is made, what is written out is made, and each node that
-- works is carried out once
pub record DoAll (g : Graph) (os : List Operation) : Type 0 where
  pub sound : AllByRecursion (IsHonest g.nodes) os
  pub ready : AreReady g.nodes (source_places g.nodes) os
  pub told :
      AllByRecursion (λ c. IsIn c (made_after g.nodes (source_places g.nodes) os)) g.outputs
  pub once : (n : ℕ) → works_at (node_at g.nodes n) ≡ true → times_named n (flat_map runs os) ≡ 1

-- the plan means what the graph means
pub record SamePlan (w : World) (g : Graph) (p : Plan) : Type 0 where
  pub outputs : map (collection w g) g.outputs ≡ map (plan_collection w p) p.outputs
  pub own : (i : ℕ) → own_bag w (collection w g) g.nodes i ≡ emitted_by w p i
  pub traps : all_traps w (collection w g) g.nodes ≡ plan_traps w p
