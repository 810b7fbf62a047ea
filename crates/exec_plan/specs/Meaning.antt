-- What a plan means: a bag and a set of traps for each of its collections, stage by stage.
use Rattle.std.specs.Prelude.{◌≡◌, ◌<◌, ℕ, Bool, cond, ◌==◌, ◌&&◌, List, [], ◌∷◌, ◌++◌, map, length, Option, Some, None}
use Rattle.std.proofs.Common.{suc}
use Rattle.std.specs.List.{flat_map, slice_get}
use Rattle.combine_table.specs.of_flume_value.declared.value.Value.{Value}
use Rattle.combine_table.specs.of_flume_value.Bag.{bag_of}
use Rattle.exec_graph.specs.of_flume_collection.declared.trap.Trap.{Trap}
use Rattle.exec_graph.specs.of_flume_collection.Traps.{trap_set}
use Rattle.exec_graph.specs.of_flume_collection.Collection.{Collection, together}
use Rattle.exec_graph.specs.World.{World}
use Rattle.exec_graph.specs.Objects.{act_result}
use Rattle.exec_graph.specs.Forests.{Forest, Label}
use Rattle.exec_graph.specs.Meaning.{or_nothing, through, total, step_own, step_traps}
use Rattle.exec_plan.specs.declared.plan.PlanPlace.{PlanPlace}
use Rattle.exec_plan.specs.declared.plan.PlanPlace.TheVariants as at
use Rattle.exec_plan.specs.declared.plan.InChannel.{InChannel}
use Rattle.exec_plan.specs.declared.plan.OutChannel.{OutChannel}
use Rattle.exec_plan.specs.declared.plan.OutChannel.TheVariants.{Group, Pass}
use Rattle.exec_plan.specs.declared.plan.Stage.{Stage}
use Rattle.exec_plan.specs.declared.plan.Stage.TheVariants.{Mscr, Flatten, Operate}
use Rattle.exec_plan.specs.declared.plan.Plan.{Plan}
use Rattle.exec_plan.specs.Channels.{Fed, fed, channel_gives, groups, value_on, world_in}

-- ---- collections

-- the results of a stage, in order, where the table says what each collection is
abbrev pub results : World → (PlanPlace → Collection) → Stage → List Collection
results w t (Mscr m) = flat_map (channel_gives w (map (fed t) m.inputs)) m.outputs
results w t (Flatten takes) = together (map t takes) ∷ []
results w t (Operate takes o l a) = act_result w o a (map t takes) ∷ []

abbrev pub object_places : Option PlanPlace → List PlanPlace
object_places None = []
object_places (Some c) = c ∷ []

-- what an input channel reads
abbrev pub in_reads : InChannel → List PlanPlace
in_reads c = c.reads ∷ object_places c.beside

-- what a stage reads
abbrev pub stage_reads : Stage → List PlanPlace
stage_reads (Mscr m) = flat_map in_reads m.inputs
stage_reads (Flatten takes) = takes
stage_reads (Operate takes o l a) = takes

-- the table with the results of stage k
abbrev pub with_results : ℕ → List Collection → (PlanPlace → Collection) → PlanPlace → Collection
with_results k cs t (at.Source n) = t (at.Source n)
with_results k cs t (at.Result stage number) =
    cond (stage == k) (or_nothing (slice_get cs number)) (t (at.Result stage number))

-- stages from number k on, one after another, each of which adds its results to the table
abbrev pub stages_run : World → ℕ → List Stage → (PlanPlace → Collection) → PlanPlace → Collection
stages_run w k [] t = t
stages_run w k (s ∷ ss) t = stages_run w (suc k) ss (with_results k (results w t s) t)

-- the table before all stages
abbrev pub sources : World → PlanPlace → Collection
sources w (at.Source n) = record { bag = bag_of (w.rows n); traps = [] }
sources w (at.Result stage number) = record { bag = []; traps = [] }

-- what each collection of a plan is
abbrev pub plan_collection : World → Plan → PlanPlace → Collection
plan_collection w p = stages_run w 1 p.stages (sources w)

-- ---- the meaning as a relation

-- the results of the stages from number k on are what the stages give over the table
abbrev pub MeetsStages : World → (PlanPlace → Collection) → ℕ → List Stage → Type 0
MeetsStages w t k [] = Unit {0}
MeetsStages w t k (s ∷ ss) =
    ((i : ℕ) → i < length (results w t s) →
    slice_get (results w t s) i ≡ Some (t (at.Result k i)))
    × MeetsStages w t (suc k) ss

-- the table says of each source its rows, and of each result what its stage gives over the table
pub record MeetsPlan (w : World) (p : Plan) (t : PlanPlace → Collection) : Type 0 where
  pub sources : (n : ℕ) → t (at.Source n) ≡ sources w (at.Source n)
  pub stages : MeetsStages w t 1 p.stages

-- ---- what stages add up to

abbrev pub total_of : {Y : Type 0} → World → (Collection → Label → List Y) → Collection
    → Option Forest → List Y
total_of w q v None = []
total_of w q v (Some f) = total w q v f

-- what is added for a step where it is given a collection, for a collection that is made as a whole
-- for an origin, whose own bag it is or not, and for collections together
pub record Parts (Y : Type 0) : Type 0 where
  pub steps : Collection → Label → List Y
  pub groups : ℕ → Bool → Collection → List Y
  pub flat : Collection → List Y

-- steps that are called beside an object each add the whole of what they give
abbrev pub fed_sum : {Y : Type 0} → World → Parts Y → Collection → Option Collection
    → Option Forest → List Y
fed_sum w p v None f = total_of w p.steps v f
fed_sum w p v (Some object) f =
    let u : World = world_in w (Some object) in
    total_of u (λ c l. p.groups l.origin l.last (through u l c)) (value_on v (Some object)) f

abbrev pub in_sum : {Y : Type 0} → World → Parts Y → Fed → List Y
in_sum w p c = fed_sum w p c.value c.beside c.does

abbrev pub out_sum : {Y : Type 0} → World → Parts Y → List Fed → OutChannel → List Y
out_sum w p cs (Group g) =
    p.groups g.origin g.last (groups w cs g) ++ total_of w p.steps (groups w cs g) g.does
out_sum w p cs (Pass k n) = []

abbrev pub channels_sum : {Y : Type 0} → World → Parts Y → List Fed → List OutChannel → List Y
channels_sum w p cs outs = flat_map (in_sum w p) cs ++ flat_map (out_sum w p cs) outs

abbrev pub stage_sum : {Y : Type 0} → World → Parts Y → (PlanPlace → Collection) → Stage → List Y
stage_sum w p t (Mscr m) = channels_sum w p (map (fed t) m.inputs) m.outputs
stage_sum w p t (Flatten takes) = p.flat (together (map t takes))
stage_sum w p t (Operate takes o l a) = p.groups o l (act_result w o a (map t takes))

-- ---- emissions and traps

abbrev pub own_parts : World → ℕ → Parts Value
own_parts w i = record {
  steps = step_own w i;
  groups = λ o l v. cond (l && (o == i)) v.bag [];
  flat = λ v. [];
}

abbrev pub trap_parts : World → Parts Trap
trap_parts w = record {
  steps = step_traps w;
  groups = λ o l v. v.traps;
  flat = λ v. v.traps;
}

-- the bag of script node i
abbrev pub emitted_by : World → Plan → ℕ → List Value
emitted_by w p i = bag_of (flat_map (stage_sum w (own_parts w i) (plan_collection w p)) p.stages)

-- the traps of all collections and steps
abbrev pub plan_traps : World → Plan → List Trap
plan_traps w p = trap_set (flat_map (stage_sum w (trap_parts w) (plan_collection w p)) p.stages)
