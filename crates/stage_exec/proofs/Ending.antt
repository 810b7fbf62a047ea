-- A plan's execution, from its beginning and at its end.
use Rattle.std.proofs.Common.{◌≡◌, ◌<◌, ◌+◌, ℕ, zero, suc, List, [], ◌∷◌, ◌++◌, length, map, take, drop, Bool, true, false, ◌&&◌, Some, slice_get, slice_index, refl, sym, ap, ◌∙◌, arith}
use Rattle.std.specs.List.{AllByRecursion as Each, Contains}
use Rattle.outside.specs.Accounts.{Account}
use Rattle.exec_graph.specs.World.{World}
use Rattle.exec_plan.specs.Meaning.{emitted_by, plan_collection, plan_traps}
use Rattle.exec_graph.specs.Objects.{gives_object}
use Rattle.exec_plan.specs.declared.plan.Stage.{Stage}
use Rattle.exec_plan.specs.declared.plan.Stage.TheVariants.{Mscr, Flatten, Operate}
use Rattle.exec_plan.specs.Wellformed.{IsPlanOk, stage_has_objects}
use Rattle.exec_plan.specs.declared.plan.Plan.{Plan}
use Rattle.exec_plan.specs.declared.plan.PlanPlace.{PlanPlace}
use Rattle.flume_collection.specs.declared.trap.Trap.{Trap}
use Rattle.flume_value.specs.Bag.{bag_of}
use Rattle.flume_value.specs.declared.value.Value.{Value}
use Rattle.forest_steps.specs.Fresh.{zeros}
use Rattle.plan_phases.specs.Phases.{phases}
use Rattle.plan_phases.proofs.Stopping.{trapped_first}
use Rattle.plan_phases.specs.Told.{IsFirstOf, IsStopped}
use Rattle.plan_phases.specs.declared.fault.RunFault.{RunFault}
use Rattle.plan_phases.specs.declared.fault.RunFault.TheVariants as fault
use Rattle.run_settings.specs.Settings.{RunSettings}
use Rattle.stage_results.specs.of_step_counts.Sizes.{HaveGrown}
use Rattle.task_lists.proofs.TypedResults.{begin_typed}
use Rattle.task_lists.specs.Lists.{lists, source_lists}
use Rattle.task_lists.specs.Plans.{first_trap, counted_size}
use Rattle.task_lists.specs.Runs.{kept_count}
use Rattle.task_lists.specs.Tasks.{Lists}
use Rattle.stage_exec.proofs.Running.{all_dropped}
use Rattle.stage_results.specs.of_task_safety.Stages.{IsTypedRun}
use Rattle.stage_exec.specs.Executions.{IsExecutionFault, split_of}
use Rattle.stage_exec.specs.inner.Along.{CanGoOn}
use Rattle.stage_exec.specs.inner.Objects.{GivesObject}
use Rattle.stage_exec.specs.inner.Reads.{AgreeOn}

-- ---- the beginning

first_of : (a b : Bool) → a && b ≡ true → a ≡ true
first_of true b e = refl
first_of false b e = e

gives : (objects : List ℕ) (all : List Stage) (s : Stage) → stage_has_objects objects all s ≡ true
    → GivesObject s
gives objects all (Mscr m) e = tt
gives objects all (Flatten takes) e = tt
gives objects all (Operate takes o l a) e = first_of (gives_object a) _ e

-- in a well-formed plan each Operate stage gives an object
give_objects : (objects : List ℕ) (all stages : List Stage)
    → Each (λ s. stage_has_objects objects all s ≡ true) stages → Each GivesObject stages
give_objects objects all [] h = tt
give_objects objects all (s ∷ stages) h =
    (gives objects all s h.0, give_objects objects all stages h.1)

pub begins : (w : World) (takes : ℕ → Value → Type 0) (p : Plan) → IsPlanOk p
    → IsTypedRun w takes p → CanGoOn w takes 1 p.stages (source_lists w)
begins w takes p ok run = record {
  signatures = run.signatures;
  types = run.plan.0;
  sources = p.sources;
  before = [];
  world = run.world;
  calls = run.calls;
  lists = begin_typed run.signatures w run.plan.0 run.world run.plan.1.sources;
  typed = run.plan.1.stages;
  ok = ok.stages;
  objects = give_objects p.objects p.stages p.stages ok.objects;
}

-- ---- the end

pub zeros_many : (n : ℕ) → length (zeros n) ≡ n
zeros_many zero = refl
zeros_many (suc n) = ap suc (zeros_many n)

zeros_at : (n i : ℕ) → i < n → slice_index (zeros n) i ≡ 0
zeros_at zero i below = absurd (omega arith)
zeros_at (suc n) zero below = refl
zeros_at (suc n) (suc i) below = zeros_at n i (omega arith)

from_none : (n m : ℕ) → n ≡ 0 → n + m ≡ m
from_none n m none = omega (arith, none)

-- what a loan of all of a list's elements gives back
all_taken : (news rest : List ℕ) → rest ≡ [] → take (length news) (news ++ rest) ≡ news
all_taken [] rest e i = []
all_taken (x ∷ xs) rest e i = x ∷ all_taken xs rest e i

pub given_back : (len : ℕ) (news olds : List ℕ) → length news ≡ length olds
    → len ≡ length olds → take len (news ++ drop (length news) olds) ≡ news
given_back len news olds same count =
    ap (λ n. take n (news ++ drop (length news) olds)) (count ∙ sym same)
    ∙ all_taken news (drop (length news) olds)
    (all_dropped olds (length news) (omega (arith, same)))

at_index : (xs : List ℕ) (i : ℕ) → i < length xs → slice_get xs i ≡ Some (slice_index xs i)
at_index [] i below = absurd (omega arith)
at_index (x ∷ xs) zero below = refl
at_index (x ∷ xs) (suc i) below = at_index xs i (omega arith)

module _ (s : RunSettings) (w : World) (p : Plan) where
  pub faulted : (olds news : List Account) (e : RunFault)
      → ((trap : Trap) → IsFirstOf w (phases w (split_of s) p) trap
      → first_trap w (split_of s) p ≡ Some trap)
      → ((trap : Trap) → first_trap w (split_of s) p ≡ Some trap
      → Contains (plan_traps w p) trap)
      → IsStopped s.tries s.drill w (phases w (split_of s) p) olds news e
      → IsExecutionFault s w p olds news e
  faulted olds news (fault.Trap trap) first trapped stopped =
      let is = first trap
      (trapped_first s.tries s.drill w (phases w (split_of s) p) olds news trap stopped) in
      (is, trapped trap is, stopped)
  faulted olds news (fault.GaveUp stage phase task) first trapped stopped = stopped
  faulted olds news fault.Memory first trapped stopped = tt

  bags_same : ((c : PlanPlace) → bag_of (lists w (split_of s) p c) ≡ (plan_collection w p c).bag)
      → (places : List PlanPlace) → map bag_of (map (lists w (split_of s) p) places)
      ≡ map (λ c. (plan_collection w p c).bag) places
  bags_same bags [] i = []
  bags_same bags (c ∷ cs) i = bags c i ∷ bags_same bags cs i

  pub bags_are : (t : Lists) (places : List PlanPlace)
      → AgreeOn places t (lists w (split_of s) p)
      → ((c : PlanPlace) → bag_of (lists w (split_of s) p c) ≡ (plan_collection w p c).bag)
      → map bag_of (map t places) ≡ map (λ c. (plan_collection w p c).bag) places
  bags_are t places same bags = ap (map bag_of) same ∙ bags_same bags places

  pub counts_are : (nodes : ℕ) (sizes : List ℕ)
      → HaveGrown (counted_size w (split_of s) p) (zeros nodes) sizes
      → ((i : ℕ) → counted_size w (split_of s) p i ≡ length (emitted_by w p i))
      → (i : ℕ) → i < nodes → slice_get sizes i ≡ Some (kept_count (length (emitted_by w p i)))
  counts_are nodes sizes grown whole i below =
      let many = zeros_many nodes in
      let count = grown.count in
      at_index sizes i (omega arith)
      ∙ ap Some (grown.sizes i (omega arith)
      ∙ ap kept_count (from_none (slice_index (zeros nodes) i) (counted_size w (split_of s) p i)
      (zeros_at nodes i below) ∙ whole i))
