-- The tasks that a crew runs, and those of a phase of the plan.
use Rattle.std.specs.Prelude.{◌≡◌, ℕ, List, length, slice_get, Some, Result, Ok, Err}
use Rattle.flume_value.specs.declared.value.Value.{Value}
use Rattle.flume_collection.specs.declared.trap.Trap.{Trap}
use Rattle.outside.specs.declared.host.Phase.{Phase}
use Rattle.crew.specs.Drills.{Settings}
use Rattle.exec_graph.specs.World.{World}
use Rattle.exec_plan.specs.declared.plan.Mscr.{Mscr}
use Rattle.run_settings.specs.Settings.{RunSettings}
use Rattle.shuffle_parts.specs.declared.out.MapOut.{MapOut}
use Rattle.map_shard.specs.Work.{Work}
use Rattle.reduce_part.specs.Reducing.{Reducing}
use Rattle.phase_outs.specs.declared.stop.PhaseStop.{PhaseStop}
use Rattle.phase_outs.specs.declared.stop.PhaseStop.TheVariants as stop
use Rattle.task_lists.specs.Outs.{IsCalm, IsFirstTaskTrap}
use Rattle.task_lists.specs.Tasks.{Task, asks_of}
use Rattle.plan_phases.specs.declared.fault.RunFault.{RunFault}
use Rattle.plan_phases.specs.declared.fault.RunFault.TheVariants as fault
use Rattle.plan_phases.specs.Phases.{PhaseTasks}

-- how a phase of a stage is run
abbrev pub phase_settings : ℕ → Phase → RunSettings → Settings
phase_settings stage phase s = record {
  stage = stage;
  phase = phase;
  tries = s.tries;
  drill = s.drill;
}

-- the map tasks of a stage
abbrev pub work_of : {F : Type 0} → F → List (List Value) → List (List (List Value)) → Mscr
    → RunSettings → Work F
work_of functions sources results stage settings = record {
  functions = functions;
  sources = sources;
  results = results;
  stage = stage;
  shards = settings.shards;
  partitions = settings.partitions;
}

-- its reduce tasks
abbrev pub reducing_of : {F : Type 0} → F → Mscr → List MapOut → RunSettings → Reducing F
reducing_of functions stage outs settings = record {
  functions = functions;
  stage = stage;
  outs = outs;
  partitions = settings.partitions;
}

-- why a run stops where a phase does
abbrev pub fault_at : ℕ → Phase → PhaseStop → RunFault
fault_at stage phase (stop.Trap task trap) = fault.Trap trap
fault_at stage phase (stop.GaveUp task) = fault.GaveUp stage phase task
fault_at stage phase stop.Memory = fault.Memory

module _ {O : Type 0} where
  -- an out of each task
  pub record AreValues (tasks : ℕ) (is_value : ℕ → Result O Trap → Type 0) (outs : List O)
      : Type 0 where
    pub count : length outs ≡ tasks
    pub values : (k : ℕ) (out : O) → slice_get outs k ≡ Some out → is_value k (Ok out)

  -- the tasks are those of the phase: a task that makes an out is calm, one that traps names its
  -- first trap, and each asks at as many places
  pub record IsPhaseOf (w : World) (ph : PhaseTasks) (s : Settings) (tasks : ℕ)
      (is_value : ℕ → Result O Trap → Type 0) (asked : ℕ → ℕ) : Type 0 where
    pub named : (ph.stage ≡ s.stage) × (ph.phase ≡ s.phase)
    pub count : length ph.tasks ≡ tasks
    pub calm : (k : ℕ) (task : Task) (out : O) → slice_get ph.tasks k ≡ Some task →
        is_value k (Ok out) → IsCalm w task
    pub trapped : (k : ℕ) (task : Task) (trap : Trap) → slice_get ph.tasks k ≡ Some task →
        is_value k (Err trap) → IsFirstTaskTrap w task trap
    pub asks : (k : ℕ) (task : Task) → slice_get ph.tasks k ≡ Some task → asked k ≡ asks_of task
