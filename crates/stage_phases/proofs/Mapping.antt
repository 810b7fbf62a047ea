-- The tasks of a map phase as a crew runs them.
use Rattle.std.proofs.Common.{◌≡◌, ℕ, sym, ap, subst}
use Rattle.flume_value.specs.declared.value.Value.{Value}
use Rattle.flume_collection.specs.Calls.{Called}
use Rattle.outside.specs.declared.host.Phase.TheVariants.{Map}
use Rattle.crew.specs.Drills.{Settings}
use Rattle.exec_graph.specs.World.{World}
use Rattle.task_lists.specs.Outs.{IsCalm, IsFirstTaskTrap}
use Rattle.task_lists.specs.Tasks.{Task, map_task_at, asks_of}
use Rattle.map_shard.specs.Work.{IsWorkValue, Work, work_lists, work_split, work_count, work_places}
use Rattle.plan_phases.specs.Phases.{map_phase_of}
use Rattle.stage_phases.specs.inner.Tasks.{IsPhaseOf}
use Rattle.stage_phases.proofs.Numbers.{at_below, length_below}

module _ {F : Type 0} (work : Work F) (w : World) (called : ℕ → Value → Called)
    (same : w.called ≡ called) where
  abbrev task_of : ℕ → Task
  task_of k = map_task_at (work_split work) (work_lists work) work.stage k

  pub is_map_phase : (k : ℕ) (s : Settings) → s.stage ≡ k → s.phase ≡ Map
      → IsPhaseOf w (map_phase_of k (work_split work) (work_lists work) work.stage) s
      (work_count work)
      (IsWorkValue called work) (work_places work)
  is_map_phase k s stage phase = record {
    named = (sym stage, sym phase);
    count = length_below task_of (work_count work);
    calm = λ j task out at is.
        subst (IsCalm w) (at_below task_of (work_count work) j task at) (is w same).calm;
    trapped = λ j task trap at is.
        subst (λ x. IsFirstTaskTrap w x trap) (at_below task_of (work_count work) j task at)
        (is w same);
    asks = λ j task at. ap asks_of (at_below task_of (work_count work) j task at);
  }
