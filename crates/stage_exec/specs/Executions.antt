-- What the execution of a plan comes to.
use Rattle.std.specs.Prelude.{◌≡◌, ℕ, ◌<◌, List, [], Some, ⊤, length, map, slice_get}
use Rattle.std.specs.List.{AllZip, Contains}
use Rattle.outside.specs.Accounts.{Account}
use Rattle.exec_graph.specs.World.{World}
use Rattle.exec_plan.specs.Meaning.{emitted_by, plan_collection, plan_traps}
use Rattle.exec_plan.specs.declared.plan.Plan.{Plan}
use Rattle.flume_value.specs.Bag.{bag_of}
use Rattle.plan_phases.specs.Phases.{phases, with_tasks}
use Rattle.plan_phases.specs.Told.{AreWinners, AskedInTurn, HasTrapped, IsGivenUp, attempts_of}
use Rattle.plan_phases.specs.declared.fault.RunFault.{RunFault}
use Rattle.plan_phases.specs.declared.fault.RunFault.TheVariants as fault
use Rattle.run_settings.specs.Settings.{RunSettings}
use Rattle.task_lists.specs.Plans.{first_trap}
use Rattle.task_lists.specs.Runs.{kept_count}
pub use Rattle.stage_results.specs.of_stage_phases.Runs.{split_of}
use Rattle.stage_exec.specs.declared.executed.Executed.{Executed}

-- Nothing in the plan's meaning traps. The lists of outputs have the bags of what the plan writes
-- out, and the counts are the sizes of the first so many script nodes. Of each phase of the plan
-- that has tasks there are winners: an attempt of each task, not in the drill, all of whose places
-- some host has let through since. The hosts were asked for these phases alone, in turn, each in
-- one work, and the winners are those of the works' boards.
pub record IsExecuted (s : RunSettings) (w : World) (p : Plan) (nodes : ℕ)
    (olds news : List Account) (it : Executed) : Type 0 where
  pub calm : plan_traps w p ≡ []
  pub outputs :
      map bag_of it.outputs ≡ map (λ c. (plan_collection w p c).bag) p.outputs
  pub count : length it.counts ≡ nodes
  pub counts : (i : ℕ) → i < nodes →
      slice_get it.counts i ≡ Some (kept_count (length (emitted_by w p i)))
  pub ran : AllZip (AreWinners s.tries s.drill olds news) (with_tasks (phases w (split_of s) p))
      it.winners
  pub asked : AskedInTurn s.tries s.drill (with_tasks (phases w (split_of s) p))
      (attempts_of it.winners) olds news

-- why a plan's execution stopped: by its first trap, which is one of the plan's, at a task that has
-- run, or where an object was to be made; or at a task that was given up; all phases and tasks
-- before have run without a trap. Want of memory comes at any time
abbrev pub IsExecutionFault : RunSettings → World → Plan → List Account → List Account → RunFault
    → Type 0
IsExecutionFault s w p olds news (fault.Trap trap) =
    (first_trap w (split_of s) p ≡ Some trap) × Contains (plan_traps w p) trap
    × HasTrapped s.tries s.drill w (phases w (split_of s) p) olds news trap
IsExecutionFault s w p olds news (fault.GaveUp stage phase task) =
    IsGivenUp s.tries s.drill w (phases w (split_of s) p) olds news stage phase task
IsExecutionFault s w p olds news fault.Memory = ⊤
