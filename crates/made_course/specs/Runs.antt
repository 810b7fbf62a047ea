-- The run of the script of the sums over the rows of a workload, by the usual settings.
use Rattle.std.specs.Prelude.{◌≡◌, ◌⊎◌, ℕ, List, [], ◌∷◌, drop}
use Rattle.run_course.specs.of_build_law.Worlds.{script_world}
use Rattle.command_words.specs.declared.workload.Workload.{Workload}
use Rattle.outside.specs.Accounts.{Account}
use Rattle.exec_plan.specs.declared.plan.Plan.{Plan}
use Rattle.outside.specs.declared.host.Phase.{Phase}
use Rattle.plan_phases.specs.Told.{IsGivenUp}
use Rattle.run_course.specs.Lent.{lent}
use Rattle.run_course.specs.Written.{AllTasksRan}
use Rattle.run_settings.specs.Settings.{standard}
use Rattle.run_course.specs.of_script_plans.Plans.{IsScriptPlan}
use Rattle.run_course.specs.of_script_run.Runs.{AsksSomePhases, phases_of}
use Rattle.made_rows.specs.Sums.{sums_script}
use Rattle.made_course.specs.Files.{workload_rows}

-- each task of the plan of the sums was run on the lent hosts, which were asked for nothing else
abbrev pub WasSummed : Workload → List Account → List Account → Type 0
WasSummed w olds news =
    (plan : Plan) × IsScriptPlan sums_script plan
    × AllTasksRan standard sums_script (workload_rows w ∷ []) plan (lent standard olds)
    (lent standard news)

-- of this task of a phase of that plan no attempt has won: the losses of the lent hosts account for
-- each of its tries; all phases before it, and all smaller tasks of it, have run without a trap
abbrev pub WasGivenUp : Workload → List Account → List Account → ℕ → Phase → ℕ → Type 0
WasGivenUp w olds news stage phase task =
    (plan : Plan) × IsScriptPlan sums_script plan
    × IsGivenUp standard.tries standard.drill (script_world sums_script (workload_rows w ∷ []))
    (phases_of standard sums_script (workload_rows w ∷ []) plan) (lent standard olds)
    (lent standard news) stage phase task

-- of the phases of that plan some front was asked for, one phase behind the other: the lent hosts
-- were asked for its places alone, for each at most once, and the other hosts are as before
pub record AsksSums (w : Workload) (olds news : List Account) : Type 0 where
  pub plan : Plan
  pub is : IsScriptPlan sums_script plan
  pub asked : AsksSomePhases standard (phases_of standard sums_script (workload_rows w ∷ []) plan)
      (lent standard olds) (lent standard news)
  pub others : drop standard.workers news ≡ drop standard.workers olds

-- the hosts were asked for nothing, or for some of its phases
abbrev pub AsksHosts : Workload → List Account → List Account → Type 0
AsksHosts w olds news = (olds ≡ news) ⊎ AsksSums w olds news
