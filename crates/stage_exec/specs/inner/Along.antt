-- How a run stands before one of its stages.
use Rattle.std.specs.Prelude.{◌≡◌, ℕ, ◌+◌, List, ◌++◌, drop, length, sum}
use Rattle.std.proofs.Common.{suc}
use Rattle.std.specs.List.{AllByRecursion, AllZip}
use Rattle.outside.specs.Accounts.{Account}
use Rattle.crew.specs.Hosts.{Grew}
use Rattle.exec_graph.specs.Typing.{IsWorldTyped, Signatures}
use Rattle.exec_graph.specs.World.{World}
use Rattle.exec_plan.specs.Typing.{AreStagesTyped}
use Rattle.exec_plan.specs.Wellformed.{AreStages}
use Rattle.exec_plan.specs.declared.plan.PlanPlace.{PlanPlace}
use Rattle.exec_plan.specs.declared.plan.Stage.{Stage}
use Rattle.flume_types.specs.declared.types.Ty.{Ty}
use Rattle.flume_value.specs.declared.value.Value.{Value}
use Rattle.stage_results.specs.of_map_shard.Tables.{table}
use Rattle.plan_phases.specs.Phases.{PlanPhase, phases_from}
use Rattle.plan_phases.specs.Told.{HaveRun}
use Rattle.plan_phases.specs.declared.winners.PhaseWinners.{PhaseWinners}
use Rattle.run_settings.specs.Settings.{RunSettings}
use Rattle.stage_results.specs.of_step_counts.Sizes.{HaveGrown}
use Rattle.task_lists.specs.Lists.{run_lists, source_lists}
use Rattle.task_lists.specs.Plans.{task_counts, tasks_from}
use Rattle.task_lists.specs.Tasks.{Lists}
use Rattle.task_lists.specs.Typing.{AreListsTyped}
use Rattle.stage_results.specs.of_task_safety.Taking.{Takes}
use Rattle.stage_exec.specs.Executions.{split_of}
use Rattle.stage_exec.specs.inner.Objects.{GivesObject}
use Rattle.stage_exec.specs.inner.Reads.{AgreeOn}

-- the stages from number k on can be run, one after another, over the lists that they find
pub record CanGoOn (w : World) (takes : ℕ → Value → Type 0) (k : ℕ) (stages : List Stage)
    (t : Lists) : Type 0 where
  pub signatures : Signatures
  pub types : PlanPlace → Ty
  pub sources : ℕ
  pub before : List Stage
  pub world : IsWorldTyped signatures w
  pub calls : (f : ℕ) (x : Value) → Takes signatures f x → takes f x
  pub lists : AreListsTyped types t
  pub typed : AreStagesTyped signatures types k stages
  pub ok : AreStages sources before stages
  pub objects : AllByRecursion GivesObject stages

module _ (s : RunSettings) (w : World) where
  -- the lists of all collections, when the stages from number k on have run over these
  abbrev pub lists_after : ℕ → List Stage → Lists → Lists
  lists_after k stages t = run_lists w (split_of s) k stages t

  -- the phases of these stages
  abbrev pub phases_on : ℕ → List Stage → Lists → List PlanPhase
  phases_on k stages t = phases_from w (split_of s) k stages t

  -- what their tasks count for script node i
  abbrev pub counted_on : ℕ → List Stage → Lists → ℕ → ℕ
  counted_on k stages t i = sum (tasks_from (task_counts w i) w (split_of s) k stages t)

  -- the same of all stages of a plan, over the lists of the sources
  abbrev pub all_lists : List Stage → Lists
  all_lists stages = lists_after 1 stages (source_lists w)

  abbrev pub all_phases : List Stage → List PlanPhase
  all_phases stages = phases_on 1 stages (source_lists w)

  abbrev pub all_counted : List Stage → ℕ → ℕ
  all_counted stages i = counted_on 1 stages (source_lists w) i

  -- Before the stages behind the first k: results are there, of which those that were read for the
  -- last time are dropped, the sizes and the winners of the
  -- stages before are told, and going on comes to what all stages come to.
  pub record Along (takes : ℕ → Value → Type 0) (stages : List Stage)
      (outputs : List PlanPlace) (sources : List (List Value)) (k : ℕ)
      (results : List (List (List Value)))
      (first sizes : List ℕ) (olds news : List Account) (before told : List PhaseWinners)
      : Type 0 where
    pub count : length results ≡ k
    pub ready : CanGoOn w takes (suc k) (drop k stages) (table sources results)
    pub lists : AgreeOn outputs (lists_after (suc k) (drop k stages) (table sources results))
        (lists_after 1 stages (source_lists w))
    pub counted : ℕ → ℕ
    pub grown : HaveGrown counted first sizes
    pub counts : (i : ℕ)
        → counted i + counted_on (suc k) (drop k stages) (table sources results) i
        ≡ counted_on 1 stages (source_lists w) i
    pub ran : List PlanPhase
    pub have_run : HaveRun s.tries s.drill w ran olds news before told
    pub phases : ran ++ phases_on (suc k) (drop k stages) (table sources results)
        ≡ phases_on 1 stages (source_lists w)
    pub grew : AllZip Grew olds news
