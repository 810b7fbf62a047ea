-- How a run cuts its stages, in which worlds it runs, and how its phases end.
use Rattle.std.specs.Prelude.{◌≡◌, ℕ, List, Result}
use Rattle.std.specs.Result.{MatchResult}
use Rattle.flume_value.specs.declared.value.Value.{Value}
use Rattle.flume_collection.specs.Calls.{Called}
use Rattle.outside.specs.Accounts.{Account}
use Rattle.crew.specs.declared.drill.Entry.{Entry}
use Rattle.exec_graph.specs.World.{World}
use Rattle.run_settings.specs.Settings.{RunSettings}
use Rattle.task_lists.specs.Tasks.{Split}
use Rattle.plan_phases.specs.Phases.{PlanPhase}
use Rattle.plan_phases.specs.Told.{HaveRun, IsStopped}
use Rattle.plan_phases.specs.declared.fault.RunFault.{RunFault}
use Rattle.plan_phases.specs.declared.winners.PhaseWinners.{PhaseWinners}

-- into how many shards and partitions a run splits its channels
abbrev pub split_of : RunSettings → Split
split_of s = record { shards = s.shards; partitions = s.partitions }

-- P holds in each world of these functions
abbrev pub InEachWorld : (ℕ → Value → Called) → (World → Type 0) → Type 0
InEachWorld called P = (w : World) → w.called ≡ called → P w

-- P holds in some world of these functions
abbrev pub InSomeWorld : (ℕ → Value → Called) → (World → Type 0) → Type 0
InSomeWorld called P = (w : World) × (w.called ≡ called) × P w

-- The phases have ended: they have run, and their winners were told behind those before; or they
-- have stopped, and it is said why.
abbrev pub HaveEnded : {A : Type 0} → ℕ → List Entry → World → List PlanPhase → List Account
    → List Account → List PhaseWinners → List PhaseWinners → Result A RunFault → Type 0
HaveEnded tries drill w phases olds news before after result =
    MatchResult result (λ _. HaveRun tries drill w phases olds news before after)
    (IsStopped tries drill w phases olds news)

-- so has a run of these phases
abbrev pub RunHasEnded : {A : Type 0} → RunSettings → World → List PlanPhase → List Account
    → List Account → List PhaseWinners → List PhaseWinners → Result A RunFault → Type 0
RunHasEnded s w phases olds news before after result =
    HaveEnded s.tries s.drill w phases olds news before after result
