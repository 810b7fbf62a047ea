-- What a run tells of its phases.
use Rattle.std.specs.Prelude.{◌≡◌, ◌⊎◌, ℕ, ◌<◌, List, [], ◌∷◌, ◌++◌, length, map, slice_get, slice_index, take, Some, ⊤}
use Rattle.std.specs.List.{AllByRecursion, AllZip}
use Rattle.outside.specs.declared.host.Phase.{Phase}
use Rattle.flume_collection.specs.declared.trap.Trap.{Trap}
use Rattle.crew.specs.declared.drill.Entry.{Entry}
use Rattle.crew.specs.Drills.{Settings}
use Rattle.outside.specs.Accounts.{Account}
use Rattle.crew.specs.Phases.{AreAskedOnce, CanFinish, IsLostTask, IsWork, IsWorkSoFar}
use Rattle.phase_outs.specs.Outs.{HasRun}
use Rattle.exec_graph.specs.World.{World}
use Rattle.task_lists.specs.Tasks.{Task, asks_of}
use Rattle.task_lists.specs.Outs.{IsCalm, IsFirstTaskTrap}
use Rattle.plan_phases.specs.declared.fault.RunFault.{RunFault}
use Rattle.plan_phases.specs.declared.fault.RunFault.TheVariants as fault
use Rattle.plan_phases.specs.declared.winners.PhaseWinners.{PhaseWinners}
use Rattle.plan_phases.specs.Phases.{OfAct, OfTasks, PhaseTasks, PlanPhase, with_tasks}

-- ---- traps

-- no task of the phase traps, and neither does its act
abbrev pub IsCalmPhase : World → PlanPhase → Type 0
IsCalmPhase w (OfTasks ph) = AllByRecursion (IsCalm w) ph.tasks
IsCalmPhase w (OfAct traps) = traps ≡ []

-- the trap is that of the least trapping task of the phase
pub record IsFirstOfTasks (w : World) (ph : PhaseTasks) (trap : Trap) : Type 0 where
  pub smaller : List Task
  pub task : Task
  pub greater : List Task
  pub tasks : smaller ++ task ∷ greater ≡ ph.tasks
  pub small : AllByRecursion (IsCalm w) smaller
  pub is : IsFirstTaskTrap w task trap

-- or it is that of its act
abbrev pub IsFirstIn : World → PlanPhase → Trap → Type 0
IsFirstIn w (OfTasks ph) trap = IsFirstOfTasks w ph trap
IsFirstIn w (OfAct traps) trap = slice_get traps 0 ≡ Some trap

-- the trap is the first of the first of the phases that has one
pub record IsFirstOf (w : World) (phases : List PlanPhase) (trap : Trap) : Type 0 where
  pub before : List PlanPhase
  pub here : PlanPhase
  pub behind : List PlanPhase
  pub whole : before ++ here ∷ behind ≡ phases
  pub calm : AllByRecursion (IsCalmPhase w) before
  pub is : IsFirstIn w here trap

-- ---- winners and lost tasks

-- the phase with its tasks below this number alone
abbrev pub first_tasks : ℕ → PhaseTasks → PhaseTasks
first_tasks n ph = record { stage = ph.stage; phase = ph.phase; tasks = take n ph.tasks }

-- the attempts that have won the tasks, phase by phase
abbrev pub attempts_of : List PhaseWinners → List (List ℕ)
attempts_of winners = map (λ x. x.attempts) winners

-- a task of the phase is asked at as many places as it has
abbrev pub AsksAt : PhaseTasks → (ℕ → ℕ) → Type 0
AsksAt ph asks = (k : ℕ) (task : Task) → slice_get ph.tasks k ≡ Some task → asks k ≡ asks_of task

-- how often each task of a run is tried, and the attempts that are lost on purpose
module _ (tries : ℕ) (drill : List Entry) where
  -- how a phase of the run is run
  abbrev pub settings_of : PhaseTasks → Settings
  settings_of ph = record { stage = ph.stage; phase = ph.phase; tries = tries; drill = drill }

  -- The hosts were asked for places of the phase alone, each task with as many as it has, and for
  -- each of them at most once. They were asked in the work of the phase, to its end: by its board
  -- each task was won by this attempt, or by none, where the number is 0.
  pub record AreAsked (ph : PhaseTasks) (won : List ℕ) (olds news : List Account) : Type 0 where
    pub asks : ℕ → ℕ
    pub each : AsksAt ph asks
    pub once : AreAskedOnce (length ph.tasks) (settings_of ph) asks olds news
    pub work : IsWork (length ph.tasks) (settings_of ph) asks won olds news

  -- the same, as far as the work came
  pub record AreAskedSoFar (ph : PhaseTasks) (olds news : List Account) : Type 0 where
    pub asks : ℕ → ℕ
    pub each : AsksAt ph asks
    pub once : AreAskedOnce (length ph.tasks) (settings_of ph) asks olds news
    pub work : IsWorkSoFar (length ph.tasks) (settings_of ph) asks olds news

  -- the hosts were asked for these phases alone, one behind the other, each in one work to its end,
  -- with these winners
  abbrev pub AskedInTurn : List PhaseTasks → List (List ℕ) → List Account → List Account → Type 0
  AskedInTurn [] [] olds news = olds ≡ news
  AskedInTurn [] (won ∷ wins) olds news = ⊥
  AskedInTurn (ph ∷ phases) [] olds news = ⊥
  AskedInTurn (ph ∷ phases) (won ∷ wins) olds news =
      (mids : List Account) × AreAsked ph won olds mids × AskedInTurn phases wins mids news

  -- the hosts were asked for nothing, or for the first of these phases, as far as its work came
  abbrev pub AskedAtMost : List PhaseTasks → List Account → List Account → Type 0
  AskedAtMost [] olds news = olds ≡ news
  AskedAtMost (ph ∷ phases) olds news = (olds ≡ news) ⊎ AreAskedSoFar ph olds news

  -- the hosts were asked for a front of these phases, in turn, and behind it for one more at most,
  -- as far as its work came
  pub record AskedFront (phases : List PhaseTasks) (olds news : List Account) : Type 0 where
    pub before : List PhaseTasks
    pub behind : List PhaseTasks
    pub whole : before ++ behind ≡ phases
    pub wins : List (List ℕ)
    pub mids : List Account
    pub asked : AskedInTurn before wins olds mids
    pub last : AskedAtMost behind mids news

  -- the winners are those of the phase: an attempt of each task, all of whose places some host has
  -- let through since
  pub record AreWinners (olds news : List Account) (ph : PhaseTasks) (winners : PhaseWinners)
      : Type 0 where
    pub place : (winners.stage ≡ ph.stage) × (winners.phase ≡ ph.phase)
    pub count : length winners.attempts ≡ length ph.tasks
    pub ran : (k attempt : ℕ) (task : Task) → slice_get ph.tasks k ≡ Some task →
        slice_get winners.attempts k ≡ Some attempt →
        HasRun (settings_of ph) olds news k (asks_of task) attempt

  -- the phases have run through since: no task and no act of them traps, and of each that has tasks
  -- there are winners
  pub record RanThrough (w : World) (phases : List PlanPhase) (olds news : List Account)
      : Type 0 where
    pub calm : AllByRecursion (IsCalmPhase w) phases
    pub winners : List PhaseWinners
    pub won : AllZip (AreWinners olds news) (with_tasks phases) winners

  -- the phases have run through since, and their winners were told behind the others; the hosts
  -- were asked for these phases alone, in turn, and the winners are those of the boards
  pub record HaveRun (w : World) (phases : List PlanPhase) (olds news : List Account)
      (before after : List PhaseWinners) : Type 0 where
    pub through : RanThrough w phases olds news
    pub told : after ≡ before ++ through.winners
    pub asked : AskedInTurn (with_tasks phases) (attempts_of through.winners) olds news

  -- the run has come to this task of one of the phases: the phases before it have run through, and
  -- so have the smaller tasks of its own; the hosts were asked for these phases in turn, and for
  -- none behind them, and the winners are those of the boards
  pub record IsReached (w : World) (phases : List PlanPhase) (olds news : List Account)
      (here : PhaseTasks) (task : ℕ) : Type 0 where
    pub before : List PlanPhase
    pub behind : List PlanPhase
    pub whole : before ++ OfTasks here ∷ behind ≡ phases
    pub is_task : task < length here.tasks
    pub earlier : RanThrough w before olds news
    pub smaller : RanThrough w (OfTasks (first_tasks task here) ∷ []) olds news
    pub won : List ℕ
    pub asked : AskedInTurn (with_tasks before ++ here ∷ [])
        (attempts_of earlier.winners ++ won ∷ []) olds news
    pub winners : attempts_of smaller.winners ≡ take task won ∷ []

  -- a task of one of the phases has trapped: the run has come to it, the attempt that has won it
  -- has run, and this is its first trap
  pub record TaskHasTrapped (w : World) (phases : List PlanPhase) (olds news : List Account)
      (trap : Trap) : Type 0 where
    pub here : PhaseTasks
    pub number : ℕ
    pub reached : IsReached w phases olds news here number
    pub task : Task
    pub at : slice_get here.tasks number ≡ Some task
    pub is : IsFirstTaskTrap w task trap
    pub ran : HasRun (settings_of here) olds news number (asks_of task)
        (slice_index reached.won number)

  -- the act of one of the phases has trapped: the phases before it have run through, and this is
  -- its first trap; the hosts were asked for those phases in turn, and for none behind them
  pub record ActHasTrapped (w : World) (phases : List PlanPhase) (olds news : List Account)
      (trap : Trap) : Type 0 where
    pub before : List PlanPhase
    pub traps : List Trap
    pub behind : List PlanPhase
    pub whole : before ++ OfAct traps ∷ behind ≡ phases
    pub earlier : RanThrough w before olds news
    pub asked : AskedInTurn (with_tasks before) (attempts_of earlier.winners) olds news
    pub is : slice_get traps 0 ≡ Some trap

  abbrev pub HasTrapped : World → List PlanPhase → List Account → List Account → Trap → Type 0
  HasTrapped w phases olds news trap =
      TaskHasTrapped w phases olds news trap ⊎ ActHasTrapped w phases olds news trap

  -- a task of one of the phases was given up: the run has come to it, no attempt has won it, and
  -- the drill and the losses of the hosts since account for each of its tries
  pub record IsGivenUp (w : World) (phases : List PlanPhase) (olds news : List Account)
      (stage : ℕ) (phase : Phase) (task : ℕ) : Type 0 where
    pub here : PhaseTasks
    pub named : (here.stage ≡ stage) × (here.phase ≡ phase)
    pub reached : IsReached w phases olds news here task
    pub none : slice_index reached.won task ≡ 0
    pub lost : IsLostTask (length here.tasks) (settings_of here) olds news task

  -- the run of the phases has stopped: where no memory was found, behind some front of them
  abbrev pub IsStopped : World → List PlanPhase → List Account → List Account → RunFault → Type 0
  IsStopped w phases olds news (fault.Trap trap) = HasTrapped w phases olds news trap
  IsStopped w phases olds news (fault.GaveUp stage phase task) =
      IsGivenUp w phases olds news stage phase task
  IsStopped w phases olds news fault.Memory = AskedFront (with_tasks phases) olds news

  -- for each task of each phase some try is neither in the drill nor accounted for by the losses of
  -- the hosts
  abbrev pub CanFinishAll : List PhaseTasks → List Account → List Account → Type 0
  CanFinishAll phases olds news =
      AllByRecursion (λ ph. CanFinish (length ph.tasks) (settings_of ph) olds news) phases

-- no task was given up
abbrev pub IsNotGivenUp : RunFault → Type 0
IsNotGivenUp (fault.GaveUp stage phase task) = ⊥
IsNotGivenUp _ = ⊤
