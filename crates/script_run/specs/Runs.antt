-- What the run of a script by its plan comes to.
use Rattle.std.specs.Prelude.{◌≡◌, ℕ, List, [], Option, Some, ⊤, length}
use Rattle.std.specs.List.{AllZip, Contains}
use Rattle.run_sizes.specs.of_build_law.Signatures.{signatures_of}
use Rattle.run_sizes.specs.of_build_law.Worlds.{script_world}
use Rattle.outside.specs.Accounts.{Account}
use Rattle.run_sizes.specs.of_direct_meaning.Direct.{meaning, sizes_of, traps_of}
use Rattle.exec_graph.specs.World.{World}
use Rattle.exec_plan.specs.Typing.{IsPlanTyped}
use Rattle.exec_plan.specs.Wellformed.{IsPlanOk}
use Rattle.exec_plan.specs.declared.plan.Plan.{Plan}
use Rattle.flume_collection.specs.Collection.{Collection}
use Rattle.flume_collection.specs.declared.trap.Trap.{Trap}
use Rattle.flume_value.specs.declared.value.Value.{Value}
use Rattle.run_sizes.specs.of_graph_build.Graphs.{graph_of}
use Rattle.outside.specs.declared.host.Phase.{Phase}
use Rattle.plan_laws.specs.Operations.{SamePlan}
use Rattle.plan_phases.specs.Phases.{PlanPhase, phases, with_tasks}
use Rattle.plan_phases.specs.Told.{AreWinners, AskedFront, AskedInTurn, HasTrapped, IsGivenUp, attempts_of}
use Rattle.plan_phases.specs.declared.fault.RunFault.{RunFault}
use Rattle.plan_phases.specs.declared.fault.RunFault.TheVariants as fault
use Rattle.plan_phases.specs.declared.winners.PhaseWinners.{PhaseWinners}
use Rattle.run_settings.specs.Settings.{RunSettings}
use Rattle.run_sizes.specs.of_script_program.Script.{Script}
use Rattle.run_sizes.specs.of_script_program.Sources.{source_kinds}
use Rattle.task_lists.specs.Plans.{first_trap}
pub use Rattle.stage_exec.specs.Executions.{split_of}
use Rattle.script_run.specs.Comes.{AreMembersOf}
use Rattle.script_run.specs.declared.run.Ran.{Ran}

-- the plan is well-formed and typed, and means what the script's graph means, over any rows; it has
-- as many sources as the script needs
pub record IsPlanOf (script : Script) (plan : Plan) : Type 0 where
  pub well_formed : IsPlanOk plan
  pub typed : IsPlanTyped (signatures_of script) plan
  pub same : (w : World) → SamePlan w (graph_of script) plan
  pub sources : plan.sources ≡ length (source_kinds script)

-- the phases of a script's plan over the lists of its needed sources: those that have tasks, and
-- between them the makings of objects
abbrev pub phases_of : RunSettings → Script → List (List Value) → Plan → List PlanPhase
phases_of s script inputs plan = phases (script_world script inputs) (split_of s) plan

-- Each task of the plan was run: of each phase that has tasks there are winners, an attempt of each
-- task that the drill does not name, and some host has let all places of that attempt through.
abbrev pub WereRun : RunSettings → List PlanPhase → List Account → List Account
    → List PhaseWinners → Type 0
WereRun s phases olds news winners =
    AllZip (AreWinners s.tries s.drill olds news) (with_tasks phases) winners

-- the hosts were asked for all of these phases that have tasks, and for nothing else, one behind
-- the other, each in one work; the winners are those of the works' boards
abbrev pub AsksAllPhases : RunSettings → List PlanPhase → List PhaseWinners → List Account
    → List Account → Type 0
AsksAllPhases s phases winners olds news =
    AskedInTurn s.tries s.drill (with_tasks phases) (attempts_of winners) olds news

-- the hosts were asked for a front of these phases that have tasks, of which the last may have come
-- not to its end
abbrev pub AsksSomePhases : RunSettings → List PlanPhase → List Account → List Account → Type 0
AsksSomePhases s phases olds news = AskedFront s.tries s.drill (with_tasks phases) olds news

-- Nothing in the script's meaning traps, and these are the members that its outputs write and the
-- sizes of its collections. Each task of the plan was run, and the hosts were asked for its phases
-- alone, in turn.
pub record IsRan (s : RunSettings) (script : Script) (inputs : List (List Value)) (plan : Plan)
    (olds news : List Account) (it : Ran) : Type 0 where
  pub made : List (Option Collection)
  pub means : meaning script inputs ≡ Some made
  pub through : traps_of made ≡ []
  pub written :
      AllZip (λ output members. AreMembersOf made output.1.reads members) script.outputs
      it.outputs.items
  pub sizes : it.sizes.items ≡ sizes_of script made
  pub ran : WereRun s (phases_of s script inputs plan) olds news it.winners.items
  pub asked : AsksAllPhases s (phases_of s script inputs plan) it.winners.items olds news

-- a trap of the script's meaning, the first of the plan's phases: its task has run, or an object
-- was to be made there; and all phases and tasks before have run without a trap
pub record IsFirstTrap (s : RunSettings) (script : Script) (inputs : List (List Value))
    (plan : Plan)
    (olds news : List Account) (trap : Trap) : Type 0 where
  pub made : List (Option Collection)
  pub means : meaning script inputs ≡ Some made
  pub among : Contains (traps_of made) trap
  pub first : first_trap (script_world script inputs) (split_of s) plan ≡ Some trap
  pub ran : HasTrapped s.tries s.drill (script_world script inputs) (phases_of s script inputs plan)
      olds news trap

-- a task of the plan that was given up, of a script that has a meaning over these rows; all phases
-- and tasks before have run without a trap
pub record IsLostOf (s : RunSettings) (script : Script) (inputs : List (List Value)) (plan : Plan)
    (olds news : List Account) (stage : ℕ) (phase : Phase) (task : ℕ) : Type 0 where
  pub made : List (Option Collection)
  pub means : meaning script inputs ≡ Some made
  pub given_up : IsGivenUp s.tries s.drill (script_world script inputs)
      (phases_of s script inputs plan) olds news stage phase task

-- why a run of the plan came to no end: a trap, a task that was given up, or want of memory
abbrev pub IsRunFault : RunSettings → Script → List (List Value) → Plan → List Account
    → List Account → RunFault → Type 0
IsRunFault s script inputs plan olds news (fault.Trap trap) =
    IsFirstTrap s script inputs plan olds news trap
IsRunFault s script inputs plan olds news (fault.GaveUp stage phase task) =
    IsLostOf s script inputs plan olds news stage phase task
IsRunFault s script inputs plan olds news fault.Memory = ⊤
