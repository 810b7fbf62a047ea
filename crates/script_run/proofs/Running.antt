-- What a plan's execution comes to, in the world of the script.
use Rattle.std.proofs.Common.{◌≡◌, ℕ, zero, suc, List, [], ◌∷◌, Option, Some, slice_get, slice_index_or, refl, sym, subst}
use Rattle.std.specs.List.{Contains}
use Rattle.run_sizes.specs.of_build_law.Signatures.{signatures_of}
use Rattle.run_sizes.specs.of_build_law.Worlds.{script_world}
use Rattle.outside.specs.Accounts.{Account}
use Rattle.run_sizes.specs.of_direct_meaning.Direct.{meaning, traps_of}
use Rattle.exec_graph.specs.Typing.{IsWorldTyped}
use Rattle.exec_graph.specs.World.{World}
use Rattle.exec_plan.specs.Meaning.{plan_traps}
use Rattle.exec_plan.specs.Typing.{IsPlanTyped}
use Rattle.exec_plan.specs.declared.plan.Plan.{Plan}
use Rattle.flume_collection.specs.Calls.{or_none}
use Rattle.flume_collection.specs.Collection.{Collection}
use Rattle.flume_collection.specs.declared.trap.Trap.{Trap}
use Rattle.flume_value.specs.declared.value.Value.{Value}
use Rattle.plan_phases.specs.Phases.{phases, with_tasks}
use Rattle.plan_phases.specs.Told.{AskedFront}
use Rattle.plan_phases.specs.declared.winners.PhaseWinners.{PhaseWinners}
use Rattle.plan_phases.specs.declared.fault.RunFault.{RunFault}
use Rattle.plan_phases.specs.declared.fault.RunFault.TheVariants as fault
use Rattle.run_settings.specs.Settings.{RunSettings}
use Rattle.run_sizes.specs.of_script_program.Script.{Script}
use Rattle.stage_exec.specs.Executions.{IsExecuted, IsExecutionFault, split_of}
use Rattle.stage_exec.specs.declared.executed.Executed.{Executed}
use Rattle.stage_exec.specs.of_stage_phases.Stages.{run_world}
use Rattle.script_functions.specs.of_task_safety.Stages.{IsTypedRun}
use Rattle.script_functions.specs.of_task_safety.Taking.{Takes}
use Rattle.script_run.specs.Runs.{AsksAllPhases, AsksSomePhases, IsRunFault, phases_of}

rows_same : (inputs : List (List Value)) (r : ℕ)
    → or_none (slice_get inputs r) ≡ slice_index_or inputs r []
rows_same [] r = refl
rows_same (rows ∷ inputs) zero = refl
rows_same (rows ∷ inputs) (suc r) = rows_same inputs r

module _ (script : Script) (inputs : List (List Value)) where
  -- the world of a run
  abbrev pub World_ : World
  World_ = run_world (script_world script []).called inputs

  same_world : World_ ≡ script_world script inputs
  same_world i = record {
    rows = λ r. rows_same inputs r i;
    called = (script_world script []).called;
  }

  pub typed_run : (plan : Plan) → IsWorldTyped (signatures_of script) (script_world script inputs)
      → IsPlanTyped (signatures_of script) plan
      → IsTypedRun World_ (Takes (signatures_of script)) plan
  typed_run plan world typed = record {
    signatures = signatures_of script;
    world = subst (IsWorldTyped (signatures_of script)) (sym same_world) world;
    calls = λ f x takes. takes;
    plan = typed;
  }

  module _ (s : RunSettings) (plan : Plan) (olds news : List Account) where
    pub executed : (nodes : ℕ) (it : Executed)
        → IsExecuted s World_ plan nodes olds news it
        → IsExecuted s (script_world script inputs) plan nodes olds news it
    executed nodes it h =
        subst (λ w. IsExecuted s w plan nodes olds news it) same_world h

    -- where the winners are the same
    pub asked_as : (xs ys : List PhaseWinners) → ys ≡ xs
        → AsksAllPhases s (phases_of s script inputs plan) xs olds news
        → AsksAllPhases s (phases_of s script inputs plan) ys olds news
    asked_as xs ys same h =
        subst
        (λ (l : List PhaseWinners).
        AsksAllPhases s (phases_of s script inputs plan) l olds news) (sym same) h

    pub phases_asked :
        AskedFront s.tries s.drill (with_tasks (phases World_ (split_of s) plan)) olds news
        → AsksSomePhases s (phases_of s script inputs plan) olds news
    phases_asked h =
        subst (λ w. AskedFront s.tries s.drill (with_tasks (phases w (split_of s) plan)) olds news)
        same_world h

    faulted_here : (made : List (Option Collection)) → meaning script inputs ≡ Some made
        → ((trap : Trap) → Contains (plan_traps (script_world script inputs) plan) trap
        → Contains (traps_of made) trap) → (e : RunFault)
        → IsExecutionFault s (script_world script inputs) plan olds news e
        → IsRunFault s script inputs plan olds news e
    faulted_here made means among (fault.Trap trap) h = record {
      made = made;
      means = means;
      among = among trap h.1;
      first = h.0;
      ran = h.2;
    }
    faulted_here made means among (fault.GaveUp stage phase task) h =
        record { made = made; means = means; given_up = h }
    faulted_here made means among fault.Memory h = tt

    pub faulted : (made : List (Option Collection)) → meaning script inputs ≡ Some made
        → ((trap : Trap) → Contains (plan_traps (script_world script inputs) plan) trap
        → Contains (traps_of made) trap) → (e : RunFault)
        → IsExecutionFault s World_ plan olds news e
        → IsRunFault s script inputs plan olds news e
    faulted made means among e h =
        faulted_here made means among e
        (subst (λ w. IsExecutionFault s w plan olds news e) same_world h)
