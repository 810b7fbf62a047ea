-- A run whose tasks can all finish gives none up.
use Rattle.std.proofs.Common.{List, [], ◌∷◌, ◌++◌, ℕ, ap, length, subst, sym, ◌∙◌}
use Rattle.std.specs.List.{AllByRecursion as Each}
use Rattle.crew.proofs.Ending.{cannot_finish}
use Rattle.crew.specs.declared.drill.Entry.{Entry}
use Rattle.outside.specs.Accounts.{Account}
use Rattle.crew.specs.Phases.{CanFinish}
use Rattle.exec_graph.specs.World.{World}
use Rattle.plan_phases.proofs.Joining.{tasks_both}
use Rattle.plan_phases.specs.Phases.{OfTasks, PhaseTasks, PlanPhase, with_tasks}
use Rattle.plan_phases.specs.Told.{CanFinishAll, IsNotGivenUp, IsStopped, settings_of}
use Rattle.plan_phases.specs.declared.fault.RunFault.{RunFault}
use Rattle.plan_phases.specs.declared.fault.RunFault.TheVariants as fault

each_at : {X : Type 0} (P : X → Type 0) (before : List X) (here : X) (behind : List X)
    → Each P (before ++ here ∷ behind) → P here
each_at P [] here behind h = h.0
each_at P (x ∷ before) here behind h = each_at P before here behind h.1

pub finishes : (tries : ℕ) (drill : List Entry) (w : World) (phases : List PlanPhase)
    (olds news : List Account) (e : RunFault)
    → CanFinishAll tries drill (with_tasks phases) olds news
    → IsStopped tries drill w phases olds news e → IsNotGivenUp e
finishes tries drill w phases olds news (fault.Trap trap) can h = tt
finishes tries drill w phases olds news (fault.GaveUp stage phase task) can h =
    let Finishes : PhaseTasks → Type 0
    = λ ph. CanFinish (length ph.tasks) (settings_of tries drill ph) olds news in
    let r = h.reached in
    cannot_finish (length h.here.tasks) (settings_of tries drill h.here) olds news task r.is_task
    h.lost
    (each_at Finishes (with_tasks r.before) h.here (with_tasks r.behind)
    (subst (Each Finishes)
    (ap with_tasks (sym r.whole) ∙ tasks_both r.before (OfTasks h.here ∷ r.behind)) can))
finishes tries drill w phases olds news fault.Memory can h = tt
