-- Where hosts can finish each task of each phase, none is given up.
use Rattle.std.proofs.Common.{ℕ, ◌+◌, ◌-◌, ◌≤◌, ◌∙◌, ap, inl, inr, List, [], ◌∷◌, ◌++◌, sym, subst, arith}
use Rattle.std.specs.List.{AllByRecursion}
use Rattle.outside.specs.declared.host.Phase.{Phase}
use Rattle.crew.specs.declared.drill.Entry.{Entry}
use Rattle.crew.specs.Drills.{drilled_tries}
use Rattle.outside.specs.Accounts.{Account}
use Rattle.crew.specs.Hosts.{HaveRisen}
use Rattle.crew.specs.Phases.{CanFinish}
use Rattle.exec_graph.specs.World.{World}
use Rattle.plan_phases.proofs.Joining.{tasks_both}
use Rattle.plan_phases.specs.Phases.{OfTasks, PhaseTasks, PlanPhase, with_tasks}
use Rattle.plan_phases.specs.Told.{CanFinishAll, IsGivenUp, settings_of}
use Rattle.std.proofs.Common.{length}

-- what holds of all holds of each
each_at : {A : Type 0} (P : A → Type 0) (before : List A) (here : A) (behind : List A)
    → AllByRecursion P (before ++ here ∷ behind) → P here
each_at P [] here behind all = all.0
each_at P (x ∷ before) here behind all = each_at P before here behind all.1

-- losses that rose so much rose by less
pub risen_less : (m n : ℕ) (olds news : List Account) → m ≤ n → HaveRisen n olds news
    → HaveRisen m olds news
risen_less m n olds news less (inl risen) = inl (omega arith)
risen_less m n olds news less (inr full) = inr full

module _ (tries : ℕ) (drill : List Entry) (w : World) (phases : List PlanPhase)
    (olds news : List Account) (stage : ℕ) (phase : Phase) (task : ℕ) where
  pub not_given_up : IsGivenUp tries drill w phases olds news stage phase task
      → CanFinishAll tries drill (with_tasks phases) olds news → ⊥
  not_given_up given all =
      let here = given.here in
      let reached = given.reached in
      let s = settings_of tries drill here in
      let Ends : PhaseTasks → Type 0
      = λ ph. CanFinish (length ph.tasks) (settings_of tries drill ph) olds news in
      let can : Ends here
      = each_at Ends (with_tasks reached.before) here (with_tasks reached.behind)
      (subst (λ (l : List PhaseTasks). AllByRecursion Ends l)
      (ap with_tasks (sym reached.whole)
      ∙ tasks_both reached.before (OfTasks here ∷ reached.behind)) all) in
      let counted : tries ≤ drilled_tries s task + given.lost.losses = given.lost.counted in
      let less : tries - drilled_tries s task ≤ given.lost.losses = omega arith in
      can task reached.is_task
      (risen_less (tries - drilled_tries s task) given.lost.losses olds news less given.lost.risen)
