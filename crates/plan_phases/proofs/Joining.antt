-- Phases that run after others.
use Rattle.std.proofs.Common.{◌≡◌, ℕ, inl, inr, List, [], ◌∷◌, ◌++◌, append-nil, append_assoc, Some, length, slice_get, refl, sym, ap, ◌∙◌, subst}
use Rattle.std.specs.List.{AllZip}
use Rattle.std.specs.Prelude.{slice_index}
use Rattle.std.proofs.lemmas.List.{map-append}
use Rattle.flume_value.proofs.EachLemmas.{Each-append}
use Rattle.crew.specs.declared.drill.Entry.{Entry}
use Rattle.outside.specs.Accounts.{Account}
use Rattle.crew.specs.Hosts.{Grew}
use Rattle.crew.specs.Phases.{IsLostTask}
use Rattle.outside.specs.declared.host.Phase.{Phase}
use Rattle.flume_collection.specs.declared.trap.Trap.{Trap}
use Rattle.exec_graph.specs.World.{World}
use Rattle.plan_phases.specs.declared.fault.RunFault.{RunFault}
use Rattle.plan_phases.specs.declared.fault.RunFault.TheVariants as fault
use Rattle.plan_phases.specs.declared.winners.PhaseWinners.{PhaseWinners}
use Rattle.plan_phases.specs.Phases.{OfAct, OfTasks, PhaseTasks, PlanPhase, with_tasks}
use Rattle.task_lists.specs.Tasks.{asks_of}
use Rattle.phase_outs.specs.Outs.{HasRun}
use Rattle.plan_phases.specs.Told.{AreWinners, AskedFront, AskedInTurn, HasTrapped, HaveRun, IsCalmPhase, IsGivenUp, IsReached, IsStopped, RanThrough, TaskHasTrapped, attempts_of, first_tasks, settings_of}
use Rattle.plan_phases.proofs.Asking.{asked_all, asked_then, front_before, front_behind, front_to}
use Rattle.plan_phases.proofs.Lasting.{lost_before, run_before, run_later}

zip_weaker : {A B : Type 0} (P Q : A → B → Type 0) → ((a : A) (b : B) → P a b → Q a b)
    → (xs : List A) (ys : List B) → AllZip P xs ys → AllZip Q xs ys
zip_weaker P Q f [] [] h = tt
zip_weaker P Q f [] (y ∷ ys) h = absurd h
zip_weaker P Q f (x ∷ xs) [] h = absurd h
zip_weaker P Q f (x ∷ xs) (y ∷ ys) h = (f x y h.0, zip_weaker P Q f xs ys h.1)

zip_append : {A B : Type 0} (P : A → B → Type 0) (xs : List A) (us : List B) (ys : List A)
    (vs : List B) → AllZip P xs us → AllZip P ys vs → AllZip P (xs ++ ys) (us ++ vs)
zip_append P [] [] ys vs h k = k
zip_append P [] (u ∷ us) ys vs h k = absurd h
zip_append P (x ∷ xs) [] ys vs h k = absurd h
zip_append P (x ∷ xs) (u ∷ us) ys vs h k = (h.0, zip_append P xs us ys vs h.1 k)

-- the phases with tasks of some phases and of others
pub tasks_both : (ps qs : List PlanPhase) → with_tasks (ps ++ qs) ≡ with_tasks ps ++ with_tasks qs
tasks_both [] qs = refl
tasks_both (OfTasks ph ∷ ps) qs = ap (λ l. ph ∷ l) (tasks_both ps qs)
tasks_both (OfAct traps ∷ ps) qs = tasks_both ps qs

attempts_both : (xs ys : List PhaseWinners)
    → attempts_of (xs ++ ys) ≡ attempts_of xs ++ attempts_of ys
attempts_both xs ys = map-append (λ (x : PhaseWinners). x.attempts) xs ys

module _ (tries : ℕ) (drill : List Entry) where
  winners_later : (us vs ws : List Account) → AllZip Grew vs ws → (ph : PhaseTasks)
      (x : PhaseWinners) → AreWinners tries drill us vs ph x → AreWinners tries drill us ws ph x
  winners_later us vs ws g ph x h = record {
    place = h.place;
    count = h.count;
    ran = λ k attempt task at won.
        run_later (settings_of tries drill ph) us vs ws k _ attempt (h.ran k attempt task at won) g;
  }

  winners_before : (us vs ws : List Account) → AllZip Grew us vs → AllZip Grew vs ws
      → (ph : PhaseTasks) (x : PhaseWinners) → AreWinners tries drill vs ws ph x
      → AreWinners tries drill us ws ph x
  winners_before us vs ws f g ph x h = record {
    place = h.place;
    count = h.count;
    ran = λ k attempt task at won.
        run_before (settings_of tries drill ph) us vs ws k _ attempt f
        (h.ran k attempt task at won) g;
  }

  won_later : (us vs ws : List Account) → AllZip Grew vs ws → (ps : List PhaseTasks)
      (xs : List PhaseWinners) → AllZip (AreWinners tries drill us vs) ps xs
      → AllZip (AreWinners tries drill us ws) ps xs
  won_later us vs ws g ps xs h =
      zip_weaker (AreWinners tries drill us vs) (AreWinners tries drill us ws)
      (winners_later us vs ws g) ps xs h

  won_before : (us vs ws : List Account) → AllZip Grew us vs → AllZip Grew vs ws
      → (ps : List PhaseTasks) (xs : List PhaseWinners)
      → AllZip (AreWinners tries drill vs ws) ps xs → AllZip (AreWinners tries drill us ws) ps xs
  won_before us vs ws f g ps xs h =
      zip_weaker (AreWinners tries drill vs ws) (AreWinners tries drill us ws)
      (winners_before us vs ws f g) ps xs h

  -- the hosts were asked for some phases, and then for others
  asked_both : (ps qs : List PlanPhase) (xs ys : List PhaseWinners) (us vs ws : List Account)
      → AskedInTurn tries drill (with_tasks ps) (attempts_of xs) us vs
      → AskedInTurn tries drill (with_tasks qs) (attempts_of ys) vs ws
      → AskedInTurn tries drill (with_tasks (ps ++ qs)) (attempts_of (xs ++ ys)) us ws
  asked_both ps qs xs ys us vs ws h k =
      subst (λ (x : List PhaseTasks × List (List ℕ)). AskedInTurn tries drill x.0 x.1 us ws)
      (λ i. (sym (tasks_both ps qs) i, sym (attempts_both xs ys) i))
      (asked_then tries drill (with_tasks ps) (with_tasks qs) (attempts_of xs) (attempts_of ys) us
      vs ws h k)

  module _ (w : World) where
    -- ---- phases that have run through

    through_before : (ps : List PlanPhase) (us vs ws : List Account) → AllZip Grew us vs
        → AllZip Grew vs ws → RanThrough tries drill w ps vs ws → RanThrough tries drill w ps us ws
    through_before ps us vs ws f g h = record {
      calm = h.calm;
      winners = h.winners;
      won = won_before us vs ws f g (with_tasks ps) h.winners h.won;
    }

    through_then : (ps qs : List PlanPhase) (us vs ws : List Account)
        → RanThrough tries drill w ps us vs → RanThrough tries drill w qs vs ws
        → AllZip Grew us vs → AllZip Grew vs ws → RanThrough tries drill w (ps ++ qs) us ws
    through_then ps qs us vs ws h k f g = record {
      calm = Each-append (IsCalmPhase w) ps qs h.calm k.calm;
      winners = h.winners ++ k.winners;
      won = subst (λ (l : List PhaseTasks).
          AllZip (AreWinners tries drill us ws) l (h.winners ++ k.winners))
          (sym (tasks_both ps qs))
          (zip_append (AreWinners tries drill us ws) (with_tasks ps) h.winners (with_tasks qs)
          k.winners (won_later us vs ws g (with_tasks ps) h.winners h.won)
          (won_before us vs ws f g (with_tasks qs) k.winners k.won));
    }

    -- ---- runs

    pub none_run : (us : List Account) (before : List PhaseWinners)
        → HaveRun tries drill w [] us us before before
    none_run us before = record {
      through = record { calm = tt; winners = []; won = tt };
      told = sym (append-nil before);
      asked = refl;
    }

    -- an act that has not trapped
    pub act_ran : (traps : List Trap) → traps ≡ [] → (us : List Account)
        (before : List PhaseWinners) → HaveRun tries drill w (OfAct traps ∷ []) us us before before
    act_ran traps none us before = record {
      through = record { calm = (none, tt); winners = []; won = tt };
      told = sym (append-nil before);
      asked = refl;
    }

    -- phases that ran, and then others
    pub run_then : (ps qs : List PlanPhase) (us vs ws : List Account)
        (first next last : List PhaseWinners) → HaveRun tries drill w ps us vs first next
        → HaveRun tries drill w qs vs ws next last → AllZip Grew us vs → AllZip Grew vs ws
        → HaveRun tries drill w (ps ++ qs) us ws first last
    unfolding through_then
    run_then ps qs us vs ws first next last h k f g = record {
      through = through_then ps qs us vs ws h.through k.through f g;
      told = k.told ∙ ap (λ l. l ++ k.through.winners) h.told
          ∙ append_assoc first h.through.winners k.through.winners;
      asked = asked_both ps qs h.through.winners k.through.winners us vs ws h.asked k.asked;
    }

    -- ---- where a run stops

    reached_before : (ps qs : List PlanPhase) (us vs : List Account) (here : PhaseTasks)
        (task : ℕ) (h : IsReached tries drill w ps us vs here task)
        → (r : IsReached tries drill w (ps ++ qs) us vs here task) × (r.won ≡ h.won)
    reached_before ps qs us vs here task h = (
      record {
        before = h.before;
        behind = h.behind ++ qs;
        whole = sym (append_assoc h.before (OfTasks here ∷ h.behind) qs)
            ∙ ap (λ l. l ++ qs) h.whole;
        is_task = h.is_task;
        earlier = h.earlier;
        smaller = h.smaller;
        won = h.won;
        asked = h.asked;
        winners = h.winners;
      },
      refl,
    )

    reached_behind : (ps qs : List PlanPhase) (us vs ws : List Account) (here : PhaseTasks)
        (task : ℕ) (ran : RanThrough tries drill w ps us vs)
        → AskedInTurn tries drill (with_tasks ps) (attempts_of ran.winners) us vs
        → (h : IsReached tries drill w qs vs ws here task) → AllZip Grew us vs → AllZip Grew vs ws
        → (r : IsReached tries drill w (ps ++ qs) us ws here task) × (r.won ≡ h.won)
    unfolding through_before through_then
    reached_behind ps qs us vs ws here task ran asked h f g = (
      record {
        before = ps ++ h.before;
        behind = h.behind;
        whole = append_assoc ps h.before (OfTasks here ∷ h.behind) ∙ ap (λ l. ps ++ l) h.whole;
        is_task = h.is_task;
        earlier = through_then ps h.before us vs ws ran h.earlier f g;
        smaller = through_before (OfTasks (first_tasks task here) ∷ []) us vs ws f g h.smaller;
        won = h.won;
        asked = subst
            (λ (x : List PhaseTasks × List (List ℕ)). AskedInTurn tries drill x.0 x.1 us ws)
            (λ i. (
              sym (ap (λ (l : List PhaseTasks). l ++ here ∷ []) (tasks_both ps h.before)
                  ∙ append_assoc (with_tasks ps) (with_tasks h.before) (here ∷ [])) i,
              sym (ap (λ (l : List (List ℕ)). l ++ h.won ∷ [])
                  (attempts_both ran.winners h.earlier.winners)
                  ∙ append_assoc (attempts_of ran.winners) (attempts_of h.earlier.winners)
                  (h.won ∷ [])) i,
            ))
            (asked_then tries drill (with_tasks ps) (with_tasks h.before ++ here ∷ [])
            (attempts_of ran.winners) (attempts_of h.earlier.winners ++ h.won ∷ []) us vs ws asked
            h.asked);
        winners = h.winners;
      },
      refl,
    )

    -- at an act that traps
    pub act_stopped : (traps : List Trap) (us : List Account) (trap : Trap)
        → slice_get traps 0 ≡ Some trap
        → IsStopped tries drill w (OfAct traps ∷ []) us us (fault.Trap trap)
    act_stopped traps us trap is = inr (record {
      before = [];
      traps = traps;
      behind = [];
      whole = refl;
      earlier = record { calm = tt; winners = []; won = tt };
      asked = refl;
      is = is;
    })

    -- what happened at a task that a run came to, happened where others have come to the same
    trapped_there : (ps qs : List PlanPhase) (us vs us' vs' : List Account) (trap : Trap)
        (h : TaskHasTrapped tries drill w ps us vs trap)
        (r : (it : IsReached tries drill w qs us' vs' h.here h.number)
        × (it.won ≡ h.reached.won))
        → HasRun (settings_of tries drill h.here) us' vs' h.number (asks_of h.task)
        (slice_index h.reached.won h.number)
        → HasTrapped tries drill w qs us' vs' trap
    trapped_there ps qs us vs us' vs' trap h r ran = inl (record {
      here = h.here;
      number = h.number;
      reached = r.0;
      task = h.task;
      at = h.at;
      is = h.is;
      ran = subst
          (λ (l : List ℕ). HasRun (settings_of tries drill h.here) us' vs' h.number
          (asks_of h.task) (slice_index l h.number))
          (sym r.1) ran;
    })

    given_up_there : (ps qs : List PlanPhase) (us vs us' vs' : List Account) (stage : ℕ)
        (phase : Phase) (task : ℕ) (h : IsGivenUp tries drill w ps us vs stage phase task)
        (r : (it : IsReached tries drill w qs us' vs' h.here task) × (it.won ≡ h.reached.won))
        → IsLostTask (length h.here.tasks) (settings_of tries drill h.here) us' vs' task
        → IsGivenUp tries drill w qs us' vs' stage phase task
    given_up_there ps qs us vs us' vs' stage phase task h r lost = record {
      here = h.here;
      named = h.named;
      reached = r.0;
      none = subst (λ (l : List ℕ). slice_index l task ≡ 0) (sym r.1) h.none;
      lost = lost;
    }

    -- where others come after
    pub stopped_before : (ps qs : List PlanPhase) (us vs : List Account) (e : RunFault)
        → IsStopped tries drill w ps us vs e → IsStopped tries drill w (ps ++ qs) us vs e
    stopped_before ps qs us vs (fault.Trap trap) (inl h) =
        trapped_there ps (ps ++ qs) us vs us vs trap h
        (reached_before ps qs us vs h.here h.number h.reached) h.ran
    stopped_before ps qs us vs (fault.Trap trap) (inr h) = inr (record {
      before = h.before;
      traps = h.traps;
      behind = h.behind ++ qs;
      whole = sym (append_assoc h.before (OfAct h.traps ∷ h.behind) qs)
          ∙ ap (λ l. l ++ qs) h.whole;
      earlier = h.earlier;
      asked = h.asked;
      is = h.is;
    })
    stopped_before ps qs us vs (fault.GaveUp stage phase task) h =
        given_up_there ps (ps ++ qs) us vs us vs stage phase task h
        (reached_before ps qs us vs h.here task h.reached) h.lost
    stopped_before ps qs us vs fault.Memory h =
        subst (λ (l : List PhaseTasks). AskedFront tries drill l us vs) (sym (tasks_both ps qs))
        (front_before tries drill (with_tasks ps) (with_tasks qs) us vs h)

    -- where others have run through before
    pub stopped_behind : (ps qs : List PlanPhase) (us vs ws : List Account) (e : RunFault)
        (through : RanThrough tries drill w ps us vs)
        → AskedInTurn tries drill (with_tasks ps) (attempts_of through.winners) us vs
        → IsStopped tries drill w qs vs ws e
        → AllZip Grew us vs → AllZip Grew vs ws → IsStopped tries drill w (ps ++ qs) us ws e
    unfolding through_then
    stopped_behind ps qs us vs ws (fault.Trap trap) through asked (inl h) f g =
        trapped_there qs (ps ++ qs) vs ws us ws trap h
        (reached_behind ps qs us vs ws h.here h.number through asked h.reached f g)
        (run_before (settings_of tries drill h.here) us vs ws h.number (asks_of h.task)
        (slice_index h.reached.won h.number) f h.ran g)
    stopped_behind ps qs us vs ws (fault.Trap trap) through asked (inr h) f g = inr (record {
      before = ps ++ h.before;
      traps = h.traps;
      behind = h.behind;
      whole = append_assoc ps h.before (OfAct h.traps ∷ h.behind) ∙ ap (λ l. ps ++ l) h.whole;
      earlier = through_then ps h.before us vs ws through h.earlier f g;
      asked = asked_both ps h.before through.winners h.earlier.winners us vs ws asked h.asked;
      is = h.is;
    })
    stopped_behind ps qs us vs ws (fault.GaveUp stage phase task) through asked h f g =
        given_up_there qs (ps ++ qs) vs ws us ws stage phase task h
        (reached_behind ps qs us vs ws h.here task through asked h.reached f g)
        (lost_before _ (settings_of tries drill h.here) us vs ws task f h.lost g)
    stopped_behind ps qs us vs ws fault.Memory through asked h f g =
        subst (λ (l : List PhaseTasks). AskedFront tries drill l us ws) (sym (tasks_both ps qs))
        (front_behind tries drill (with_tasks ps) (with_tasks qs) (attempts_of through.winners) us
        vs ws asked h)

    -- where a run stopped, the hosts were asked for a front of its phases
    front_reached : (ps : List PlanPhase) (us vs : List Account) (here : PhaseTasks) (task : ℕ)
        → IsReached tries drill w ps us vs here task → AskedFront tries drill (with_tasks ps) us vs
    front_reached ps us vs here task r =
        front_to tries drill (with_tasks r.before) (with_tasks r.behind) (with_tasks ps) here
        (attempts_of r.earlier.winners ++ r.won ∷ []) us vs
        (sym (tasks_both r.before (OfTasks here ∷ r.behind)) ∙ ap with_tasks r.whole) r.asked

    pub front_stopped : (ps : List PlanPhase) (us vs : List Account) (e : RunFault)
        → IsStopped tries drill w ps us vs e → AskedFront tries drill (with_tasks ps) us vs
    front_stopped ps us vs (fault.Trap trap) (inl h) =
        front_reached ps us vs h.here h.number h.reached
    front_stopped ps us vs (fault.Trap trap) (inr h) =
        subst (λ (l : List PhaseTasks). AskedFront tries drill l us vs)
        (sym (tasks_both h.before (OfAct h.traps ∷ h.behind)) ∙ ap with_tasks h.whole)
        (front_before tries drill (with_tasks h.before) (with_tasks h.behind) us vs
        (asked_all tries drill (with_tasks h.before) (attempts_of h.earlier.winners) us vs h.asked))
    front_stopped ps us vs (fault.GaveUp stage phase task) h =
        front_reached ps us vs h.here task h.reached
    front_stopped ps us vs fault.Memory h = h
