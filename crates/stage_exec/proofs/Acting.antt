-- The objects that acts make of lists.
use Rattle.std.proofs.Common.{◌≡◌, ◌+◌, ◌<◌, ◌≤◌, ℕ, suc, Bool, List, [], ◌∷◌, ◌++◌, drop, length, map, Option, None, Some, Result, Ok, Err, refl, sym, ap, ◌∙◌, add-one, append_assoc, append-nil, get_or, subst, arith}
use Rattle.std.proofs.Math.Seq.{drop-cons}
use Rattle.std.specs.List.{flat_map}
use Rattle.std.specs.Result.{IfOk}
use Rattle.combine_table.specs.declared.comb.Comb.{Comb}
use Rattle.outside.specs.Accounts.{Account}
use Rattle.crew.specs.declared.drill.Entry.{Entry}
use Rattle.exec_graph.specs.Objects.{act_result, none_of, only, untrapped, value_in, values_in, with_first}
use Rattle.exec_graph.specs.World.{World}
use Rattle.exec_graph.specs.declared.graph.Act.{Act}
use Rattle.exec_graph.specs.declared.graph.Act.TheVariants as acts
use Rattle.exec_plan.specs.declared.plan.PlanPlace.{PlanPlace}
use Rattle.exec_plan.specs.declared.plan.Stage.TheVariants.{Operate}
use Rattle.flume_collection.specs.Collection.{Collection}
use Rattle.flume_collection.specs.Traps.{trap_set}
use Rattle.flume_collection.specs.declared.trap.Trap.{Trap}
use Rattle.flume_value.specs.declared.value.Value.{Value}
use Rattle.plan_phases.proofs.Asking.{asked_none}
use Rattle.plan_phases.proofs.Joining.{act_ran, act_stopped}
use Rattle.plan_phases.specs.Phases.{OfAct}
use Rattle.plan_phases.specs.Told.{IsStopped}
use Rattle.plan_phases.specs.declared.fault.RunFault.{RunFault}
use Rattle.plan_phases.specs.declared.fault.RunFault.TheVariants as fault
use Rattle.plan_phases.specs.declared.winners.PhaseWinners.{PhaseWinners}
use Rattle.run_settings.specs.Settings.{RunSettings}
use Rattle.stage_results.specs.of_stage_phases.Runs.{RunHasEnded}
use Rattle.task_lists.proofs.Objects.{only_bag}
use Rattle.task_lists.specs.Lists.{calm_list, object_made}
use Rattle.task_lists.specs.Tasks.{Lists, Split}
use Rattle.stage_exec.specs.inner.Objects.{IsActFault, MakingHasEnded, then_values}
use Rattle.stage_exec.specs.inner.Stages.{IsStageGiven}
use Rattle.stage_exec.proofs.Running.{all_dropped}

-- where the making of an object stops, so does its phase
act_stops : (tries : ℕ) (drill : List Entry) (w : World) (traps : List Trap)
    (us : List Account) (e : RunFault) → IsActFault traps e
    → IsStopped tries drill w (OfAct traps ∷ []) us us e
act_stops tries drill w traps us (fault.Trap trap) first =
    act_stopped tries drill w traps us trap first
act_stops tries drill w traps us (fault.GaveUp stage phase task) h = absurd h
act_stops tries drill w traps us fault.Memory h = asked_none tries drill [] us

-- what the making of an object gives, and that its phase has ended
module _ (w : World) (origin : ℕ) (last : Bool) where
  pub making_gives : (n : Split) (t : Lists) (act : Act) (takes : List PlanPlace)
      (first sizes : List ℕ) (r : Result (List (List Value)) RunFault)
      → MakingHasEnded w origin last (object_made w t origin act takes) first sizes r
      → IfOk r (IsStageGiven w n t (Operate takes origin last act) first sizes)
  making_gives n t act takes first sizes (Ok lists) h =
      record { lists = h.lists; grown = h.grown }
  making_gives n t act takes first sizes (Err e) h = tt

  pub making_ends : (s : RunSettings) (object : Collection) (first sizes : List ℕ)
      (us : List Account) (before : List PhaseWinners)
      (r : Result (List (List Value)) RunFault)
      → MakingHasEnded w origin last object first sizes r
      → RunHasEnded s w (OfAct object.traps ∷ []) us us before before r
  making_ends s object first sizes us before (Ok lists) h =
      act_ran s.tries s.drill w object.traps h.calm us before
  making_ends s object first sizes us before (Err e) h =
      act_stops s.tries s.drill w object.traps us e h

-- ---- the values of objects, one after another

pub values_begin : (o : Option (List Value)) → then_values [] o ≡ o
values_begin None = refl
values_begin (Some vs) = refl

values_next : (values : List Value) (v : Value) (o : Option (List Value))
    → then_values (values ++ v ∷ []) o ≡ then_values values (with_first (Some v) o)
values_next values v None = refl
values_next values v (Some vs) = ap Some (append_assoc values (v ∷ []) vs)

module _ (t : Lists) where
  value_there : (c : PlanPlace) (list : List Value) → list ≡ t c
      → value_in (calm_list t c) ≡ only list
  value_there c list is = only_bag (t c) ∙ ap only (sym is)

  -- what is left of the values comes to the same, once the first is there
  values_more : (c : PlanPlace) (cs : List PlanPlace) (list values : List Value) (v : Value)
      → list ≡ t c → only list ≡ Some v
      → then_values (values ++ v ∷ []) (values_in (map (calm_list t) cs))
      ≡ then_values values (values_in (map (calm_list t) (c ∷ cs)))
  values_more c cs list values v is one =
      let first : value_in (calm_list t c) ≡ Some v = value_there c list is ∙ one in
      values_next values v (values_in (map (calm_list t) cs))
      ∙ ap (λ o. then_values values (with_first o (values_in (map (calm_list t) cs)))) (sym first)

  -- and where the first has none, there are none
  values_stop : (c : PlanPlace) (cs : List PlanPlace) (list values : List Value)
      → list ≡ t c → only list ≡ None
      → then_values values (values_in (map (calm_list t) (c ∷ cs))) ≡ None
  values_stop c cs list values is none =
      let first : value_in (calm_list t c) ≡ None = value_there c list is ∙ none in
      ap (λ o. then_values values (with_first o (values_in (map (calm_list t) cs)))) first

  module _ (places : List PlanPlace) (i : ℕ) (values : List Value) (whole : Option (List Value))
      (so_far : then_values values (values_in (map (calm_list t) (drop i places))) ≡ whole) where
    -- once the value of the next is there
    pub values_step : (other : PlanPlace) (list next : List Value) (v : Value) → i < length places
        → list ≡ t (get_or places i other) → only list ≡ Some v → next ≡ values ++ v ∷ []
        → then_values next (values_in (map (calm_list t) (drop (i + 1) places))) ≡ whole
    values_step other list next v below here one push =
        let c = get_or places i other in
        let left : drop i places ≡ c ∷ drop (suc i) places = drop-cons places i other below in
        (λ j. then_values (push j) (values_in (map (calm_list t) (drop (add-one i j) places))))
        ∙ (values_more c (drop (suc i) places) list values v here one
        ∙ (ap (λ ps. then_values values (values_in (map (calm_list t) ps))) (sym left) ∙ so_far))

    -- where the next has none
    pub values_stopped : (other : PlanPlace) (list : List Value) → i < length places
        → list ≡ t (get_or places i other) → only list ≡ None → None ≡ whole
    values_stopped other list below here none =
        let c = get_or places i other in
        let left : drop i places ≡ c ∷ drop (suc i) places = drop-cons places i other below in
        sym (values_stop c (drop (suc i) places) list values here none)
        ∙ (ap (λ ps. then_values values (values_in (map (calm_list t) ps))) (sym left) ∙ so_far)

    -- behind all of them
    pub values_end : length places ≤ i → Some values ≡ whole
    values_end end =
        ap Some (sym (append-nil values))
        ∙ (ap (λ ps. then_values values (values_in (map (calm_list t) ps)))
        (sym (all_dropped places i end)) ∙ so_far)

  -- ---- nothing, where no trap is behind

  calm_traps : (cs : List PlanPlace)
      → flat_map (λ (c : Collection). c.traps) (map (calm_list t) cs) ≡ []
  calm_traps [] = refl
  calm_traps (c ∷ cs) = calm_traps cs

  pub none_calm : (cs : List PlanPlace) → none_of (map (calm_list t) cs) ≡ untrapped []
  none_calm cs = λ i. record { bag = []; traps = trap_set (calm_traps cs i) }

  -- a singleton of no collection or of several
  pub no_singleton : (w : World) (o : ℕ) (k : Comb) (cs : List PlanPlace)
      → (length cs ≡ 1 → ⊥) → object_made w t o (acts.Singleton k) cs ≡ untrapped []
  unfolding act_result
  no_singleton w o k [] other = none_calm []
  no_singleton w o k (c ∷ []) other = absurd (other refl)
  no_singleton w o k (c ∷ (d ∷ ds)) other = none_calm (c ∷ (d ∷ ds))

-- ---- the only member of a list

pub only_one : {X : Type 0} (xs : List X) (x : X) → length xs ≡ 1 → x ≡ get_or xs 0 x
    → only xs ≡ Some x
only_one [] x one is = absurd (omega (arith, one))
only_one (y ∷ []) x one is = ap Some (sym is)
only_one (y ∷ (z ∷ zs)) x one is = absurd (omega (arith, one))

pub only_not : {X : Type 0} (xs : List X) → (length xs ≡ 1 → ⊥) → only xs ≡ None
only_not [] other = refl
only_not (x ∷ []) other = absurd (other refl)
only_not (x ∷ (y ∷ ys)) other = refl

pub alone : {X : Type 0} (xs : List X) (other : X) → length xs ≡ 1 → xs ≡ get_or xs 0 other ∷ []
alone [] other one = absurd (omega (arith, one))
alone (x ∷ []) other one = refl
alone (x ∷ (y ∷ ys)) other one = absurd (omega (arith, one))
