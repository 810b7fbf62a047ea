-- The tasks of a whole plan.
use Rattle.std.proofs.Common.{◌≡◌, ◌<◌, ◌↔◌, ℕ, suc, List, [], ◌∷◌, ◌++◌, length, Some, None, refl, sym, ap, ◌∙◌, subst}
use Rattle.std.specs.List.{AllByRecursion, flat_map, slice_get, Contains}
use Rattle.flume_value.specs.Bag.{bag_of}
use Rattle.flume_value.proofs.BagLemmas.{bag_of-twice, length-bag_of}
use Rattle.flume_collection.specs.declared.trap.Trap.{Trap}
use Rattle.flume_collection.specs.Collection.{Collection}
use Rattle.flume_collection.specs.Traps.{trap_le, trap_set}
use Rattle.flume_collection.proofs.Members.{not_in_none, set_members}
use Rattle.flume_collection.proofs.Orders.{trap_order}
use Rattle.shards.proofs.Alike.{Alike, alike_back, alike_bag, bag_alike, alike_append, alike_length, append_empty}
use Rattle.exec_plan.specs.of_exec_graph.World.{World}
use Rattle.exec_plan.specs.declared.plan.PlanPlace.{PlanPlace}
use Rattle.exec_plan.specs.declared.plan.PlanPlace.TheVariants as at
use Rattle.exec_plan.specs.declared.plan.Stage.{Stage}
use Rattle.exec_plan.specs.declared.plan.Plan.{Plan}
use Rattle.exec_plan.specs.Meaning.{stage_sum, results, with_results, stages_run, sources, plan_collection, own_parts, trap_parts, emitted_by, plan_traps}
use Rattle.exec_plan.specs.Wellformed.{IsPlanOk}
use Rattle.task_lists.specs.Tasks.{Split, Lists}
use Rattle.task_lists.specs.Lists.{result_lists, with_lists, run_lists, source_lists, lists}
use Rattle.task_lists.specs.Plans.{AreSidesFirst, AreStageFirst, stage_tasks, tasks_from, all_tasks, task_traps, first_trap, task_counts, counted_size}
use Rattle.task_lists.proofs.Elements.{Agrees, none_agrees}
use Rattle.task_lists.proofs.Says.{each_says, each_trap, each_own, traps_each}
use Rattle.task_lists.proofs.Trapping.{first_of_both}
use Rattle.task_lists.proofs.Results.{stage_alike, table_agrees}
use Rattle.task_lists.proofs.Staged.{stage_trapped, stage_quiet}
use Rattle.task_lists.proofs.Running.{sum_from, plan_sum}
use Rattle.task_lists.proofs.Counts.{tasks_counted, own_counts}

module _ (w : World) (n : Split) (some_shards : 0 < n.shards) (some : 0 < n.partitions) where
  -- ---- stages one after another

  abbrev traps_from : ℕ → List Stage → Lists → List Trap
  traps_from = tasks_from (each_says w each_trap) w n

  abbrev next : ℕ → Stage → Lists → Lists
  next k s t = with_lists k (result_lists w n t s) t

  abbrev after : ℕ → Stage → (PlanPlace → Collection) → PlanPlace → Collection
  after k s m = with_results k (results w m s) m

  abbrev AllAgree : Lists → (PlanPlace → Collection) → Type 0
  AllAgree t m = (c : PlanPlace) → Agrees (t c) (m c)

  -- no task of the first stage traps, and none of the others
  apart : (k : ℕ) (s : Stage) (ss : List Stage) (t : Lists) → traps_from k (s ∷ ss) t ≡ []
      → (stage_tasks (each_says w each_trap) w n t s ≡ [])
      × (traps_from (suc k) ss (next k s t) ≡ [])
  apart k s ss t none =
      append_empty (stage_tasks (each_says w each_trap) w n t s)
      (traps_from (suc k) ss (next k s t)) none

  lists_agree : (k : ℕ) (ss : List Stage) (t : Lists) (m : PlanPlace → Collection)
      → AllAgree t m → traps_from k ss t ≡ []
      → AllAgree (run_lists w n k ss t) (stages_run w k ss m)
  lists_agree k [] t m agree none = agree
  lists_agree k (s ∷ ss) t m agree none =
      let each = apart k s ss t none in
      lists_agree (suc k) ss (next k s t) (after k s m)
      (table_agrees w n some_shards some t m agree k s each.0) each.1

  sums_alike : (i k : ℕ) (ss : List Stage) (t : Lists) (m : PlanPlace → Collection)
      → AllByRecursion AreStageFirst ss → AllAgree t m → traps_from k ss t ≡ []
      → Alike (tasks_from (each_says w (each_own i)) w n k ss t)
      (sum_from w (own_parts w i) k ss m)
  sums_alike i k [] t m first agree none = λ u. refl
  sums_alike i k (s ∷ ss) t m first agree none =
      let each = apart k s ss t none in
      let own = each_says w (each_own i) in
      alike_append (stage_tasks own w n t s) (stage_sum w (own_parts w i) m s)
      (tasks_from own w n (suc k) ss (next k s t))
      (sum_from w (own_parts w i) (suc k) ss (after k s m))
      (stage_alike w n some_shards some t m agree i s first.0 each.0)
      (sums_alike i (suc k) ss (next k s t) (after k s m) first.1
      (table_agrees w n some_shards some t m agree k s each.0) each.1)

  quiet_from : (k : ℕ) (ss : List Stage) (t : Lists) (m : PlanPlace → Collection)
      → AllAgree t m → traps_from k ss t ≡ [] → sum_from w (trap_parts w) k ss m ≡ []
  quiet_from k [] t m agree none = refl
  quiet_from k (s ∷ ss) t m agree none =
      let each = apart k s ss t none in
      let here = stage_quiet w n some_shards some t m agree s each.0 in
      let rest = quiet_from (suc k) ss (next k s t) (after k s m)
      (table_agrees w n some_shards some t m agree k s each.0) each.1 in
      λ i. here i ++ rest i

  first_is_trap : (k : ℕ) (ss : List Stage) (t : Lists) (m : PlanPlace → Collection)
      → AllAgree t m → (e : Trap) → slice_get (traps_from k ss t) 0 ≡ Some e
      → Contains (sum_from w (trap_parts w) k ss m) e
  first_is_trap k [] t m agree e h = cc
  first_is_trap k (s ∷ ss) t m agree e h =
      first_of_both e (stage_tasks (each_says w each_trap) w n t s)
      (traps_from (suc k) ss (next k s t)) (stage_sum w (trap_parts w) m s)
      (sum_from w (trap_parts w) (suc k) ss (after k s m))
      (λ f. stage_trapped w n some_shards some t m agree s f)
      (λ none f. first_is_trap (suc k) ss (next k s t) (after k s m)
      (table_agrees w n some_shards some t m agree k s none) f) h

  -- ---- of a plan

  begin : AllAgree (source_lists w) (sources w)
  begin (at.Source r) = record {
    same = alike_back (bag_of (w.rows r)) (w.rows r) (alike_bag (w.rows r));
    calm = refl;
    settled = bag_of-twice (w.rows r);
  }
  begin (at.Result stage number) = none_agrees

  none_first : (traps : List Trap) → slice_get traps 0 ≡ None → traps ≡ []
  none_first [] h = refl
  none_first (e ∷ es) h = cc

  calm_tasks : (p : Plan) → first_trap w n p ≡ None → traps_from 1 p.stages (source_lists w) ≡ []
  calm_tasks p none =
      sym (ap (λ q. all_tasks q w n p) (traps_each w))
      ∙ none_first (all_tasks (task_traps w) w n p) none

  -- where no task traps, the list of each collection has its bag
  pub lists_whole : (p : Plan) → first_trap w n p ≡ None → (c : PlanPlace)
      → bag_of (lists w n p c) ≡ (plan_collection w p c).bag
  lists_whole p none c =
      let a = lists_agree 1 p.stages (source_lists w) (sources w) begin (calm_tasks p none) c in
      bag_alike (lists w n p c) (plan_collection w p c).bag a.same ∙ a.settled

  -- and the tasks count the members of each script node's bag
  pub sizes_whole : (p : Plan) → AreSidesFirst p → IsPlanOk p → first_trap w n p ≡ None
      → (i : ℕ) → counted_size w n p i ≡ length (emitted_by w p i)
  sizes_whole p first ok none i =
      let own = each_says w (each_own i) in
      let given = flat_map (stage_sum w (own_parts w i) (plan_collection w p)) p.stages in
      tasks_counted (task_counts w i) own (own_counts w i) w n 1 p.stages (source_lists w)
      ∙ alike_length (tasks_from own w n 1 p.stages (source_lists w))
      (sum_from w (own_parts w i) 1 p.stages (sources w))
      (sums_alike i 1 p.stages (source_lists w) (sources w) first begin (calm_tasks p none))
      ∙ ap length (plan_sum w (own_parts w i) p ok)
      ∙ sym (length-bag_of given)

  -- the first trap is one of the plan's
  pub first_trap_is : (p : Plan) (e : Trap) → IsPlanOk p → first_trap w n p ≡ Some e
      → Contains (plan_traps w p) e
  first_trap_is p e ok h =
      let given = flat_map (stage_sum w (trap_parts w) (plan_collection w p)) p.stages in
      (set_members trap_le trap_order given e).1
      (subst (λ l. Contains l e) (plan_sum w (trap_parts w) p ok)
      (first_is_trap 1 p.stages (source_lists w) (sources w) begin e
      (ap (λ q. slice_get (all_tasks q w n p) 0) (sym (traps_each w)) ∙ h)))

  -- no task traps where the plan has no trap, and the other way round
  no_trap : (p : Plan) → IsPlanOk p → first_trap w n p ≡ None → plan_traps w p ≡ []
  no_trap p ok none =
      ap trap_set (sym (plan_sum w (trap_parts w) p ok)
      ∙ quiet_from 1 p.stages (source_lists w) (sources w) begin (calm_tasks p none))

  none_named : (traps all : List Trap)
      → ((e : Trap) → slice_get traps 0 ≡ Some e → Contains all e) → all ≡ []
      → slice_get traps 0 ≡ None
  none_named [] all h none = refl
  none_named (e ∷ es) all h none =
      absurd (not_in_none e (subst (λ l. Contains l e) none (h e refl)))

  pub no_trap_either : (p : Plan) → IsPlanOk p
      → (first_trap w n p ≡ None) ↔ (plan_traps w p ≡ [])
  no_trap_either p ok = (
    no_trap p ok,
    none_named (all_tasks (task_traps w) w n p) (plan_traps w p) (λ e. first_trap_is p e ok),
  )
