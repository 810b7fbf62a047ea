-- The traps of phases, in order, are those of the tasks and acts of their stages.
use Rattle.std.proofs.Common.{◌≡◌, ◌%◌, ℕ, suc, List, [], ◌∷◌, ◌++◌, Option, Some, None, refl, sym, ap, ◌∙◌, append-nil, slice_get}
use Rattle.std.specs.List.{AllByRecursion as Each, flat_map}
use Rattle.std.specs.Option.{option_map_or}
use Rattle.std.proofs.lemmas.Grind.{flat_map-append}
use Rattle.std.proofs.lemmas.Option.{none-some}
use Rattle.flume_collection.specs.declared.trap.Trap.{Trap}
use Rattle.shards.specs.Shards.{concatenated}
use Rattle.shards.proofs.Joined.{flat_map-joined, joined_same}
use Rattle.exec_graph.specs.World.{World}
use Rattle.task_lists.specs.of_exec_plan.declared.plan.Grouping.{Grouping}
use Rattle.task_lists.specs.of_exec_plan.declared.plan.Mscr.{Mscr as Channels}
use Rattle.task_lists.specs.of_exec_plan.declared.plan.Stage.{Stage}
use Rattle.task_lists.specs.of_exec_plan.declared.plan.Stage.TheVariants.{Mscr, Flatten, Operate}
use Rattle.task_lists.specs.of_exec_plan.declared.plan.Plan.{Plan}
use Rattle.task_lists.specs.Runs.{traps_in_order}
use Rattle.task_lists.specs.Tasks.{Split, Lists, Task, world_for, groupings, grouping_at, map_count, map_phase, map_task_at, no_task, reduce_count, reduce_phase, reduce_task, reduce_task_at}
use Rattle.task_lists.specs.Lists.{object_made, result_lists, source_lists, with_lists}
use Rattle.task_lists.specs.Outs.{IsCalm}
use Rattle.task_lists.specs.Plans.{all_tasks, first_trap, stage_tasks, task_traps, tasks_from}
use Rattle.plan_phases.specs.Phases.{OfAct, OfTasks, PhaseTasks, PlanPhase, map_phase_of, phase_traps, phases, phases_from, reduce_phase_of, reduce_phases, stage_phases, tasks_below}
use Rattle.plan_phases.specs.Told.{IsCalmPhase, IsFirstIn, IsFirstOf, IsFirstOfTasks}

first_left : {A : Type 0} (e : A) (xs ys : List A) → slice_get xs 0 ≡ Some e
    → slice_get (xs ++ ys) 0 ≡ Some e
first_left e [] ys h = absurd (none-some e h)
first_left e (x ∷ xs) ys h = h

module _ (w : World) where
  abbrev traps_in : Task → List Trap
  traps_in task = traps_in_order (world_for w task) task.does task.elements

  calm_tasks : (tasks : List Task) → Each (IsCalm w) tasks → flat_map traps_in tasks ≡ []
  calm_tasks [] h = refl
  calm_tasks (t ∷ ts) h = λ i. h.0 i ++ calm_tasks ts h.1 i

  calm_phases : (phs : List PlanPhase) → Each (IsCalmPhase w) phs
      → flat_map (phase_traps w) phs ≡ []
  calm_phases [] h = refl
  calm_phases (OfTasks ph ∷ phs) h = λ i. calm_tasks ph.tasks h.0 i ++ calm_phases phs h.1 i
  calm_phases (OfAct traps ∷ phs) h = λ i. h.0 i ++ calm_phases phs h.1 i

  -- the first trap stands behind nothing
  first_task : (ph : PhaseTasks) (trap : Trap) → IsFirstOfTasks w ph trap
      → slice_get (flat_map traps_in ph.tasks) 0 ≡ Some trap
  first_task ph trap h =
      let here = traps_in h.task in
      let later = flat_map traps_in h.greater in
      let in_phase : flat_map traps_in ph.tasks ≡ here ++ later =
      ap (flat_map traps_in) (sym h.tasks)
      ∙ flat_map-append traps_in h.smaller (h.task ∷ h.greater)
      ∙ ap (λ l. l ++ (here ++ later)) (calm_tasks h.smaller h.small) in
      ap (λ l. slice_get l 0) in_phase ∙ first_left trap here later h.is

  first_in : (ph : PlanPhase) (trap : Trap) → IsFirstIn w ph trap
      → slice_get (phase_traps w ph) 0 ≡ Some trap
  first_in (OfTasks ph) trap h = first_task ph trap h
  first_in (OfAct traps) trap h = h

  pub first_of : (all : List PlanPhase) (trap : Trap) → IsFirstOf w all trap
      → slice_get (flat_map (phase_traps w) all) 0 ≡ Some trap
  first_of all trap h =
      let behind = flat_map (phase_traps w) h.behind in
      let in_all : flat_map (phase_traps w) all ≡ phase_traps w h.here ++ behind =
      ap (flat_map (phase_traps w)) (sym h.whole)
      ∙ flat_map-append (phase_traps w) h.before (h.here ∷ h.behind)
      ∙ ap (λ l. l ++ (phase_traps w h.here ++ behind)) (calm_phases h.before h.calm) in
      ap (λ l. slice_get l 0) in_all
      ∙ first_left trap (phase_traps w h.here) behind (first_in h.here trap h.is)

  -- a task that is no task has no traps
  with_grouping : (n : Split) (t : Lists) (s : Channels) (p : ℕ) (g : Option Grouping)
      → traps_in (option_map_or (λ g. reduce_task w n t s.inputs g p) g no_task)
      ≡ option_map_or
      (λ d. traps_in (option_map_or (λ g. reduce_task w n t s.inputs g p) g no_task)) g []
  with_grouping n t s p None = refl
  with_grouping n t s p (Some g) = refl

  module _ (n : Split)
      (maps_numbered : (f : Task → List Trap) (t : Lists) (s : Channels)
      → map_phase f n t s ≡ concatenated (λ k. f (map_task_at n t s k)) (map_count n s))
      (reduces_numbered : (f : Grouping → Task → List Trap) (t : Lists) (s : Channels)
      → reduce_phase f w n t s
      ≡ concatenated (λ k. option_map_or (λ g. f g (reduce_task_at w n t s k)) (grouping_at n s k)
      [])
      (reduce_count n s)) where
    below_traps : (task : ℕ → Task) (count : ℕ)
        → flat_map traps_in (tasks_below task count) ≡ concatenated (λ k. traps_in (task k)) count
    below_traps task count =
        flat_map-joined traps_in (λ k. task k ∷ []) count
        ∙ joined_same (λ k. flat_map traps_in (task k ∷ [])) (λ k. traps_in (task k))
        (λ k. append-nil (traps_in (task k))) count

    map_traps : (k : ℕ) (t : Lists) (s : Channels)
        → flat_map traps_in (map_phase_of k n t s).tasks ≡ map_phase (task_traps w).maps n t s
    map_traps k t s =
        below_traps (map_task_at n t s) (map_count n s)
        ∙ sym (maps_numbered (task_traps w).maps t s)

    reduce_traps : (k : ℕ) (t : Lists) (s : Channels)
        → flat_map traps_in (reduce_phase_of w k n t s).tasks
        ≡ reduce_phase (task_traps w).reduces w n t s
    reduce_traps k t s =
        below_traps (reduce_task_at w n t s) (reduce_count n s)
        ∙ joined_same (λ j. traps_in (reduce_task_at w n t s j))
        (λ j. option_map_or (λ g. traps_in (reduce_task_at w n t s j)) (grouping_at n s j) [])
        (λ j. with_grouping n t s (j % n.partitions) (grouping_at n s j)) (reduce_count n s)
        ∙ sym (reduces_numbered (task_traps w).reduces t s)

    by_groupings : (k : ℕ) (t : Lists) (s : Channels) (gs : List Grouping)
        → gs ≡ groupings s.outputs → flat_map (phase_traps w) (reduce_phases w k n t s gs)
        ≡ reduce_phase (task_traps w).reduces w n t s
    by_groupings k t s [] e =
        ap (flat_map (λ g. concatenated
        (λ p. (task_traps w).reduces g (reduce_task w n t s.inputs g p)) n.partitions)) e
    by_groupings k t s (g ∷ gs) e =
        append-nil (flat_map traps_in (reduce_phase_of w k n t s).tasks) ∙ reduce_traps k t s

    stage_traps : (k : ℕ) (t : Lists) (s : Stage)
        → flat_map (phase_traps w) (stage_phases w k n t s) ≡ stage_tasks (task_traps w) w n t s
    stage_traps k t (Mscr s) =
        let maps = map_traps k t s in
        let reduces = by_groupings k t s (groupings s.outputs) refl in
        λ i. maps i ++ reduces i
    stage_traps k t (Flatten takes) = refl
    stage_traps k t (Operate takes o l a) = append-nil (object_made w t o a takes).traps

    traps_from : (k : ℕ) (ss : List Stage) (t : Lists)
        → flat_map (phase_traps w) (phases_from w n k ss t) ≡ tasks_from (task_traps w) w n k ss t
    traps_from k [] t = refl
    traps_from k (s ∷ ss) t =
        let later : Lists = with_lists k (result_lists w n t s) t in
        let here = stage_traps k t s in
        let rest = traps_from (suc k) ss later in
        flat_map-append (phase_traps w) (stage_phases w k n t s) (phases_from w n (suc k) ss later)
        ∙ (λ i. here i ++ rest i)

    pub all_traps : (p : Plan)
        → flat_map (phase_traps w) (phases w n p) ≡ all_tasks (task_traps w) w n p
    all_traps p = traps_from 1 p.stages (source_lists w)

    pub none_traps : (p : Plan) → Each (IsCalmPhase w) (phases w n p) → first_trap w n p ≡ None
    none_traps p calm =
        ap (λ l. slice_get l 0) (sym (all_traps p) ∙ calm_phases (phases w n p) calm)

    pub first_traps : (p : Plan) (trap : Trap) → IsFirstOf w (phases w n p) trap
        → first_trap w n p ≡ Some trap
    first_traps p trap h =
        ap (λ l. slice_get l 0) (sym (all_traps p)) ∙ first_of (phases w n p) trap h
