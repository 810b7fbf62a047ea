-- What stages come to stands on the lists that they read, and on no other.
use Rattle.std.proofs.Common.{◌≡◌, ◌/◌, ◌%◌, ◌==◌, ℕ, zero, suc, cond, List, [], ◌∷◌, ◌++◌, map, length, None, Option, Some, refl, ap, ◌∙◌, subst, append_assoc}
use Rattle.std.specs.List.{flat_map, slice_get}
use Rattle.std.specs.Option.{option_map_or}
use Rattle.flume_value.specs.declared.value.Value.{Value}
use Rattle.flume_value.specs.Bag.{bag_of}
use Rattle.flume_collection.specs.Calls.{or_none}
use Rattle.bag_groups.specs.Groups.{grouped}
use Rattle.outside.specs.declared.host.Phase.TheVariants.{Map, Reduce}
use Rattle.shards.specs.Shards.{concatenated, shard}
use Rattle.shuffle_parts.specs.Partitions.{pairs_in_part}
use Rattle.exec_graph.specs.Objects.{act_result, only}
use Rattle.exec_graph.specs.World.{World}
use Rattle.exec_graph.specs.declared.graph.Act.{Act}
use Rattle.exec_plan.specs.Channels.{output_numbers_of}
use Rattle.exec_plan.specs.Meaning.{in_reads, stage_reads, object_places}
use Rattle.exec_plan.specs.declared.plan.PlanPlace.{PlanPlace}
use Rattle.exec_plan.specs.declared.plan.PlanPlace.TheVariants as at
use Rattle.exec_plan.specs.declared.plan.Grouping.{Grouping}
use Rattle.exec_plan.specs.declared.plan.InChannel.{InChannel}
use Rattle.exec_plan.specs.declared.plan.Mscr.{Mscr as Channels}
use Rattle.exec_plan.specs.declared.plan.OutChannel.{OutChannel}
use Rattle.exec_plan.specs.declared.plan.OutChannel.TheVariants.{Group, Pass}
use Rattle.exec_plan.specs.declared.plan.Stage.{Stage}
use Rattle.exec_plan.specs.declared.plan.Stage.TheVariants.{Mscr, Flatten, Operate}
use Rattle.plan_phases.specs.Phases.{OfAct, OfTasks, phases_from, reduce_phases, stage_phases, tasks_below}
use Rattle.task_lists.specs.Lists.{calm_list, given_lists, object_made, result_lists, run_lists, with_lists}
use Rattle.task_lists.specs.Plans.{SaysOfTasks, stage_tasks, tasks_from}
use Rattle.task_lists.specs.Tasks.{Lists, Split, Task, elements_beside, gathered, given_to, grouping_at, groupings, if_valued, map_count, map_task, map_task_of, no_task, reduce_count, reduce_task, task_gives, value_beside}
use Rattle.stage_exec.specs.inner.Reads.{AgreeOn, later_reads}

abbrev head_or : List (List Value) → List Value
head_or [] = []
head_or (x ∷ xs) = x

abbrev tail_of : List (List Value) → List (List Value)
tail_of [] = []
tail_of (x ∷ xs) = xs

-- ---- tables that agree on several collections, one behind another

agree_front : (t u : Lists) (first second : List PlanPlace) → AgreeOn (first ++ second) t u
    → AgreeOn first t u
agree_front t u [] second agree = refl
agree_front t u (p ∷ first) second agree = λ j.
    ap head_or agree j ∷ agree_front t u first second (ap tail_of agree) j

agree_back : (t u : Lists) (first second : List PlanPlace) → AgreeOn (first ++ second) t u
    → AgreeOn second t u
agree_back t u [] second agree = agree
agree_back t u (p ∷ first) second agree = agree_back t u first second (ap tail_of agree)

module _ (w : World) (n : Split) (t u : Lists) where
  -- ---- the tasks of a stage

  value_same : (o : Option PlanPlace) → AgreeOn (object_places o) t u
      → value_beside t o ≡ value_beside u o
  value_same None agree = refl
  value_same (Some object) agree = λ j. only (ap head_or agree j)

  elements_same : (o : Option PlanPlace) → AgreeOn (object_places o) t u → (xs : List Value)
      → elements_beside t o xs ≡ elements_beside u o xs
  elements_same None agree xs = refl
  elements_same (Some object) agree xs = λ j. if_valued (only (ap head_or agree j)) xs

  -- the task of a shard of a channel
  shard_same : (c : InChannel) → AgreeOn (in_reads c) t u → (i : ℕ)
      → map_task n t c i ≡ map_task n u c i
  shard_same c agree i =
      let beside : AgreeOn (object_places c.beside) t u = ap tail_of agree in
      let elements : elements_beside t c.beside (t c.reads) ≡ elements_beside u c.beside (u c.reads)
      = elements_same c.beside beside (t c.reads)
      ∙ ap (elements_beside u c.beside) (ap head_or agree) in
      λ j. record {
        elements = shard n.shards i (elements j);
        beside = value_same c.beside beside j;
        does = c.does;
      }

  task_same : (ins : List InChannel) → AgreeOn (flat_map in_reads ins) t u → (m i : ℕ)
      → map_task_of n t ins m i ≡ map_task_of n u ins m i
  task_same [] agree m i = refl
  task_same (c ∷ ins) agree zero i =
      shard_same c (agree_front t u (in_reads c) (flat_map in_reads ins) agree) i
  task_same (c ∷ ins) agree (suc m) i =
      task_same ins (agree_back t u (in_reads c) (flat_map in_reads ins) agree) m i

  tasks_same : (ins : List InChannel) → AgreeOn (flat_map in_reads ins) t u
      → map_task_of n t ins ≡ map_task_of n u ins
  tasks_same ins agree = λ j m i. task_same ins agree m i j

  gathered_same : (ins : List InChannel) → AgreeOn (flat_map in_reads ins) t u
      → gathered w n t ins ≡ gathered w n u ins
  gathered_same ins agree = λ j takes.
      concatenated (λ m. concatenated (λ i. given_to w (tasks_same ins agree j m i) m takes)
      n.shards)
      (length ins)

  reduce_same : (ins : List InChannel) → AgreeOn (flat_map in_reads ins) t u
      → reduce_task w n t ins ≡ reduce_task w n u ins
  reduce_same ins agree = λ j g p. record {
    elements = pairs_in_part n.partitions p (grouped (gathered_same ins agree j g.takes));
    beside = None;
    does = g.does;
  }

  -- ---- the object of an act

  calm_same : (places : List PlanPlace) → AgreeOn places t u
      → map (calm_list t) places ≡ map (calm_list u) places
  calm_same [] agree = refl
  calm_same (p ∷ places) agree = λ j.
      record { bag = bag_of (ap head_or agree j); traps = [] }
      ∷ calm_same places (ap tail_of agree) j

  object_same : (o : ℕ) (a : Act) (takes : List PlanPlace) → AgreeOn takes t u
      → object_made w t o a takes ≡ object_made w u o a takes
  object_same o a takes agree = λ j. act_result w o a (calm_same takes agree j)

  -- ---- phases

  map_phase_same : {Y : Type 0} (f : Task → List Y) (ins : List InChannel)
      → AgreeOn (flat_map in_reads ins) t u
      → flat_map (λ c. concatenated (λ i. f (map_task n t c i)) n.shards) ins
      ≡ flat_map (λ c. concatenated (λ i. f (map_task n u c i)) n.shards) ins
  map_phase_same f [] agree = refl
  map_phase_same f (c ∷ ins) agree = λ j.
      concatenated (λ i. f
      (shard_same c (agree_front t u (in_reads c) (flat_map in_reads ins) agree) i j)) n.shards
      ++ map_phase_same f ins (agree_back t u (in_reads c) (flat_map in_reads ins) agree) j

  stage_tasks_same : {Y : Type 0} (q : SaysOfTasks Y) (s : Stage) → AgreeOn (stage_reads s) t u
      → stage_tasks q w n t s ≡ stage_tasks q w n u s
  stage_tasks_same q (Mscr s) agree = λ j.
      map_phase_same q.maps s.inputs agree j
      ++ flat_map (λ g. concatenated (λ p. q.reduces g (reduce_same s.inputs agree j g p))
      n.partitions)
      (groupings s.outputs)
  stage_tasks_same q (Flatten takes) agree = refl
  stage_tasks_same q (Operate takes o l a) agree = λ j.
      q.objects o l (object_same o a takes agree j)

  reduce_phases_same : (k : ℕ) (s : Channels) → AgreeOn (flat_map in_reads s.inputs) t u
      → (gs : List Grouping) → reduce_phases w k n t s gs ≡ reduce_phases w k n u s gs
  reduce_phases_same k s agree [] = refl
  reduce_phases_same k s agree (g ∷ gs) = λ j. OfTasks (record {
    stage = k;
    phase = Reduce;
    tasks = tasks_below (λ r. option_map_or
        (λ g. reduce_same s.inputs agree j g (r % n.partitions)) (grouping_at n s r) no_task)
        (reduce_count n s);
  }) ∷ []

  stage_phases_same : (k : ℕ) (s : Stage) → AgreeOn (stage_reads s) t u
      → stage_phases w k n t s ≡ stage_phases w k n u s
  stage_phases_same k (Mscr s) agree = λ j. OfTasks (record {
    stage = k;
    phase = Map;
    tasks = tasks_below
        (λ r. tasks_same s.inputs agree j (r / n.shards) (r % n.shards)) (map_count n s);
  }) ∷ reduce_phases_same k s agree (groupings s.outputs) j
  stage_phases_same k (Flatten takes) agree = refl
  stage_phases_same k (Operate takes o l a) agree = λ j.
      OfAct (object_same o a takes agree j).traps ∷ []

  -- ---- results

  given_same : (ins : List InChannel) → AgreeOn (flat_map in_reads ins) t u → (c : OutChannel)
      → given_lists w n t ins c ≡ given_lists w n u ins c
  given_same ins agree (Group g) = λ j.
      map (λ o. concatenated (λ p. task_gives w (reduce_same ins agree j g p) o) n.partitions)
      (output_numbers_of g.does)
  given_same ins agree (Pass k number) = λ j. gathered_same ins agree j (k ∷ []) ∷ []

  flat_same : (places : List PlanPlace) → AgreeOn places t u
      → flat_map t places ≡ flat_map u places
  flat_same [] agree = refl
  flat_same (p ∷ places) agree = λ j.
      ap head_or agree j ++ flat_same places (ap tail_of agree) j

  results_same : (s : Stage) → AgreeOn (stage_reads s) t u
      → result_lists w n t s ≡ result_lists w n u s
  results_same (Mscr s) agree = λ j. flat_map (λ c. given_same s.inputs agree c j) s.outputs
  results_same (Flatten takes) agree = λ j. flat_same takes agree j ∷ []
  results_same (Operate takes o l a) agree = λ j.
      (object_same o a takes agree j).bag ∷ []

-- ---- stage after stage

abbrev pub result_at : List (List Value) → ℕ → List Value
result_at ls number = or_none (slice_get ls number)

pub with_agree : (k : ℕ) (ls : List (List Value)) (t u : Lists) (places : List PlanPlace)
    → AgreeOn places t u → AgreeOn places (with_lists k ls t) (with_lists k ls u)
with_agree k ls t u [] agree = refl
with_agree k ls t u (at.Source r ∷ places) agree = λ j.
    ap head_or agree j ∷ with_agree k ls t u places (ap tail_of agree) j
with_agree k ls t u (at.Result stage number ∷ places) agree = λ j.
    cond (stage == k) (result_at ls number) (ap head_or agree j)
    ∷ with_agree k ls t u places (ap tail_of agree) j

module _ (w : World) (n : Split) (outputs : List PlanPlace) where
  module _ (k : ℕ) (s : Stage) (stages : List Stage) (t u : Lists)
      (agree : AgreeOn (later_reads (s ∷ stages) outputs) t u) where
    here : AgreeOn (stage_reads s) t u
    here =
        agree_front t u (stage_reads s) (flat_map stage_reads stages)
        (agree_front t u (stage_reads s ++ flat_map stage_reads stages) outputs agree)

    abbrev after : Lists → Lists
    after v = with_lists k (result_lists w n v s) v

    next : AgreeOn (later_reads stages outputs) (after t) (after u)
    next =
        let places = later_reads stages outputs in
        let back : AgreeOn places t u = agree_back t u (stage_reads s) places
        (subst (λ l. AgreeOn l t u)
        (append_assoc (stage_reads s) (flat_map stage_reads stages) outputs) agree) in
        with_agree k (result_lists w n t s) t u places back
        ∙ ap (λ ls. map (with_lists k ls u) places) (results_same w n t u s here)

  pub tasks_from_same : {Y : Type 0} (q : SaysOfTasks Y) (k : ℕ) (stages : List Stage) (t u : Lists)
      → AgreeOn (later_reads stages outputs) t u
      → tasks_from q w n k stages t ≡ tasks_from q w n k stages u
  tasks_from_same q k [] t u agree = refl
  tasks_from_same q k (s ∷ stages) t u agree = λ j.
      stage_tasks_same w n t u q s (here k s stages t u agree) j
      ++ tasks_from_same q (suc k) stages (after k s stages t u agree t)
      (after k s stages t u agree u) (next k s stages t u agree) j

  pub phases_from_same : (k : ℕ) (stages : List Stage) (t u : Lists)
      → AgreeOn (later_reads stages outputs) t u
      → phases_from w n k stages t ≡ phases_from w n k stages u
  phases_from_same k [] t u agree = refl
  phases_from_same k (s ∷ stages) t u agree = λ j.
      stage_phases_same w n t u k s (here k s stages t u agree) j
      ++ phases_from_same (suc k) stages (after k s stages t u agree t)
      (after k s stages t u agree u) (next k s stages t u agree) j

  pub outputs_same : (k : ℕ) (stages : List Stage) (t u : Lists)
      → AgreeOn (later_reads stages outputs) t u
      → AgreeOn outputs (run_lists w n k stages t) (run_lists w n k stages u)
  outputs_same k [] t u agree = agree
  outputs_same k (s ∷ stages) t u agree =
      outputs_same (suc k) stages (after k s stages t u agree t) (after k s stages t u agree u)
      (next k s stages t u agree)
