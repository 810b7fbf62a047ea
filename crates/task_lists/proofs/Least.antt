-- The first trap of a stage is the first of its least trapping task.
use Rattle.std.proofs.Common.{◌≡◌, ◌<◌, ◌%◌, ℕ, zero, suc, List, [], ◌∷◌, ◌++◌, Option, Some, None, refl, sym, ap, ◌∙◌, subst, arith, ⊎_elim}
use Rattle.std.specs.List.{slice_get}
use Rattle.std.specs.Option.{option_map_or}
use Rattle.std.proofs.lemmas.Bool.{cases_lt}
use Rattle.flume_collection.specs.declared.trap.Trap.{Trap}
use Rattle.shards.specs.Shards.{concatenated}
use Rattle.shards.proofs.Joined.{joined_nothing, joined_same}
use Rattle.exec_plan.specs.of_exec_graph.World.{World}
use Rattle.exec_plan.specs.declared.plan.Grouping.{Grouping}
use Rattle.exec_plan.specs.declared.plan.Mscr.{Mscr as Channels}
use Rattle.exec_plan.specs.declared.plan.Stage.TheVariants.{Mscr}
use Rattle.task_lists.specs.Runs.{traps_in_order}
use Rattle.task_lists.specs.Tasks.{Split, Lists, Task, world_for, no_task, map_task_at, map_count, map_phase, reduce_task, reduce_task_at, reduce_count, reduce_phase, grouping_at}
use Rattle.task_lists.specs.Plans.{task_traps, stage_tasks}
use Rattle.task_lists.specs.Outs.{IsCalm, IsFirstTaskTrap}
use Rattle.task_lists.proofs.Numbers.{joined_below, maps_numbered, reduces_numbered}

joined_calm : {A : Type 0} (f : ℕ → List A) (n : ℕ) → ((i : ℕ) → i < n → f i ≡ [])
    → concatenated f n ≡ []
joined_calm f n h = joined_below f (λ i. []) n h ∙ joined_nothing n

first_left : {A : Type 0} (e : A) (xs ys : List A) → slice_get xs 0 ≡ Some e
    → slice_get (xs ++ ys) 0 ≡ Some e
first_left e [] ys h = cc
first_left e (x ∷ xs) ys h = h

joined_first : {A : Type 0} (f : ℕ → List A) (n k : ℕ) (e : A) → k < n
    → ((i : ℕ) → i < k → f i ≡ []) → slice_get (f k) 0 ≡ Some e
    → slice_get (concatenated f n) 0 ≡ Some e
joined_first f zero k e h calm first = absurd (omega arith)
joined_first f (suc n) k e h calm first =
    ⊎_elim (λ below. first_left e (concatenated f n) (f n) (joined_first f n k e below calm first))
    (λ past. let last : k ≡ n = omega arith in
    let none : concatenated f n ≡ [] = joined_calm f n (λ i below. calm i (omega arith)) in
    ap (λ l. slice_get (l ++ f n) 0) none
    ∙ subst (λ (m : ℕ). slice_get (f m) 0 ≡ Some e) last first)
    (cases_lt k n)

module _ (w : World) (n : Split) (some_shards : 0 < n.shards) (some : 0 < n.partitions) (t : Lists)
    (s : Channels) where
  abbrev traps_in : Task → List Trap
  traps_in task = traps_in_order (world_for w task) task.does task.elements

  abbrev maps : List Trap
  maps = map_phase (task_traps w).maps n t s

  abbrev reduces : List Trap
  reduces = reduce_phase (task_traps w).reduces w n t s

  maps_are : maps ≡ concatenated (λ k. traps_in (map_task_at n t s k)) (map_count n s)
  maps_are = maps_numbered (task_traps w).maps n t s some_shards

  reduces_are : reduces ≡ concatenated (λ k. traps_in (reduce_task_at w n t s k)) (reduce_count n s)
  reduces_are =
      reduces_numbered (task_traps w).reduces w n t s some
      ∙ joined_same
      (λ k. option_map_or (λ g. traps_in (reduce_task_at w n t s k)) (grouping_at n s k) [])
      (λ k. traps_in (reduce_task_at w n t s k)) (λ k. by_grouping k (grouping_at n s k))
      (reduce_count n s)
    where
      by_grouping : (k : ℕ) (o : Option Grouping)
          → option_map_or (λ (g : Grouping). traps_in (option_map_or
          (λ d. reduce_task w n t s.inputs d (k % n.partitions)) o no_task)) o []
          ≡ traps_in (option_map_or
          (λ d. reduce_task w n t s.inputs d (k % n.partitions)) o no_task)
      by_grouping k None = refl
      by_grouping k (Some g) = refl

  maps_calm : ((k : ℕ) → k < map_count n s → IsCalm w (map_task_at n t s k)) → maps ≡ []
  maps_calm h = maps_are ∙ joined_calm (λ k. traps_in (map_task_at n t s k)) (map_count n s) h

  pub stage_calm : ((k : ℕ) → k < map_count n s → IsCalm w (map_task_at n t s k))
      → ((k : ℕ) → k < reduce_count n s → IsCalm w (reduce_task_at w n t s k))
      → stage_tasks (task_traps w) w n t (Mscr s) ≡ []
  stage_calm g h =
      let second : reduces ≡ [] = reduces_are
      ∙ joined_calm (λ k. traps_in (reduce_task_at w n t s k)) (reduce_count n s) h in
      λ i. maps_calm g i ++ second i

  pub map_first : (k : ℕ) (e : Trap) → k < map_count n s
      → ((i : ℕ) → i < k → IsCalm w (map_task_at n t s i))
      → IsFirstTaskTrap w (map_task_at n t s k) e
      → slice_get (stage_tasks (task_traps w) w n t (Mscr s)) 0 ≡ Some e
  map_first k e below calm first =
      first_left e maps reduces
      (subst (λ (l : List Trap). slice_get l 0 ≡ Some e) (sym maps_are)
      (joined_first (λ k. traps_in (map_task_at n t s k)) (map_count n s) k e below calm first))

  pub reduce_first : (k : ℕ) (e : Trap)
      → ((i : ℕ) → i < map_count n s → IsCalm w (map_task_at n t s i)) → k < reduce_count n s
      → ((i : ℕ) → i < k → IsCalm w (reduce_task_at w n t s i))
      → IsFirstTaskTrap w (reduce_task_at w n t s k) e
      → slice_get (stage_tasks (task_traps w) w n t (Mscr s)) 0 ≡ Some e
  reduce_first k e before below calm first =
      ap (λ l. slice_get (l ++ reduces) 0) (maps_calm before)
      ∙ subst (λ (l : List Trap). slice_get l 0 ≡ Some e) (sym reduces_are)
      (joined_first (λ k. traps_in (reduce_task_at w n t s k)) (reduce_count n s) k e below calm
      first)
