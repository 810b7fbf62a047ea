-- What tasks count is how many members their steps and groups gave.
use Rattle.std.proofs.Common.{◌≡◌, ◌+◌, ℕ, zero, suc, true, false, cond, Bool, ◌&&◌, List, [], ◌∷◌, ◌++◌, length, length-append, map, Option, Some, None, refl, sym, ap, ◌∙◌, arith}
use Rattle.std.specs.Prelude.{◌==◌, sum}
use Rattle.std.specs.List.{flat_map}
use Rattle.std.proofs.lemmas.List.{map-append}
use Rattle.std.proofs.lemmas.List.Sums.{sum_by-append}
use Rattle.flume_value.specs.declared.value.Value.{Value}
use Rattle.shards.specs.Shards.{concatenated}
use Rattle.shards.proofs.Alike.{alike_length, flat_map-nothing, flat_map-itself}
use Rattle.exec_plan.specs.of_exec_graph.World.{World}
use Rattle.exec_plan.specs.of_exec_graph.Calls.{emitted, is_own}
use Rattle.exec_plan.specs.of_exec_graph.Forests.{Label, Forest, Bare, Grow}
use Rattle.exec_plan.specs.declared.plan.Grouping.{Grouping}
use Rattle.exec_plan.specs.declared.plan.Stage.{Stage}
use Rattle.exec_plan.specs.declared.plan.Stage.TheVariants.{Mscr, Flatten, Operate}
use Rattle.task_lists.specs.Runs.{visits, visits_of, step_lists, counts_of, labels_in, labels_of, own_count}
use Rattle.task_lists.specs.Tasks.{Split, Lists, Task, world_for, map_task, reduce_task, map_phase, reduce_phase, groupings}
use Rattle.task_lists.specs.Lists.{object_made, result_lists, with_lists}
use Rattle.task_lists.specs.Plans.{SaysOfTasks, stage_tasks, tasks_from, task_counts, steps_count, groups_count}
use Rattle.task_lists.proofs.Elements.{visits_split}
use Rattle.task_lists.proofs.Says.{each_says, each_own, flat_if}

sum_append : (xs ys : List ℕ) → sum (xs ++ ys) ≡ sum xs + sum ys
sum_append xs ys = sum_by-append (λ n. n) xs ys

length_if : (b : Bool) (xs : List Value) → length (cond b xs []) ≡ cond b (length xs) 0
length_if true xs = refl
length_if false xs = refl

-- ---- of one task

module _ (w : World) (i : ℕ) where
  counted_steps : (f : Forest) (xs : List Value)
      → length (map length (step_lists w f xs)) ≡ length (labels_in f)
  counted_steps Bare xs = refl
  counted_steps (Grow l kids rest) xs =
      let ys : List Value = flat_map (emitted w l) xs in
      ap suc (ap length (map-append length (step_lists w kids ys) (step_lists w rest xs))
      ∙ length-append (map length (step_lists w kids ys)) (map length (step_lists w rest xs))
      ∙ (λ k. counted_steps kids ys k + counted_steps rest xs k)
      ∙ sym (length-append (labels_in kids) (labels_in rest)))

  own_append : (ls ks : List Label) (ns ms : List ℕ) → length ns ≡ length ls
      → own_count i (ls ++ ks) (ns ++ ms) ≡ own_count i ls ns + own_count i ks ms
  own_append [] ks [] ms e = omega arith
  own_append [] ks (n ∷ ns) ms e = absurd (omega (arith, e))
  own_append (l ∷ ls) ks [] ms e = absurd (omega (arith, e))
  own_append (l ∷ ls) ks (n ∷ ns) ms e =
      let rest = own_append ls ks ns ms (omega (arith, e)) in omega (arith, rest)

  own_steps : (f : Forest) (xs : List Value)
      → own_count i (labels_in f) (map length (step_lists w f xs))
      ≡ length (flat_map (visits w ((each_own i).steps w) f) xs)
  own_steps Bare xs = sym (ap length (flat_map-nothing xs))
  own_steps (Grow l kids rest) xs =
      let q = (each_own i).steps w in
      let ys : List Value = flat_map (emitted w l) xs in
      let all = flat_map (visits w q (Grow l kids rest)) xs in
      let own = flat_map (q l) xs in
      let below = flat_map (visits w q kids) ys in
      let beside = flat_map (visits w q rest) xs in
      omega (
        arith,
        alike_length all (own ++ (below ++ beside)) (visits_split w q l kids rest xs),
        length-append own (below ++ beside),
        length-append below beside,
        ap length (flat_if (is_own i l) (emitted w l) xs),
        length_if (is_own i l) ys,
        ap (own_count i (labels_in kids ++ labels_in rest))
            (map-append length (step_lists w kids ys) (step_lists w rest xs)),
        own_append (labels_in kids) (labels_in rest) (map length (step_lists w kids ys))
            (map length (step_lists w rest xs)) (counted_steps kids ys),
        own_steps kids ys,
        own_steps rest xs,
      )

  steps_counted : (f : Option Forest) (xs : List Value)
      → own_count i (labels_of f) (counts_of w f xs)
      ≡ length (flat_map (visits_of w ((each_own i).steps w) f) xs)
  steps_counted None xs = sym (ap length (flat_map-nothing xs))
  steps_counted (Some f) xs = own_steps f xs

  task_groups : (g : Grouping) (task : Task) → groups_count i g task
      ≡ length (flat_map ((each_own i).groups g.origin g.last) task.elements)
  task_groups g task =
      let own : Bool = g.last && (g.origin == i) in
      sym (ap length (flat_if own (λ x. x ∷ []) task.elements)
      ∙ length_if own (flat_map (λ x. x ∷ []) task.elements)
      ∙ ap (λ l. cond own (length l) 0) (flat_map-itself task.elements))

-- ---- of many tasks

abbrev IsCount : {X Y : Type 0} → (X → List ℕ) → (X → List Y) → Type 0
IsCount {X} a b = (x : X) → sum (a x) ≡ length (b x)

flat_counted : {X Y : Type 0} (a : X → List ℕ) (b : X → List Y) → IsCount a b → (xs : List X)
    → sum (flat_map a xs) ≡ length (flat_map b xs)
flat_counted a b h [] = refl
flat_counted a b h (x ∷ xs) =
    omega (
      arith,
      sum_append (a x) (flat_map a xs),
      length-append (b x) (flat_map b xs),
      h x,
      flat_counted a b h xs,
    )

joined_counted : {Y : Type 0} (a : ℕ → List ℕ) (b : ℕ → List Y) → IsCount a b → (n : ℕ)
    → sum (concatenated a n) ≡ length (concatenated b n)
joined_counted a b h zero = refl
joined_counted a b h (suc n) =
    omega (
      arith,
      sum_append (concatenated a n) (a n),
      length-append (concatenated b n) (b n),
      h n,
      joined_counted a b h n,
    )

-- the counts of each task are how many things are said of it
pub record Counts {Y : Type 0} (a : SaysOfTasks ℕ) (b : SaysOfTasks Y) : Type 0 where
  pub maps : IsCount a.maps b.maps
  pub reduces : (g : Grouping) → IsCount (a.reduces g) (b.reduces g)
  pub objects : (o : ℕ) (l : Bool) → IsCount (a.objects o l) (b.objects o l)

module _ {Y : Type 0} (a : SaysOfTasks ℕ) (b : SaysOfTasks Y) (counts : Counts a b) (w : World)
    (n : Split) where
  stage_counted : (t : Lists) (s : Stage)
      → sum (stage_tasks a w n t s) ≡ length (stage_tasks b w n t s)
  stage_counted t (Flatten takes) = refl
  stage_counted t (Operate takes o l d) = counts.objects o l (object_made w t o d takes)
  stage_counted t (Mscr s) =
      omega (
        arith,
        sum_append (map_phase a.maps n t s) (reduce_phase a.reduces w n t s),
        length-append (map_phase b.maps n t s) (reduce_phase b.reduces w n t s),
        flat_counted (λ c. concatenated (λ i. a.maps (map_task n t c i)) n.shards)
            (λ c. concatenated (λ i. b.maps (map_task n t c i)) n.shards)
            (λ c. joined_counted (λ i. a.maps (map_task n t c i)) (λ i. b.maps (map_task n t c i))
            (λ i. counts.maps (map_task n t c i)) n.shards) s.inputs,
        flat_counted (λ g. concatenated (λ p. a.reduces g (reduce_task w n t s.inputs g p))
            n.partitions)
            (λ g. concatenated (λ p. b.reduces g (reduce_task w n t s.inputs g p)) n.partitions)
            (λ g. joined_counted (λ p. a.reduces g (reduce_task w n t s.inputs g p))
            (λ p. b.reduces g (reduce_task w n t s.inputs g p))
            (λ p. counts.reduces g (reduce_task w n t s.inputs g p)) n.partitions)
            (groupings s.outputs),
      )

  pub tasks_counted : (k : ℕ) (ss : List Stage) (t : Lists)
      → sum (tasks_from a w n k ss t) ≡ length (tasks_from b w n k ss t)
  tasks_counted k [] t = refl
  tasks_counted k (s ∷ ss) t =
      let now : Lists = with_lists k (result_lists w n t s) t in
      omega (
        arith,
        sum_append (stage_tasks a w n t s) (tasks_from a w n (suc k) ss now),
        length-append (stage_tasks b w n t s) (tasks_from b w n (suc k) ss now),
        stage_counted t s,
        tasks_counted (suc k) ss now,
      )

sum_one : (n : ℕ) → sum (n ∷ []) ≡ n
sum_one n = let e : 0 + n ≡ n = omega arith in e

task_steps : (w : World) (i : ℕ) (task : Task) → steps_count w i task
    ≡ length (flat_map
    (visits_of (world_for w task) ((each_own i).steps (world_for w task)) task.does) task.elements)
task_steps w i task = steps_counted (world_for w task) i task.does task.elements

pub own_counts : (w : World) (i : ℕ) → Counts (task_counts w i) (each_says w (each_own i))
own_counts w i = record {
  maps = λ task. sum_one (steps_count w i task) ∙ task_steps w i task;
  reduces = λ g task.
      sum_one (groups_count i g task + steps_count w i task)
      ∙ (λ k. task_groups w i g task k + task_steps w i task k)
      ∙ sym (length-append
      (flat_map ((each_own i).groups g.origin g.last) task.elements)
      (flat_map (visits_of (world_for w task) ((each_own i).steps (world_for w task)) task.does)
      task.elements));
  objects = λ o l c.
      sum_one (cond (l && (o == i)) (length c.bag) 0) ∙ sym (length_if (l && (o == i)) c.bag);
}
