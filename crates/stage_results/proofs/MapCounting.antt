-- What the steps of map tasks have counted, task by task.
use Rattle.std.proofs.Common.{◌≡◌, ℕ, ◌+◌, ◌*◌, ◌<◌, ◌/◌, ◌%◌, List, [], ◌∷◌, length, map, get_or, Option, refl, sym, ap, ◌∙◌, subst, add-one, sum}
use Rattle.std.specs.Option.{IsSomeAnd, option_map_or}
use Rattle.std.proofs.Math.Nat.{div-lt_iff_lt-mul}
use Rattle.std.proofs.lemmas.List.{get_or-map}
use Rattle.std.proofs.lemmas.List.Sums.{sum_by_push}
use Rattle.std.proofs.lemmas.Option.{slice_get_read, get_or_from_slice_get}
use Rattle.shards.specs.Shards.{concatenated}
use Rattle.shuffle_parts.specs.declared.out.MapOut.{MapOut}
use Rattle.exec_graph.specs.World.{World}
use Rattle.exec_plan.specs.declared.plan.InChannel.{InChannel}
use Rattle.exec_plan.specs.declared.plan.Mscr.{Mscr}
use Rattle.stage_phases.specs.of_map_shard.Tables.{split_into}
use Rattle.phase_outs.proofs.Placing.{some_at}
use Rattle.step_counts.specs.Owners.{owners_of}
use Rattle.step_counts.specs.Sizes.{HaveGrown}
use Rattle.step_counts.proofs.Growing.{grown_as, grown_then}
use Rattle.task_lists.specs.Outs.{AreMapOuts, IsMapOut, kept_counts}
use Rattle.task_lists.specs.Plans.{steps_count}
use Rattle.task_lists.specs.Tasks.{Lists, Split, Task, map_count, map_task, map_task_at, no_task}

-- a sum with one number more
pub sum_more : (f : ℕ → ℕ) (k : ℕ)
    → sum (concatenated (λ j. f j ∷ []) k) + f k ≡ sum (concatenated (λ j. f j ∷ []) (k + 1))
sum_more f k =
    sym (sum_by_push (λ x. x) (concatenated (λ j. f j ∷ []) k) (f k))
    ∙ ap (λ n. sum (concatenated (λ j. f j ∷ []) n)) (sym (add-one k))

module _ (s : Mscr) (outs : List MapOut) (shards : ℕ) (some : 0 < shards)
    (count : length outs ≡ length s.inputs * shards) (w : World) (partitions : ℕ) (t : Lists)
    (made : AreMapOuts w (split_into shards partitions) t s outs) where
  abbrev n : Split
  n = split_into shards partitions

  abbrev pub counted : ℕ → ℕ → ℕ
  counted i k = sum (concatenated (λ j. steps_count w i (map_task_at n t s j) ∷ []) k)

  owners_are : (k : ℕ) (owners : List (Option ℕ)) → k < length outs
      → owners ≡ get_or (map (λ (c : InChannel). owners_of c.does) s.inputs) (k / shards) owners
      → owners ≡ owners_of (map_task_at n t s k).does
  owners_are k owners below is =
      let within : k / shards < length s.inputs =
      (div-lt_iff_lt-mul some).1 (subst (λ m. k < m) count below) in
      let here = some_at s.inputs (k / shards) within in
      let read = get_or_from_slice_get s.inputs (k / shards) here.0 here.0 here.1 in
      let does : Option InChannel → Task =
      λ o. option_map_or (λ c. map_task n t c (k % shards)) o no_task in
      is ∙ get_or-map (λ (c : InChannel). owners_of c.does) s.inputs (k / shards) here.0 owners
      within
      ∙ ap (λ (c : InChannel). owners_of c.does) read
      ∙ ap (λ o. owners_of (does o).does) (sym here.1)

  counts_are : (k : ℕ) (out : MapOut) → k < length outs → out ≡ get_or outs k out
      → out.counts ≡ kept_counts w (map_task_at n t s k)
  counts_are k out below is =
      let at = slice_get_read outs (length outs) k out refl below is in
      let within : k < map_count n s = subst (λ m. k < m) count below in
      let each = subst (λ o. IsSomeAnd o (IsMapOut w n t s (k / shards) (k % shards))) at
      (made.each k within) in each.counts

  pub counted_more : (k : ℕ) (out : MapOut) (owners : List (Option ℕ)) (counts : List ℕ)
      (olds now next : List ℕ) → k < length outs → out ≡ get_or outs k out
      → owners ≡ get_or (map (λ (c : InChannel). owners_of c.does) s.inputs) (k / shards) owners
      → counts ≡ out.counts
      → ((v : World) (task : Task) → owners ≡ owners_of task.does → counts ≡ kept_counts v task
      → HaveGrown (λ i. steps_count v i task) now next)
      → HaveGrown (λ i. counted i k) olds now → HaveGrown (λ i. counted i (k + 1)) olds next
  counted_more k out owners counts olds now next below is at same step so_far =
      let task = map_task_at n t s k in
      let more = step w task (owners_are k owners below at) (same ∙ counts_are k out below is) in
      grown_as (λ i. counted i k + steps_count w i task) (λ i. counted i (k + 1)) olds next
      (λ i. sum_more (λ j. steps_count w i (map_task_at n t s j)) k)
      (grown_then (λ i. counted i k) (λ i. steps_count w i task) olds now next so_far more)
