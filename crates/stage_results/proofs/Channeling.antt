-- The results of a grouping channel, out by out.
use Rattle.std.proofs.Common.{◌≡◌, ℕ, zero, suc, ◌+◌, ◌<◌, List, [], ◌∷◌, ◌++◌, length, map, drop, Some, refl, sym, ap, ◌∙◌, subst, arith, add-one, sum, slice_get}
use Rattle.std.specs.Option.{IsSomeAnd}
use Rattle.std.proofs.lemmas.Option.{none-some, same_Some, slice_get_within}
use Rattle.flume_value.specs.declared.value.Value.{Value}
use Rattle.shards.specs.Shards.{concatenated}
use Rattle.exec_graph.specs.World.{World}
use Rattle.exec_plan.specs.Channels.{output_numbers_of}
use Rattle.exec_plan.specs.declared.plan.Grouping.{Grouping}
use Rattle.exec_plan.specs.declared.plan.InChannel.{InChannel}
use Rattle.phase_outs.proofs.Placing.{some_at}
use Rattle.stage_phases.specs.of_reduce_part.declared.out.ReduceOut.{ReduceOut}
use Rattle.stage_phases.specs.Outs.{IsOutOf}
use Rattle.step_counts.specs.Sizes.{HaveGrown}
use Rattle.step_counts.proofs.Growing.{grown_as, grown_then}
use Rattle.task_lists.specs.Lists.{reduced_lists}
use Rattle.task_lists.specs.Plans.{groups_count, steps_count, task_counts}
use Rattle.task_lists.specs.Tasks.{Lists, Split, Task, reduce_task, task_gives}
use Rattle.stage_results.specs.inner.Channels.{AreOutsOf, all_joined, each_joined}
use Rattle.stage_results.proofs.MapCounting.{sum_more}

pub drop_at : {A : Type 0} (xs : List A) (p : ℕ) (x : A) → slice_get xs p ≡ Some x
    → drop p xs ≡ x ∷ drop (suc p) xs
drop_at [] p x e = absurd (none-some x e)
drop_at (y ∷ xs) zero x e = ap (λ z. z ∷ xs) (same_Some y x e)
drop_at (y ∷ xs) (suc p) x e = drop_at xs p x e

-- ---- the next out

module _ (partitions : ℕ) (here behind items : List ReduceOut) (p : ℕ)
    (count : length here ≡ partitions) (below : p < partitions)
    (left : items ≡ drop p here ++ behind) where
  -- what follows it
  abbrev pub later : List ReduceOut
  later = drop (p + 1) here ++ behind

  pub record IsNext (out : ReduceOut) : Type 0 where
    pub at : slice_get here p ≡ Some out
    pub first : items ≡ out ∷ later
    pub rest : drop p here ≡ out ∷ drop (p + 1) here

  pub next_out : (out : ReduceOut) × IsNext out
  next_out =
      let x = some_at here p (omega arith) in
      let rest : drop p here ≡ x.0 ∷ drop (p + 1) here =
      drop_at here p x.0 x.1 ∙ ap (λ n. x.0 ∷ drop n here) (sym (add-one p)) in
      (x.0, record { at = x.1; first = left ∙ ap (λ l. l ++ behind) rest; rest = rest })

-- ---- lists of outputs

zipped : {A : Type 0} (f g : ℕ → List A) (ns : List ℕ)
    → each_joined (map f ns) (map g ns) ≡ map (λ j. f j ++ g j) ns
zipped f g [] = refl
zipped f g (n ∷ ns) = ap (λ l. (f n ++ g n) ∷ l) (zipped f g ns)

module _ (nums : List ℕ) (give : ℕ → ℕ → List Value) where
  abbrev of_first : ℕ → List (List Value)
  of_first k = map (λ j. concatenated (λ q. give q j) k) nums

  joined_on : (k : ℕ) (outs : List ReduceOut) (lists : List (List Value)) → lists ≡ of_first k
      → ((q : ℕ) (o : ReduceOut) → slice_get outs q ≡ Some o → o.outputs ≡ map (give (k + q)) nums)
      → all_joined lists outs ≡ of_first (k + length outs)
  joined_on k [] lists e f =
      let same : k ≡ k + 0 = omega arith in e ∙ ap of_first same
  joined_on k (o ∷ os) lists e f =
      let here : k + 0 ≡ k = omega arith in
      let outputs : o.outputs ≡ map (give k) nums =
      f 0 o refl ∙ ap (λ n. map (give n) nums) here in
      let more : each_joined lists o.outputs ≡ of_first (suc k) =
      (λ i. each_joined (e i) (outputs i))
      ∙ zipped (λ j. concatenated (λ q. give q j) k) (give k) nums in
      let long : suc k + length os ≡ k + suc (length os) = omega arith in
      joined_on (suc k) os (each_joined lists o.outputs) more
      (λ q x at. f (suc q) x at
      ∙ (let step : k + suc q ≡ suc k + q = omega arith in ap (λ n. map (give n) nums) step))
      ∙ ap of_first long

  joined_all : (outs : List ReduceOut) → 0 < length outs
      → ((q : ℕ) (o : ReduceOut) → slice_get outs q ≡ Some o → o.outputs ≡ map (give q) nums)
      → all_joined [] outs ≡ of_first (length outs)
  joined_all [] some f = absurd (omega arith)
  joined_all (o ∷ os) some f =
      let long : 1 + length os ≡ suc (length os) = omega arith in
      joined_on 1 os o.outputs (f 0 o refl)
      (λ q x at. f (suc q) x at
      ∙ (let step : suc q ≡ 1 + q = omega arith in ap (λ n. map (give n) nums) step))
      ∙ ap of_first long

-- ---- of a channel

module _ (w : World) (n : Split) (t : Lists) (ins : List InChannel) (g : Grouping)
    (here : List ReduceOut) (are : AreOutsOf w n t ins g here) where
  out_is : (p : ℕ) (out : ReduceOut) → p < n.partitions → slice_get here p ≡ Some out
      → IsOutOf w (reduce_task w n t ins g p) out
  out_is p out below at =
      subst (λ o. IsSomeAnd o (IsOutOf w (reduce_task w n t ins g p))) at (are.each p below)

  pub channel_joined : 0 < n.partitions
      → all_joined [] here ≡ map (reduced_lists w n t ins g) (output_numbers_of g.does)
  channel_joined some =
      let count = are.count in
      let give : ℕ → ℕ → List Value = λ p j. task_gives w (reduce_task w n t ins g p) j in
      joined_all (output_numbers_of g.does) give here (omega arith)
      (λ q o at.
      let within = slice_get_within here q o at in
      (out_is q o (omega arith) at).outputs)
      ∙ ap (λ k. map (λ j. concatenated (λ p. give p j) k) (output_numbers_of g.does)) are.count

  abbrev pub counted : ℕ → ℕ → ℕ
  counted i k = sum (concatenated (λ p. (task_counts w i).reduces g (reduce_task w n t ins g p)) k)

  pub counted_more : (p : ℕ) (out : ReduceOut) (olds now next : List ℕ) → p < n.partitions
      → slice_get here p ≡ Some out
      → ((v : World) (task : Task) → g.does ≡ task.does → IsOutOf v task out
      → HaveGrown (λ i. groups_count i g task + steps_count v i task) now next)
      → HaveGrown (λ i. counted i p) olds now → HaveGrown (λ i. counted i (p + 1)) olds next
  counted_more p out olds now next below at step so_far =
      let task = reduce_task w n t ins g p in
      let f : ℕ → ℕ → ℕ = λ i q. groups_count i g (reduce_task w n t ins g q)
      + steps_count w i (reduce_task w n t ins g q) in
      grown_as (λ i. counted i p + f i p) (λ i. counted i (p + 1)) olds next
      (λ i. sum_more (f i) p)
      (grown_then (λ i. counted i p) (λ i. f i p) olds now next so_far
      (step w task refl (out_is p out below at)))
