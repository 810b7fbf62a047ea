-- The output channels of a stage, one after another.
use Rattle.std.proofs.Common.{◌≡◌, ℕ, zero, suc, ◌+◌, ◌*◌, ◌<◌, ◌≤◌, ◌/◌, ◌%◌, ◌^◌, List, [], ◌∷◌, ◌++◌, length, take, drop, get_or, Option, Some, refl, sym, ap, ◌∙◌, subst, arith, add-one, sum, slice_get, append_assoc, append-nil, take-append-drop, length-drop}
use Rattle.std.specs.List.{flat_map}
use Rattle.std.specs.Option.{IsSomeAnd, option_map_or}
use Rattle.std.proofs.Math.ListN.{drop_of_length-le}
use Rattle.std.proofs.Math.Nat.{add-div_right, add-mod_right, div-eq_of_lt, mod-eq_of_lt}
use Rattle.std.proofs.lemmas.List.{length-take}
use Rattle.std.proofs.lemmas.List.Sums.{sum_by-append}
use Rattle.flume_value.specs.declared.value.Value.{Value}
use Rattle.shards.specs.Shards.{concatenated}
use Rattle.exec_graph.specs.World.{World}
use Rattle.exec_plan.specs.declared.plan.Grouping.{Grouping}
use Rattle.exec_plan.specs.declared.plan.InChannel.{InChannel}
use Rattle.exec_plan.specs.declared.plan.Mscr.{Mscr}
use Rattle.exec_plan.specs.declared.plan.OutChannel.{OutChannel}
use Rattle.exec_plan.specs.declared.plan.OutChannel.TheVariants.{Group, Pass}
use Rattle.stage_phases.specs.of_reduce_part.declared.out.ReduceOut.{ReduceOut}
use Rattle.stage_phases.specs.Outs.{AreReduceOuts, IsOutOf}
use Rattle.step_counts.specs.Sizes.{HaveGrown}
use Rattle.step_counts.proofs.Growing.{grown_as, grown_not, grown_then}
use Rattle.task_lists.specs.Lists.{given_lists}
use Rattle.task_lists.specs.Plans.{task_counts}
use Rattle.task_lists.specs.Tasks.{Lists, Split, Task, groupings, no_task, reduce_phase, reduce_task}
use Rattle.stage_results.specs.inner.Along.{AreAlong}
use Rattle.stage_results.specs.inner.Channels.{AreOutsAt, AreOutsFrom, channel_counts}
use Rattle.stage_results.proofs.Channeling.{drop_at}

-- ---- places of lists

get_take : {A : Type 0} (n : ℕ) (xs : List A) (k : ℕ) → k < n
    → slice_get (take n xs) k ≡ slice_get xs k
get_take zero xs k h = absurd (omega arith)
get_take (suc n) [] k h = refl
get_take (suc n) (x ∷ xs) zero h = refl
get_take (suc n) (x ∷ xs) (suc k) h = get_take n xs k (omega arith)

get_drop : {A : Type 0} (n : ℕ) (xs : List A) (k : ℕ)
    → slice_get (drop n xs) k ≡ slice_get xs (k + n)
get_drop zero xs k = let same : k ≡ k + 0 = omega arith in ap (slice_get xs) same
get_drop (suc n) [] k = refl
get_drop (suc n) (x ∷ xs) k =
    let next : suc (k + n) ≡ k + suc n = omega arith in
    get_drop n xs k ∙ ap (slice_get (x ∷ xs)) next

-- ---- outs by number, channel by channel

module _ (w : World) (n : Split) (t : Lists) (ins : List InChannel) (some : 0 < n.partitions) where
  task_of : Option Grouping → ℕ → Task
  task_of o p = option_map_or (λ g. reduce_task w n t ins g p) o no_task

  abbrev Numbered : List Grouping → List ReduceOut → Type 0
  Numbered gs outs = (k : ℕ) → k < length gs * n.partitions
      → IsSomeAnd (slice_get outs k)
      (IsOutOf w (task_of (slice_get gs (k / n.partitions)) (k % n.partitions)))

  first_of : (g : Grouping) (gs : List Grouping) (outs : List ReduceOut)
      → Numbered (g ∷ gs) outs → (p : ℕ) → p < n.partitions
      → IsSomeAnd (slice_get (take n.partitions outs) p) (IsOutOf w (reduce_task w n t ins g p))
  unfolding task_of
  first_of g gs outs h p below =
      let within : p < suc (length gs) * n.partitions = grind arith in
      let channel : p / n.partitions ≡ 0 = div-eq_of_lt below in
      let part : p % n.partitions ≡ p = mod-eq_of_lt below in
      subst (λ o. IsSomeAnd o (IsOutOf w (reduce_task w n t ins g p)))
      (sym (get_take n.partitions outs p below))
      (subst (λ (x : ℕ × ℕ). IsSomeAnd (slice_get outs p)
      (IsOutOf w (task_of (slice_get (g ∷ gs) x.0) x.1))) (λ i. (channel i, part i)) (h p within))

  rest_of : (g : Grouping) (gs : List Grouping) (outs : List ReduceOut)
      → Numbered (g ∷ gs) outs → Numbered gs (drop n.partitions outs)
  rest_of g gs outs h k below =
      let within : k + n.partitions < suc (length gs) * n.partitions = grind arith in
      let channel : (k + n.partitions) / n.partitions ≡ suc (k / n.partitions) =
      add-div_right k some ∙ add-one (k / n.partitions) in
      let part : (k + n.partitions) % n.partitions ≡ k % n.partitions =
      add-mod_right k n.partitions in
      subst (λ o. IsSomeAnd o
      (IsOutOf w (task_of (slice_get gs (k / n.partitions)) (k % n.partitions))))
      (sym (get_drop n.partitions outs k))
      (subst (λ (x : ℕ × ℕ). IsSomeAnd (slice_get outs (k + n.partitions))
      (IsOutOf w (task_of (slice_get (g ∷ gs) x.0) x.1))) (λ i. (channel i, part i))
      (h (k + n.partitions) within))

  outs_from : (cs : List OutChannel) (outs : List ReduceOut)
      → length outs ≡ length (groupings cs) * n.partitions → Numbered (groupings cs) outs
      → AreOutsFrom w n t ins cs outs
  outs_from [] outs e h = none outs e where
    none : (xs : List ReduceOut) → length xs ≡ 0 * n.partitions → xs ≡ []
    none [] e = refl
    none (x ∷ xs) e = absurd (grind arith)
  outs_from (Pass k number ∷ cs) outs e h = ([], outs, refl, refl, outs_from cs outs e h)
  outs_from (Group g ∷ cs) outs e h =
      let P = n.partitions in
      let more : length outs ≡ P + length (groupings cs) * P = grind arith in
      let few : P ≤ length outs = omega arith in
      let left : length (drop P outs) ≡ length (groupings cs) * P =
      let l = length-drop P outs in omega arith in (
        take P outs,
        drop P outs,
        sym (take-append-drop P outs),
        record {
          count = let l = length-take P outs in omega arith;
          each = first_of g (groupings cs) outs h;
        },
        outs_from cs (drop P outs) left (rest_of g (groupings cs) outs h),
      )

  pub stage_outs : (s : Mscr) (outs : List ReduceOut) → ins ≡ s.inputs
      → AreReduceOuts w n t s outs → AreOutsFrom w n t ins s.outputs outs
  unfolding task_of
  stage_outs s outs same are =
      outs_from s.outputs outs are.count
      (subst (λ i. (k : ℕ) → k < length (groupings s.outputs) * n.partitions
      → IsSomeAnd (slice_get outs k) (IsOutOf w
      (option_map_or (λ g. reduce_task w n t i g (k % n.partitions))
      (slice_get (groupings s.outputs) (k / n.partitions)) no_task))) (sym same) are.each)

-- ---- counts of the channels

counts_are : (w : World) (i : ℕ) (n : Split) (t : Lists) (ins : List InChannel)
    (cs : List OutChannel) → flat_map (channel_counts w i n t ins) cs
    ≡ flat_map (λ g. concatenated (λ p. (task_counts w i).reduces g (reduce_task w n t ins g p))
    n.partitions) (groupings cs)
counts_are w i n t ins [] = refl
counts_are w i n t ins (Group g ∷ cs) =
    ap (λ l. channel_counts w i n t ins (Group g) ++ l) (counts_are w i n t ins cs)
counts_are w i n t ins (Pass k number ∷ cs) = counts_are w i n t ins cs

-- ---- the loop over the channels

module _ (w : World) (n : Split) (t : Lists) (s : Mscr) where
  pub along_none : (outs : List ReduceOut) (lists : List (List Value)) (sizes : List ℕ)
      → AreOutsFrom w n t s.inputs s.outputs outs → lists ≡ []
      → ((i : ℕ) → get_or sizes i 0 < 2 ^ 64) → AreAlong w n t s 0 outs lists sizes sizes
  along_none outs lists sizes are none fits = record {
    outs_left = are;
    lists_left = ap (λ l. l ++ flat_map (given_lists w n t s.inputs) s.outputs) none;
    counted = λ i. 0;
    grown = grown_not sizes fits;
    counts_left = λ i. omega arith;
  }

  module _ (r : ℕ) (outs : List ReduceOut) (lists : List (List Value)) (olds news : List ℕ)
      (c : OutChannel) (a : AreAlong w n t s r outs lists olds news)
      (at : slice_get s.outputs r ≡ Some c) where
    left : drop r s.outputs ≡ c ∷ drop (r + 1) s.outputs
    left = drop_at s.outputs r c at ∙ ap (λ k. c ∷ drop k s.outputs) (sym (add-one r))

    -- its outs, and those behind them
    pub channel_outs : (here : List ReduceOut) × (behind : List ReduceOut) × (outs ≡ here ++ behind)
        × AreOutsAt w n t s.inputs c here
        × AreOutsFrom w n t s.inputs (drop (r + 1) s.outputs) behind
    channel_outs = subst (λ l. AreOutsFrom w n t s.inputs l outs) left a.outs_left

    pub along_more : (behind : List ReduceOut) (given grown : List (List Value)) (next : List ℕ)
        → AreOutsFrom w n t s.inputs (drop (r + 1) s.outputs) behind
        → given ≡ given_lists w n t s.inputs c → grown ≡ lists ++ given
        → HaveGrown (λ i. sum (channel_counts w i n t s.inputs c)) news next
        → AreAlong w n t s (r + 1) behind grown olds next
    along_more behind given grown next outs_left is push more =
        let rest = drop (r + 1) s.outputs in
        let lists_of = flat_map (given_lists w n t s.inputs) in record {
          outs_left = outs_left;
          lists_left =
              ap (λ l. l ++ lists_of rest) (push ∙ ap (λ l. lists ++ l) is)
              ∙ append_assoc lists (given_lists w n t s.inputs c) (lists_of rest)
              ∙ ap (λ l. lists ++ lists_of l) (sym left) ∙ a.lists_left;
          counted = λ i. a.counted i + sum (channel_counts w i n t s.inputs c);
          grown = grown_then a.counted (λ i. sum (channel_counts w i n t s.inputs c)) olds news next
              a.grown more;
          counts_left = λ i.
              let counts = channel_counts w i n t s.inputs c in
              let later = flat_map (channel_counts w i n t s.inputs) rest in
              let both = sum_by-append (λ x. x) counts later in
              let before = a.counts_left i in
              let same = ap (λ l. sum (flat_map (channel_counts w i n t s.inputs) l)) left in
              omega arith;
        }

  module _ (r : ℕ) (outs : List ReduceOut) (lists : List (List Value)) (olds news : List ℕ)
      (a : AreAlong w n t s r outs lists olds news) (end : length s.outputs ≤ r) where
    none_left : drop r s.outputs ≡ []
    none_left = drop_of_length-le s.outputs end

    pub end_lists : lists ≡ flat_map (given_lists w n t s.inputs) s.outputs
    end_lists =
        sym (append-nil lists)
        ∙ ap (λ l. lists ++ flat_map (given_lists w n t s.inputs) l) (sym none_left)
        ∙ a.lists_left

    pub end_grown : HaveGrown (λ i. sum (reduce_phase (task_counts w i).reduces w n t s)) olds news
    end_grown =
        grown_as a.counted (λ i. sum (reduce_phase (task_counts w i).reduces w n t s)) olds news
        (λ i.
        let last = ap (λ l. sum (flat_map (channel_counts w i n t s.inputs) l)) none_left in
        let all = ap sum (counts_are w i n t s.inputs s.outputs) in
        let so_far = a.counts_left i in omega arith)
        a.grown
