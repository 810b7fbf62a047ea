-- What is gathered of the outs of all map tasks.
use Rattle.std.proofs.Common.{◌≡◌, ◌<◌, ◌/◌, ◌%◌, ℕ, List, [], ◌∷◌, length, map, Option, Some, None, sym, ap, ◌∙◌, subst, append-nil}
use Rattle.std.specs.List.{flat_map, slice_get, AllZip}
use Rattle.std.specs.Option.{IsSomeAnd, MatchOption}
use Rattle.std.specs.Prelude.{option_and_then}
use Rattle.std.proofs.lemmas.Slice.Zip.{AllZip-left}
use Rattle.flume_value.specs.declared.value.Value.{Value}
use Rattle.bag_groups.specs.Combining.{groups_in}
use Rattle.bag_groups.specs.Groups.{grouped}
use Rattle.bag_groups.specs.Pairs.{pairs_of}
use Rattle.combine_table.specs.declared.comb.Comb.{Comb}
use Rattle.shuffle_parts.specs.of_partial_tables.Merges.{StandFor, merged_by_key, finished_each, combined_groups}
use Rattle.shuffle_parts.proofs.of_partial_tables.Merged.{merged-accumulated}
use Rattle.shuffle_parts.proofs.of_partial_tables.Finishing.{finished-accumulated}
use Rattle.shards.specs.Shards.{concatenated}
use Rattle.shards.proofs.Joined.{flat_map-joined, joined_same}
use Rattle.shuffle_parts.specs.declared.out.MapOut.{MapOut}
use Rattle.shuffle_parts.specs.declared.out.Sent.{Sent}
use Rattle.shuffle_parts.specs.declared.out.Sent.TheVariants.{Passed}
use Rattle.shuffle_parts.specs.Outs.{sent_at, passed_at, passed_in, all_passed, all_pairs, all_partials, ArePairsOf, ArePartialsOf}
use Rattle.shuffle_parts.specs.Partitions.{is_in_part, pairs_in_part}
use Rattle.shuffle_parts.proofs.Finding.{found_zip}
use Rattle.shuffle_parts.proofs.Gathered.{all_pairs-are, all_partials-stand}
use Rattle.shuffle_parts.proofs.Passing.{grouped-passing}
use Rattle.exec_plan.specs.of_exec_graph.World.{World}
use Rattle.exec_plan.specs.of_exec_graph.Calls.{called}
use Rattle.exec_plan.specs.of_exec_graph.declared.step.Does.TheVariants as does
use Rattle.exec_plan.specs.declared.plan.Grouping.{Grouping}
use Rattle.exec_plan.specs.declared.plan.Mscr.{Mscr}
use Rattle.exec_plan.specs.declared.plan.OutChannel.{OutChannel}
use Rattle.exec_plan.specs.declared.plan.OutChannel.TheVariants.{Group, Pass}
use Rattle.exec_plan.specs.declared.plan.Take.{Take}
use Rattle.task_lists.specs.Tasks.{Split, Lists, given_to, map_task_of, gathered, reduce_task}
use Rattle.task_lists.specs.Outs.{answers_of, AreSentPairs, IsSent, IsMapOut, AreMapOuts}
use Rattle.task_lists.proofs.Answered.{groups_answered}
use Rattle.task_lists.proofs.Numbers.{joined_two, listed, zip_listed}

some_weaker : {A : Type 0} (P Q : A → Type 0) → ((x : A) → P x → Q x) → (o : Option A)
    → IsSomeAnd o P → IsSomeAnd o Q
some_weaker P Q f None h = absurd h
some_weaker P Q f (Some x) h = f x h

module _ (w : World) (n : Split) (t : Lists) (s : Mscr) (outs : List MapOut) (r : ℕ)
    (some : 0 < n.shards) (made : AreMapOuts w n t s outs) where
  -- what map task k gives a channel that takes these
  abbrev given_by : List Take → ℕ → List Value
  given_by takes k =
      given_to w (map_task_of n t s.inputs (k / n.shards) (k % n.shards)) (k / n.shards) takes

  given_all : (takes : List Take)
      → flat_map (λ pairs. pairs) (listed (given_by takes) (length outs))
      ≡ gathered w n t s.inputs takes
  given_all takes =
      let itself = λ (pairs : List Value). pairs in
      flat_map-joined itself (λ k. given_by takes k ∷ []) (length outs)
      ∙ joined_same (λ k. flat_map itself (given_by takes k ∷ [])) (given_by takes)
      (λ k. append-nil (given_by takes k)) (length outs)
      ∙ ap (concatenated (given_by takes)) made.count
      ∙ joined_two (λ m i. given_to w (map_task_of n t s.inputs m i) m takes) (length s.inputs)
      n.shards some

  -- what map task k sends to the channel
  sent_of : (o : OutChannel) → slice_get s.outputs r ≡ Some o → (k : ℕ) (out : MapOut)
      → IsMapOut w n t s (k / n.shards) (k % n.shards) out
      → IsSomeAnd (sent_at r out) (IsSent n.partitions (λ takes. given_by takes k) o)
  sent_of o at k out is =
      let R = IsSent n.partitions (λ takes. given_by takes k) in
      subst (λ c. MatchOption c (Unit {0}) (λ x. IsSomeAnd (slice_get out.sent r) (R x))) at
      (AllZip-left R s.outputs out.sent is.sent r)

  zipped : (o : OutChannel) (takes : List Take) (R : MapOut → List Value → Type 0)
      → slice_get s.outputs r ≡ Some o
      → ((k : ℕ) (out : MapOut)
      → IsSomeAnd (sent_at r out) (IsSent n.partitions (λ takes. given_by takes k) o)
      → R out (given_by takes k))
      → AllZip R outs (listed (given_by takes) (length outs))
  zipped o takes R at f =
      zip_listed R outs (given_by takes) (λ k below.
      some_weaker (IsMapOut w n t s (k / n.shards) (k % n.shards)) (λ out. R out (given_by takes k))
      (λ out is. f k out (sent_of o at k out is)) (slice_get outs k)
      (made.each k (subst (λ l. k < l) made.count below)))

  -- ---- values that pass through

  passed_is : (o : Option Sent) (values : List Value)
      → IsSomeAnd o (λ sent. sent ≡ Passed values) → option_and_then passed_in o ≡ Some values
  passed_is None values h = absurd h
  passed_is (Some sent) values h = ap passed_in h

  pub passed_whole : (k : Take) (number : ℕ) → slice_get s.outputs r ≡ Some (Pass k number)
      → all_passed outs r ≡ Some (gathered w n t s.inputs (k ∷ []))
  passed_whole k number at =
      let takes : List Take = k ∷ [] in
      found_zip (passed_at r) outs (listed (given_by takes) (length outs))
      (zipped (Pass k number) takes (λ out values. passed_at r out ≡ Some values) at
      (λ j out sent. passed_is (sent_at r out) (given_by takes j) sent))
      ∙ ap Some (given_all takes)

  -- ---- pairs and accumulators

  pairs_are : (o : Option Sent) (partitions : ℕ) (pairs : List Value) (lifted : Option Comb)
      → lifted ≡ None → IsSomeAnd o (λ sent. AreSentPairs lifted partitions sent pairs)
      → ArePairsOf partitions o pairs
  pairs_are None partitions pairs lifted e h = absurd h
  pairs_are (Some sent) partitions pairs lifted e h =
      subst (λ l. AreSentPairs l partitions sent pairs) e h

  partials_are : (o : Option Sent) (partitions : ℕ) (pairs : List Value) (lifted : Option Comb)
      (c : Comb) → lifted ≡ Some c
      → IsSomeAnd o (λ sent. AreSentPairs lifted partitions sent pairs)
      → ArePartialsOf c partitions o pairs
  partials_are None partitions pairs lifted c e h = absurd h
  partials_are (Some sent) partitions pairs lifted c e h =
      subst (λ l. AreSentPairs l partitions sent pairs) e h

  -- all pairs of the partition
  pub pairs_whole : (p : ℕ) (g : Grouping) → p < n.partitions
      → slice_get s.outputs r ≡ Some (Group g) → g.lifted ≡ None
      → all_pairs outs r p ≡ Some (pairs_in_part n.partitions p (gathered w n t s.inputs g.takes))
  pairs_whole p g below at unlifted =
      let P = n.partitions in
      all_pairs-are P r p outs (listed (given_by g.takes) (length outs)) below
      (zipped (Group g) g.takes (λ out pairs. ArePairsOf P (sent_at r out) pairs) at
      (λ k out sent. pairs_are (sent_at r out) P (given_by g.takes k) g.lifted unlifted sent))
      ∙ ap (λ l. Some (pairs_in_part P p l)) (given_all g.takes)

  -- accumulators that stand for them
  pub partials_whole : (p : ℕ) (g : Grouping) (c : Comb) → p < n.partitions
      → slice_get s.outputs r ≡ Some (Group g) → g.lifted ≡ Some c
      → IsSomeAnd (all_partials outs r p) (λ partials. StandFor c partials
      (pairs_of (pairs_in_part n.partitions p (gathered w n t s.inputs g.takes))))
  partials_whole p g c below at lifted =
      let P = n.partitions in
      subst
      (λ l. IsSomeAnd (all_partials outs r p) (λ ps. StandFor c ps
      (pairs_of (pairs_in_part P p l))))
      (given_all g.takes)
      (all_partials-stand c P r p outs (listed (given_by g.takes) (length outs)) below
      (zipped (Group g) g.takes (λ out pairs. ArePartialsOf c P (sent_at r out) pairs) at
      (λ k out sent. partials_are (sent_at r out) P (given_by g.takes k) g.lifted c lifted sent)))

  pub groups_whole : (p : ℕ) (g : Grouping) → p < n.partitions
      → slice_get s.outputs r ≡ Some (Group g) → g.lifted ≡ None
      → IsSomeAnd (all_pairs outs r p)
      (λ pairs. grouped pairs ≡ (reduce_task w n t s.inputs g p).elements)
  groups_whole p g below at unlifted =
      subst (λ o. IsSomeAnd o (λ l. grouped l ≡ (reduce_task w n t s.inputs g p).elements))
      (sym (pairs_whole p g below at unlifted))
      (grouped-passing (is_in_part n.partitions p) (gathered w n t s.inputs g.takes))

  pub combined_whole : (p : ℕ) (g : Grouping) (c : Comb) → p < n.partitions
      → slice_get s.outputs r ≡ Some (Group g) → g.lifted ≡ Some c
      → IsSomeAnd (all_partials outs r p) (λ partials. finished_each c (merged_by_key c partials)
      ≡ combined_groups c (groups_in (reduce_task w n t s.inputs g p).elements))
  combined_whole p g c below at lifted =
      let all : List Value = gathered w n t s.inputs g.takes in
      let pairs : List Value = pairs_in_part n.partitions p all in
      some_weaker (λ l. StandFor c l (pairs_of pairs))
      (λ l. finished_each c (merged_by_key c l)
      ≡ combined_groups c (groups_in (reduce_task w n t s.inputs g p).elements))
      (λ l stand.
      ap (finished_each c) (merged-accumulated c l (pairs_of pairs) stand)
      ∙ finished-accumulated c pairs
      ∙ ap (λ l. combined_groups c (groups_in l)) (grouped-passing (is_in_part n.partitions p) all))
      (all_partials outs r p) (partials_whole p g c below at lifted)

  -- so the root of a lifted reducer answers of the groups what their accumulators finish as
  pub answered_whole : (p : ℕ) (g : Grouping) (c : Comb) → p < n.partitions
      → slice_get s.outputs r ≡ Some (Group g) → g.lifted ≡ Some c
      → IsSomeAnd (all_partials outs r p)
      (λ partials. answers_of (finished_each c (merged_by_key c partials))
      ≡ map (called w (does.Combine c)) (reduce_task w n t s.inputs g p).elements)
  answered_whole p g c below at lifted =
      let all : List Value = gathered w n t s.inputs g.takes in
      let same = grouped-passing (is_in_part n.partitions p) all in
      some_weaker
      (λ l. finished_each c (merged_by_key c l)
      ≡ combined_groups c (groups_in (reduce_task w n t s.inputs g p).elements))
      (λ l. answers_of (finished_each c (merged_by_key c l))
      ≡ map (called w (does.Combine c)) (reduce_task w n t s.inputs g p).elements)
      (λ l finished.
      ap answers_of finished
      ∙ ap (λ l. answers_of (combined_groups c (groups_in l))) (sym same)
      ∙ groups_answered w c (pairs_in_part n.partitions p all)
      ∙ ap (map (called w (does.Combine c))) same)
      (all_partials outs r p) (combined_whole p g c below at lifted)
