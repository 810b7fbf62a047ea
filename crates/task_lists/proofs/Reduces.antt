-- The reduce tasks of a stage, where the lists agree with the collections and no map task traps.
use Rattle.std.proofs.Common.{◌≡◌, ◌<◌, ℕ, List, [], ◌∷◌, ◌++◌, map, refl, sym, ap, ◌∙◌, subst}
use Rattle.std.specs.Prelude.{All}
use Rattle.std.specs.List.{sum_by, flat_map, AllByRecursion}
use Rattle.std.specs.Option.{is_some}
use Rattle.std.proofs.lemmas.List.Elements.{All-from_recursion}
use Rattle.flume_value.specs.declared.value.Value.{Value}
use Rattle.flume_value.specs.declared.value.Value.TheVariants as value
use Rattle.flume_value.specs.Bag.{bag_of}
use Rattle.flume_value.proofs.BagLemmas.{bag_of-settled}
use Rattle.bag_groups.specs.Pairs.{IsPair, pair, pairs_of}
use Rattle.bag_groups.specs.Groups.{grouped, keys_of, values_of}
use Rattle.bag_groups.proofs.Grouping.{grouped-bag_of, grouped-IsSorted}
use Rattle.bag_groups.proofs.PairLemmas.{parts_of-pair}
use Rattle.flume_collection.specs.Collection.{Collection, together, unless_trapped}
use Rattle.shards.specs.Shards.{concatenated}
use Rattle.shards.proofs.Alike.{Alike, alike_back, alike_then, alike_append, alike_bag, bag_alike, alike_flat_map, alike_both, alike_each}
use Rattle.shards.proofs.Joined.{flat_map-joined, joined_alike}
use Rattle.shuffle_parts.specs.Partitions.{pairs_in_part}
use Rattle.shuffle_parts.proofs.Whole.{parts_whole}
use Rattle.exec_plan.specs.of_exec_graph.World.{World}
use Rattle.exec_plan.specs.of_exec_graph.Calls.{trapped}
use Rattle.exec_plan.specs.declared.plan.PlanPlace.{PlanPlace}
use Rattle.exec_plan.specs.declared.plan.Grouping.{Grouping}
use Rattle.exec_plan.specs.declared.plan.InChannel.{InChannel}
use Rattle.exec_plan.specs.declared.plan.OutChannel.{OutChannel}
use Rattle.exec_plan.specs.declared.plan.OutChannel.TheVariants.{Group, Pass}
use Rattle.exec_plan.specs.declared.plan.Mscr.{Mscr}
use Rattle.exec_plan.specs.Channels.{fed, taken, groups, output_of}
use Rattle.exec_plan.specs.Meaning.{total_of, out_sum}
use Rattle.task_lists.specs.Runs.{output_at, visits_of}
use Rattle.task_lists.specs.Tasks.{Split, Lists, gathered, reduce_task, groupings, reduce_phase}
use Rattle.task_lists.specs.Lists.{reduced_lists}
use Rattle.task_lists.proofs.Elements.{Agrees, each_step, visits_of_total, output_agrees}
use Rattle.task_lists.proofs.Says.{Each, each_in, each_says, each_parts, each_trap}
use Rattle.task_lists.proofs.Maps.{gathered_agrees}

-- ---- groups and their partitions

keys_paired : (ks : List Value) (f : Value → Value)
    → AllByRecursion IsPair (map (λ k. pair k (f k)) ks)
keys_paired [] f = tt
keys_paired (k ∷ ks) f = (ap is_some (parts_of-pair k (f k)), keys_paired ks f)

groups_paired : (pairs : List Value) → All IsPair (grouped pairs)
groups_paired pairs =
    All-from_recursion IsPair (grouped pairs)
    (keys_paired (keys_of (pairs_of pairs)) (λ k. value.List (values_of k (pairs_of pairs))))

-- the partitions of groups together have each group
parts_alike : (n : ℕ) (gs : List Value) → 0 < n → All IsPair gs
    → Alike (concatenated (λ p. pairs_in_part n p gs) n) gs
parts_alike n gs some pairs =
    let parts : List Value = concatenated (λ p. pairs_in_part n p gs) n in
    alike_then parts (bag_of parts) gs (alike_back (bag_of parts) parts (alike_bag parts))
    (λ u. ap (sum_by u) (parts_whole n gs some pairs) ∙ alike_bag gs u)

-- ---- by channels, and not by groupings alone

abbrev pub by_channel : {Y : Type 0} → (Grouping → List Y) → OutChannel → List Y
by_channel f (Group g) = f g
by_channel f (Pass k number) = []

groupings_each : {Y : Type 0} (f : Grouping → List Y) (outs : List OutChannel)
    → flat_map f (groupings outs) ≡ flat_map (by_channel f) outs
groupings_each f [] = refl
groupings_each f (Group g ∷ outs) = ap (λ l. f g ++ l) (groupings_each f outs)
groupings_each f (Pass k number ∷ outs) = groupings_each f outs

-- ---- the reduce tasks

module _ (w : World) (n : Split) (some_shards : 0 < n.shards) (some : 0 < n.partitions) (t : Lists)
    (m : PlanPlace → Collection) (agree : (c : PlanPlace) → Agrees (t c) (m c)) (s : Mscr)
    (calm : flat_map (λ (c : InChannel). each_in w each_trap (fed m c)) s.inputs ≡ []) where
  abbrev gathers : Grouping → List Value
  gathers g = gathered w n t s.inputs g.takes

  abbrev group_of : Grouping → Collection
  group_of g = groups w (map (fed m) s.inputs) g

  -- the groups of the list are those of the collection
  pub groups_same : (g : Grouping) → grouped (gathers g) ≡ (group_of g).bag
  groups_same g =
      let given : Collection = together (map (taken w (map (fed m) s.inputs)) g.takes) in
      let agrees = gathered_agrees w n some_shards t m agree s.inputs calm g.takes in
      sym (grouped-bag_of (gathers g))
      ∙ ap grouped (bag_alike (gathers g) given.bag agrees.same)
      ∙ grouped-bag_of given.bag
      ∙ sym (ap (λ traps. unless_trapped traps (grouped given.bag)) agrees.calm)

  groups_agree : (g : Grouping) → Agrees (group_of g).bag (group_of g)
  groups_agree g = record {
    same = λ u. refl;
    calm = (gathered_agrees w n some_shards t m agree s.inputs calm g.takes).calm;
    settled = subst (λ b. bag_of b ≡ b) (groups_same g)
        (bag_of-settled (grouped (gathers g)) (grouped-IsSorted (gathers g)));
  }

  -- partition by partition, or all groups
  reduced_whole : {Y : Type 0} (h : Value → List Y) (g : Grouping)
      → Alike (concatenated (λ p. flat_map h (reduce_task w n t s.inputs g p).elements)
      n.partitions)
      (flat_map h (group_of g).bag)
  reduced_whole h g u =
      let gs : List Value = grouped (gathers g) in
      let parts = λ (p : ℕ). pairs_in_part n.partitions p gs in
      ap (sum_by u) (sym (flat_map-joined h parts n.partitions))
      ∙ alike_flat_map h (concatenated parts n.partitions) gs
      (parts_alike n.partitions gs some (groups_paired (gathers g))) u
      ∙ ap (λ l. sum_by u (flat_map h l)) (groups_same g)

  pub reduced_agrees : (g : Grouping) (j : ℕ)
      → total_of w (each_step (trapped w)) (group_of g) g.does ≡ []
      → Agrees (reduced_lists w n t s.inputs g j) (output_of w (group_of g) g.does j)
  reduced_agrees g j none =
      let a = output_agrees w g.does j (group_of g).bag (group_of g) (groups_agree g) none in
      record {
        same = alike_then (reduced_lists w n t s.inputs g j)
            (flat_map (output_at w g.does j) (group_of g).bag)
            (output_of w (group_of g) g.does j).bag
            (reduced_whole (output_at w g.does j) g) a.same;
        calm = a.calm;
        settled = a.settled;
      }

  channel_alike : {Y : Type 0} (q : Each Y) (o : OutChannel)
      → Alike (by_channel (λ g. concatenated (λ p. (each_says w q).reduces g
      (reduce_task w n t s.inputs g p)) n.partitions) o)
      (out_sum w (each_parts w q) (map (fed m) s.inputs) o)
  channel_alike q (Pass k number) = λ u. refl
  channel_alike q (Group g) =
      let gs : List Value = (group_of g).bag in
      let both = λ (x : Value). q.groups g.origin g.last x ++ visits_of w (q.steps w) g.does x in
      let says = λ (p : ℕ). (each_says w q).reduces g (reduce_task w n t s.inputs g p) in
      let one = λ (p : ℕ). flat_map both (reduce_task w n t s.inputs g p).elements in
      λ u. joined_alike says one (λ p. alike_back (one p) (says p)
      (alike_both (q.groups g.origin g.last) (visits_of w (q.steps w) g.does)
      (reduce_task w n t s.inputs g p).elements)) n.partitions u
      ∙ reduced_whole both g u
      ∙ alike_both (q.groups g.origin g.last) (visits_of w (q.steps w) g.does) gs u
      ∙ alike_append (flat_map (q.groups g.origin g.last) gs)
      (flat_map (q.groups g.origin g.last) gs) (flat_map (visits_of w (q.steps w) g.does) gs)
      (total_of w (each_step (q.steps w)) (group_of g) g.does) (λ v. refl)
      (visits_of_total w (q.steps w) g.does gs (group_of g) (λ v. refl)) u

  pub reduces_alike : {Y : Type 0} (q : Each Y)
      → Alike (reduce_phase (each_says w q).reduces w n t s)
      (flat_map (out_sum w (each_parts w q) (map (fed m) s.inputs)) s.outputs)
  reduces_alike q u =
      let says = λ (g : Grouping). concatenated (λ p. (each_says w q).reduces g
      (reduce_task w n t s.inputs g p)) n.partitions in
      ap (sum_by u) (groupings_each says s.outputs)
      ∙ alike_each (by_channel says) (out_sum w (each_parts w q) (map (fed m) s.inputs))
      (channel_alike q) s.outputs u
