-- The map tasks of a stage, where the lists agree with the collections.
use Rattle.std.proofs.Common.{◌≡◌, ◌<◌, ℕ, zero, suc, true, false, cond, List, [], ◌∷◌, ◌++◌, length, map, Option, Some, None, refl, sym, ap, ◌∙◌, subst, arith, ⊎_elim, append-nil}
use Rattle.std.specs.Prelude.{◌==◌, option_map}
use Rattle.std.specs.List.{sum_by, flat_map, slice_get}
use Rattle.std.specs.Option.{option_map_or}
use Rattle.std.proofs.lemmas.Bool.{cases_lt}
use Rattle.std.proofs.lemmas.Option.{slice_get_past, slice_get-map}
use Rattle.std.proofs.lemmas.List.Folds.{flat_map-map}
use Rattle.flume_value.specs.declared.value.Value.{Value}
use Rattle.flume_value.proofs.BagLemmas.{bag_of-twice}
use Rattle.flume_collection.specs.Collection.{Collection, together}
use Rattle.flume_collection.specs.Traps.{trap_set}
use Rattle.shards.specs.Shards.{concatenated, shard}
use Rattle.shards.proofs.Alike.{Alike, alike_bag, alike_each, append_empty}
use Rattle.shards.proofs.Joined.{joined_same, joined_alike, flat_map-joined, joined_each, joined_nothing, joined_if, joined_before, joined_at, shards_join}
use Rattle.exec_plan.specs.of_exec_graph.World.{World}
use Rattle.exec_plan.specs.of_exec_graph.Objects.{world_beside}
use Rattle.exec_plan.specs.declared.plan.PlanPlace.{PlanPlace}
use Rattle.exec_plan.specs.declared.plan.Take.{Take}
use Rattle.exec_plan.specs.declared.plan.InChannel.{InChannel}
use Rattle.exec_plan.specs.declared.plan.Mscr.{Mscr}
use Rattle.exec_plan.specs.Channels.{Fed, channel_out, fed, output_of, taken, value_on, world_in}
use Rattle.task_lists.specs.Runs.{output_at, visits_of, emissions_at}
use Rattle.task_lists.specs.Tasks.{Split, Lists, elements_beside, value_beside, task_gives, no_task, map_task, map_task_of, given_to, gathered, map_phase}
use Rattle.task_lists.proofs.Elements.{Agrees, none_agrees, visits_of_total, output_agrees}
use Rattle.task_lists.proofs.Objects.{side_agrees, world_same}
use Rattle.task_lists.proofs.Says.{Each, each_in, each_says, each_trap}

-- the world in which a channel's steps are called, and the elements on which they are
abbrev pub world_at : World → Lists → InChannel → World
world_at w t c = world_beside (value_beside t c.beside) w

abbrev pub list_at : Lists → InChannel → List Value
list_at t c = elements_beside t c.beside (t c.reads)

-- what a channel gives to its output j of its whole list
abbrev pub whole_out : World → Lists → Option InChannel → ℕ → List Value
whole_out w t None j = []
whole_out w t (Some c) j = emissions_at (world_at w t c) c.does (list_at t c) j

-- what a channel gets that takes these
abbrev pub whole : World → Lists → List InChannel → List Take → List Value
whole w t ins takes = flat_map (λ k. whole_out w t (slice_get ins k.channel) k.out) takes

-- where one number alone gives something, it is that of this number
at_own : {A : Type 0} (f : ℕ → List A) (c m : ℕ) → cond (c == m) (f m) [] ≡ cond (c == m) (f c) []
at_own f c m =
    elim (c == m) as (λ b. (c == m) ≡ b → cond b (f m) [] ≡ cond b (f c) []) [
      | true ↦ λ e. let same : m ≡ c = grind (arith, e) in ap f same
      | false ↦ λ e. refl
    ] refl

flat_map-at : {X Y : Type 0} (f : X → List Y) (xs : List X) (k : ℕ) (x : X) → flat_map f xs ≡ []
    → slice_get xs k ≡ Some x → f x ≡ []
flat_map-at f [] k x none h = cc
flat_map-at f (y ∷ xs) zero x none h =
    let same : y ≡ x = cc in ap f (sym same) ∙ (append_empty (f y) (flat_map f xs) none).0
flat_map-at f (y ∷ xs) (suc k) x none h =
    flat_map-at f xs k x (append_empty (f y) (flat_map f xs) none).1 h

-- ---- the shards of a channel

module _ (w : World) (n : Split) (some : 0 < n.shards) (t : Lists) where
  -- what shard i of a channel gives
  abbrev shard_gives : Option InChannel → ℕ → ℕ → List Value
  shard_gives o j i = task_gives w (option_map_or (λ c. map_task n t c i) o no_task) j

  shards_whole : (o : Option InChannel) (j : ℕ)
      → concatenated (shard_gives o j) n.shards ≡ whole_out w t o j
  shards_whole None j = joined_nothing n.shards
  shards_whole (Some c) j =
      sym (flat_map-joined (output_at (world_at w t c) c.does j)
      (λ i. shard n.shards i (list_at t c)) n.shards)
      ∙ ap (flat_map (output_at (world_at w t c) c.does j))
      (shards_join n.shards (list_at t c) some)

  says_whole : {Y : Type 0} (q : Each Y) (c : InChannel)
      → concatenated (λ i. (each_says w q).maps (map_task n t c i)) n.shards
      ≡ flat_map (visits_of (world_at w t c) (q.steps (world_at w t c)) c.does) (list_at t c)
  says_whole q c =
      let visits = visits_of (world_at w t c) (q.steps (world_at w t c)) c.does in
      sym (flat_map-joined visits (λ i. shard n.shards i (list_at t c)) n.shards)
      ∙ ap (flat_map visits) (shards_join n.shards (list_at t c) some)

  -- ---- what a channel takes

  -- of one take
  taken_once : (ins : List InChannel) (k : Take)
      → concatenated (λ m. concatenated (λ i. cond (k.channel == m)
      (task_gives w (map_task_of n t ins m i) k.out)
      []) n.shards) (length ins) ≡ whole_out w t (slice_get ins k.channel) k.out
  taken_once ins k =
      let of : ℕ → List Value = λ m. concatenated (shard_gives (slice_get ins m) k.out) n.shards in
      let own : List Value = of k.channel in
      let at = λ (m : ℕ). cond (k.channel == m) own [] in
      joined_same
      (λ m. concatenated (λ i. cond (k.channel == m) (shard_gives (slice_get ins m) k.out i) [])
      n.shards)
      at
      (λ m. joined_if (k.channel == m) (shard_gives (slice_get ins m) k.out) n.shards
      ∙ at_own of k.channel m) (length ins)
      ∙ ⊎_elim (λ h. joined_at k.channel own (length ins) h)
      (λ h. joined_before k.channel own (length ins) h
      ∙ sym (ap (λ o. concatenated (shard_gives o k.out) n.shards) (slice_get_past ins k.channel h)
      ∙ joined_nothing n.shards))
      (cases_lt k.channel (length ins))
      ∙ shards_whole (slice_get ins k.channel) k.out

  gathered_whole : (ins : List InChannel) (takes : List Take)
      → Alike (gathered w n t ins takes) (whole w t ins takes)
  gathered_whole ins takes =
      let at = λ (m i : ℕ) (k : Take). cond (k.channel == m)
      (task_gives w (map_task_of n t ins m i) k.out) [] in
      λ u. joined_alike (λ m. concatenated (λ i. given_to w (map_task_of n t ins m i) m takes)
      n.shards)
      (λ m. flat_map (λ k. concatenated (λ i. at m i k) n.shards) takes)
      (λ m. joined_each (at m) takes n.shards) (length ins) u
      ∙ joined_each (λ m k. concatenated (λ i. at m i k) n.shards) takes (length ins) u
      ∙ (λ i. sum_by u (flat_map (λ k. taken_once ins k i) takes))

  -- ---- where the lists agree with the collections

  module _ (m : PlanPlace → Collection) (agree : (c : PlanPlace) → Agrees (t c) (m c)) where
    -- the world of a channel's collection, and its members
    abbrev world_of : InChannel → World
    world_of c = world_in w (option_map m c.beside)

    abbrev value_of : InChannel → Collection
    value_of c = value_on (m c.reads) (option_map m c.beside)

    same_world : (c : InChannel) → world_of c ≡ world_at w t c
    same_world c = sym (world_same t m agree w c.beside)

    pub channel_agree : (c : InChannel) → Agrees (list_at t c) (value_of c)
    channel_agree c = side_agrees t m agree c.beside c.reads

    said_alike : {Y : Type 0} (q : Each Y) (c : InChannel)
        → Alike (flat_map (visits_of (world_at w t c) (q.steps (world_at w t c)) c.does)
        (list_at t c)) (each_in w q (fed m c))
    said_alike q c =
        subst (λ (v : World). Alike (flat_map (visits_of v (q.steps v) c.does) (list_at t c))
        (each_in w q (fed m c))) (same_world c)
        (visits_of_total (world_of c) (q.steps (world_of c)) c.does (list_at t c) (value_of c)
        (channel_agree c).same)

    pub maps_alike : {Y : Type 0} (q : Each Y) (s : Mscr)
        → Alike (map_phase (each_says w q).maps n t s)
        (flat_map (each_in w q) (map (fed m) s.inputs))
    maps_alike q s u =
        alike_each (λ c. concatenated (λ i. (each_says w q).maps (map_task n t c i)) n.shards)
        (λ c. each_in w q (fed m c))
        (λ c v. ap (sum_by v) (says_whole q c) ∙ said_alike q c v) s.inputs u
        ∙ ap (sum_by u) (sym (flat_map-map (each_in w q) (fed m) s.inputs))

    channel_agrees : (o : Option InChannel) (j : ℕ)
        → ((c : InChannel) → o ≡ Some c → each_in w each_trap (fed m c) ≡ [])
        → Agrees (whole_out w t o j) (channel_out w (option_map (fed m) o) j)
    channel_agrees None j calm = none_agrees
    channel_agrees (Some c) j calm =
        subst (λ (v : World).
        Agrees (emissions_at v c.does (list_at t c) j) (output_of (world_of c) (value_of c) c.does
        j))
        (same_world c)
        (output_agrees (world_of c) c.does j (list_at t c) (value_of c) (channel_agree c)
        (calm c refl))

    -- and no map task traps
    module _ (ins : List InChannel)
        (calm : flat_map (λ (c : InChannel). each_in w each_trap (fed m c)) ins ≡ []) where
      taken_agrees : (k : Take)
          → Agrees (whole_out w t (slice_get ins k.channel) k.out) (taken w (map (fed m) ins) k)
      taken_agrees k =
          subst (λ (o : Option Fed).
          Agrees (whole_out w t (slice_get ins k.channel) k.out) (channel_out w o k.out))
          (sym (slice_get-map (fed m) ins k.channel))
          (channel_agrees (slice_get ins k.channel) k.out
          (λ c e. flat_map-at (λ d. each_in w each_trap (fed m d)) ins k.channel c calm e))

      taken_calm : (takes : List Take)
          → flat_map (λ (c : Collection). c.traps) (map (taken w (map (fed m) ins)) takes) ≡ []
      taken_calm [] = refl
      taken_calm (k ∷ ks) = λ i. (taken_agrees k).calm i ++ taken_calm ks i

      pub gathered_agrees : (takes : List Take)
          → Agrees (gathered w n t ins takes) (together (map (taken w (map (fed m) ins)) takes))
      gathered_agrees takes =
          let given : Take → Collection = taken w (map (fed m) ins) in
          let bags : List Value = flat_map (λ (c : Collection). c.bag) (map given takes) in
          record {
            same = λ u. gathered_whole ins takes u
                ∙ alike_each (λ k. whole_out w t (slice_get ins k.channel) k.out)
                (λ k. (given k).bag)
                (λ k. (taken_agrees k).same) takes u
                ∙ ap (sum_by u) (sym (flat_map-map (λ (c : Collection). c.bag) given takes))
                ∙ sym (alike_bag bags u);
            calm = ap trap_set (taken_calm takes);
            settled = bag_of-twice bags;
          }

      -- what passes through alone
      pub passed_agrees : (k : Take)
          → Agrees (gathered w n t ins (k ∷ [])) (taken w (map (fed m) ins) k)
      passed_agrees k = record {
        same = λ u. gathered_whole ins (k ∷ []) u
            ∙ ap (sum_by u) (append-nil (whole_out w t (slice_get ins k.channel) k.out))
            ∙ (taken_agrees k).same u;
        calm = (taken_agrees k).calm;
        settled = (taken_agrees k).settled;
      }
