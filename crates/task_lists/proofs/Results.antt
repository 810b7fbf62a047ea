-- The results of a stage, where the lists agree with the collections and no task traps.
use Rattle.std.proofs.Common.{◌≡◌, ◌<◌, ℕ, zero, suc, true, false, cond, ◌&&◌, List, [], ◌∷◌, ◌++◌, map, Option, None, Some, refl, sym, ap, ◌∙◌, subst}
use Rattle.std.specs.Prelude.{◌==◌, option_map}
use Rattle.std.specs.List.{AllByRecursion, sum_by, flat_map, slice_get}
use Rattle.std.proofs.lemmas.List.Folds.{flat_map-map}
use Rattle.flume_value.specs.declared.value.Value.{Value}
use Rattle.flume_value.proofs.BagLemmas.{bag_of-twice}
use Rattle.flume_collection.specs.Calls.{or_none}
use Rattle.flume_collection.specs.Collection.{Collection, together}
use Rattle.flume_collection.specs.Traps.{trap_set}
use Rattle.shards.proofs.Alike.{Alike, alike_append, alike_bag, alike_each, alike_empty, alike_is, alike_then, append_empty}
use Rattle.exec_plan.specs.of_exec_graph.World.{World}
use Rattle.exec_plan.specs.of_exec_graph.declared.graph.Act.{Act}
use Rattle.exec_plan.specs.of_exec_graph.Calls.{trapped}
use Rattle.exec_plan.specs.of_exec_graph.Forests.{Forest}
use Rattle.exec_plan.specs.of_exec_graph.Meaning.{or_nothing}
use Rattle.exec_plan.specs.of_exec_graph.Objects.{act_result}
use Rattle.exec_plan.specs.declared.plan.PlanPlace.{PlanPlace}
use Rattle.exec_plan.specs.declared.plan.PlanPlace.TheVariants as at
use Rattle.exec_plan.specs.declared.plan.InChannel.{InChannel}
use Rattle.exec_plan.specs.declared.plan.Grouping.{Grouping}
use Rattle.exec_plan.specs.declared.plan.OutChannel.{OutChannel}
use Rattle.exec_plan.specs.declared.plan.OutChannel.TheVariants.{Group, Pass}
use Rattle.exec_plan.specs.declared.plan.Stage.{Stage}
use Rattle.exec_plan.specs.declared.plan.Stage.TheVariants.{Mscr, Flatten, Operate}
use Rattle.exec_plan.specs.declared.plan.Mscr.{Mscr as Channels}
use Rattle.exec_plan.specs.Channels.{fed, channel_gives, groups, output_numbers_of, output_of}
use Rattle.exec_plan.specs.Meaning.{Parts, total_of, in_sum, out_sum, own_parts, stage_sum, results, with_results}
use Rattle.task_lists.specs.Tasks.{Split, Lists, map_phase, reduce_phase}
use Rattle.task_lists.specs.Lists.{object_made, reduced_lists, given_lists, result_lists, with_lists}
use Rattle.task_lists.specs.Plans.{AreFirstBeside, AreStageFirst, stage_tasks}
use Rattle.task_lists.proofs.Elements.{Agrees, each_step, none_agrees}
use Rattle.task_lists.proofs.Objects.{act_bag, made_same}
use Rattle.task_lists.proofs.Says.{each_in, each_own, each_says, each_parts, each_trap, own_each, own_in}
use Rattle.task_lists.proofs.Maps.{maps_alike, passed_agrees}
use Rattle.task_lists.proofs.Reduces.{reduces_alike, reduced_agrees}

-- each list agrees with its collection
abbrev pub AgreeAll : List (List Value) → List Collection → Type 0
AgreeAll [] [] = Unit {0}
AgreeAll [] (c ∷ cs) = ⊥
AgreeAll (l ∷ ls) [] = ⊥
AgreeAll (l ∷ ls) (c ∷ cs) = Agrees l c × AgreeAll ls cs

agree_append : (ls ks : List (List Value)) (cs ds : List Collection) → AgreeAll ls cs
    → AgreeAll ks ds → AgreeAll (ls ++ ks) (cs ++ ds)
agree_append [] ks [] ds g h = h
agree_append [] ks (c ∷ cs) ds g h = absurd g
agree_append (l ∷ ls) ks [] ds g h = absurd g
agree_append (l ∷ ls) ks (c ∷ cs) ds g h = (g.0, agree_append ls ks cs ds g.1 h)

agree_at : (ls : List (List Value)) (cs : List Collection) (j : ℕ) → AgreeAll ls cs
    → Agrees (or_none (slice_get ls j)) (or_nothing (slice_get cs j))
agree_at [] [] j g = none_agrees
agree_at [] (c ∷ cs) j g = absurd g
agree_at (l ∷ ls) [] j g = absurd g
agree_at (l ∷ ls) (c ∷ cs) zero g = g.0
agree_at (l ∷ ls) (c ∷ cs) (suc j) g = agree_at ls cs j g.1

module _ (w : World) (n : Split) (some_shards : 0 < n.shards) (some : 0 < n.partitions) (t : Lists)
    (m : PlanPlace → Collection) (agree : (c : PlanPlace) → Agrees (t c) (m c)) where
  -- ---- a stage of channels

  -- no map task traps where no step of the input channels does
  pub inputs_calm : (s : Channels) → map_phase (each_says w each_trap).maps n t s ≡ []
      → flat_map (λ (c : InChannel). each_in w each_trap (fed m c)) s.inputs ≡ []
  inputs_calm s none =
      let sums = each_in w each_trap in
      sym (flat_map-map sums (fed m) s.inputs)
      ∙ alike_empty (map_phase (each_says w each_trap).maps n t s)
      (flat_map sums (map (fed m) s.inputs)) (maps_alike w n some_shards t m agree each_trap s) none

  module _ (s : Channels)
      (calm : flat_map (λ (c : InChannel). each_in w each_trap (fed m c)) s.inputs ≡ []) where
    numbered_agree : (g : Grouping)
        → total_of w (each_step (trapped w)) (groups w (map (fed m) s.inputs) g) g.does ≡ []
        → (js : List ℕ) → AgreeAll (map (reduced_lists w n t s.inputs g) js)
        (map (output_of w (groups w (map (fed m) s.inputs) g) g.does) js)
    numbered_agree g none [] = tt
    numbered_agree g none (j ∷ js) = (
      reduced_agrees w n some_shards some t m agree s calm g j none,
      numbered_agree g none js,
    )

    channel_agree : (o : OutChannel)
        → out_sum w (each_parts w each_trap) (map (fed m) s.inputs) o ≡ []
        → AgreeAll (given_lists w n t s.inputs o) (channel_gives w (map (fed m) s.inputs) o)
    channel_agree (Pass k number) none =
        (passed_agrees w n some_shards t m agree s.inputs calm k, tt)
    channel_agree (Group g) none =
        let made = groups w (map (fed m) s.inputs) g in
        numbered_agree g
        (append_empty (flat_map (λ x. []) made.bag)
        (total_of w (each_step (trapped w)) made g.does) none).1 (output_numbers_of g.does)

    channels_agree : (outs : List OutChannel)
        → flat_map (out_sum w (each_parts w each_trap) (map (fed m) s.inputs)) outs ≡ []
        → AgreeAll (flat_map (given_lists w n t s.inputs) outs)
        (flat_map (channel_gives w (map (fed m) s.inputs)) outs)
    channels_agree [] none = tt
    channels_agree (o ∷ os) none =
        let sums = out_sum w (each_parts w each_trap) (map (fed m) s.inputs) in
        let each = append_empty (sums o) (flat_map sums os) none in
        agree_append (given_lists w n t s.inputs o) (flat_map (given_lists w n t s.inputs) os)
        (channel_gives w (map (fed m) s.inputs) o) (flat_map
        (channel_gives w (map (fed m) s.inputs)) os)
        (channel_agree o each.0) (channels_agree os each.1)

  -- ---- a Flatten stage

  flat_calm : (takes : List PlanPlace) → flat_map (λ (c : Collection). c.traps) (map m takes) ≡ []
  flat_calm [] = refl
  flat_calm (c ∷ cs) = λ i. (agree c).calm i ++ flat_calm cs i

  pub flat_agrees : (takes : List PlanPlace) → Agrees (flat_map t takes) (together (map m takes))
  flat_agrees takes =
      let bags : List Value = flat_map (λ (c : Collection). c.bag) (map m takes) in
      record {
        same = λ u. alike_each t (λ c. (m c).bag) (λ c. (agree c).same) takes u
            ∙ ap (sum_by u) (sym (flat_map-map (λ (c : Collection). c.bag) m takes))
            ∙ sym (alike_bag bags u);
        calm = ap trap_set (flat_calm takes);
        settled = bag_of-twice bags;
      }

  -- ---- a stage that makes an object

  object_agrees : (takes : List PlanPlace) (o : ℕ) (a : Act)
      → (object_made w t o a takes).traps ≡ []
      → Agrees (object_made w t o a takes).bag (act_result w o a (map m takes))
  object_agrees takes o a none =
      let made : Collection = act_result w o a (map m takes) in
      let same = made_same t m agree w o a takes in
      subst (λ (c : Collection). Agrees c.bag made) (sym same) (record {
        same = λ u. refl;
        calm = sym (ap (λ (c : Collection). c.traps) same) ∙ none;
        settled = act_bag w o a (map m takes);
      })

  -- ---- any stage

  first_fed : (o : Option PlanPlace) (f : Option Forest) → AreFirstBeside o f
      → AreFirstBeside (option_map m o) f
  first_fed None f first = first
  first_fed (Some c) f first = first

  own_ins : (i : ℕ) (ins : List InChannel)
      → AllByRecursion (λ (c : InChannel). AreFirstBeside c.beside c.does) ins
      → Alike (flat_map (each_in w (each_own i)) (map (fed m) ins))
      (flat_map (in_sum w (own_parts w i)) (map (fed m) ins))
  own_ins i [] first = λ u. refl
  own_ins i (c ∷ cs) first =
      alike_append (each_in w (each_own i) (fed m c)) (in_sum w (own_parts w i) (fed m c))
      (flat_map (each_in w (each_own i)) (map (fed m) cs))
      (flat_map (in_sum w (own_parts w i)) (map (fed m) cs))
      (own_in w i (fed m c) (first_fed c.beside c.does first.0)) (own_ins i cs first.1)

  -- the members of the bag of script node i
  pub stage_alike : (i : ℕ) (s : Stage) → AreStageFirst s
      → stage_tasks (each_says w each_trap) w n t s ≡ []
      → Alike (stage_tasks (each_says w (each_own i)) w n t s) (stage_sum w (own_parts w i) m s)
  stage_alike i (Flatten takes) first none = λ u. refl
  stage_alike i (Operate takes o l a) first none =
      let own = λ (c : Collection). cond (l && (o == i)) c.bag [] in
      alike_is (own (object_made w t o a takes)) (own (act_result w o a (map m takes)))
      (ap own (made_same t m agree w o a takes))
  stage_alike i (Mscr s) first none =
      let traps = each_says w each_trap in
      let own = each_own i in
      let cs = map (fed m) s.inputs in
      let calm = inputs_calm s
      (append_empty (map_phase traps.maps n t s) (reduce_phase traps.reduces w n t s) none).0 in
      alike_append (map_phase (each_says w own).maps n t s)
      (flat_map (in_sum w (own_parts w i)) cs) (reduce_phase (each_says w own).reduces w n t s)
      (flat_map (out_sum w (own_parts w i) cs) s.outputs)
      (alike_then (map_phase (each_says w own).maps n t s) (flat_map (each_in w own) cs)
      (flat_map (in_sum w (own_parts w i)) cs) (maps_alike w n some_shards t m agree own s)
      (own_ins i s.inputs first))
      (λ u. reduces_alike w n some_shards some t m agree s calm own u
      ∙ ap (λ (q : Parts Value). sum_by u (flat_map (out_sum w q cs) s.outputs))
      (sym (own_each w i)))

  pub stage_results : (s : Stage) → stage_tasks (each_says w each_trap) w n t s ≡ []
      → AgreeAll (result_lists w n t s) (results w m s)
  stage_results (Flatten takes) none = (flat_agrees takes, tt)
  stage_results (Operate takes o l a) none = (object_agrees takes o a none, tt)
  stage_results (Mscr s) none =
      let traps = each_says w each_trap in
      let each =
      append_empty (map_phase traps.maps n t s) (reduce_phase traps.reduces w n t s) none in
      let calm = inputs_calm s each.0 in
      channels_agree s calm s.outputs
      (alike_empty (reduce_phase traps.reduces w n t s)
      (flat_map (out_sum w (each_parts w each_trap) (map (fed m) s.inputs)) s.outputs)
      (reduces_alike w n some_shards some t m agree s calm each_trap) each.1)

  -- the table with the results
  pub table_agrees : (k : ℕ) (s : Stage) → stage_tasks (each_says w each_trap) w n t s ≡ []
      → (c : PlanPlace)
      → Agrees (with_lists k (result_lists w n t s) t c) (with_results k (results w m s) m c)
  table_agrees k s none (at.Source r) = agree (at.Source r)
  table_agrees k s none (at.Result stage number) =
      elim (stage == k) as
      (λ b. Agrees (cond b (or_none (slice_get (result_lists w n t s) number))
      (t (at.Result stage number)))
      (cond b (or_nothing (slice_get (results w m s) number)) (m (at.Result stage number)))) [
        | true ↦ agree_at (result_lists w n t s) (results w m s) number
            (stage_results s none)
        | false ↦ agree (at.Result stage number)
      ]
