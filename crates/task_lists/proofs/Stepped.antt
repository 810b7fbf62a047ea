-- The traps of a stage: those of its own calls, and those behind what it reads.
use Rattle.std.proofs.Common.{◌≡◌, List, [], ◌∷◌, ◌++◌, Option, Some, None, refl, subst}
use Rattle.std.specs.List.{AllByRecursion, flat_map, Contains}
use Rattle.std.proofs.lemmas.List.Elements.{Contains-append_right}
use Rattle.flume_collection.specs.declared.trap.Trap.{Trap}
use Rattle.flume_collection.specs.Collection.{Collection}
use Rattle.flume_collection.specs.Traps.{trap_le, trap_set}
use Rattle.flume_collection.proofs.Members.{not_in_none, set_members}
use Rattle.flume_collection.proofs.Orders.{trap_order}
use Rattle.shards.proofs.Alike.{append_empty, flat_map-nothing}
use Rattle.exec_plan.specs.of_exec_graph.World.{World}
use Rattle.exec_plan.specs.of_exec_graph.Calls.{trapped}
use Rattle.exec_plan.specs.of_exec_graph.Forests.{Label, Forest, Bare, Grow}
use Rattle.exec_plan.specs.of_exec_graph.Meaning.{through, total, step_traps}
use Rattle.exec_plan.specs.declared.plan.Grouping.{Grouping}
use Rattle.exec_plan.specs.declared.plan.OutChannel.{OutChannel}
use Rattle.exec_plan.specs.declared.plan.OutChannel.TheVariants.{Group, Pass}
use Rattle.exec_plan.specs.Channels.{Fed, groups, value_on, world_in}
use Rattle.exec_plan.specs.Meaning.{fed_sum, total_of, in_sum, out_sum, trap_parts}
use Rattle.task_lists.proofs.Elements.{each_step}
use Rattle.task_lists.proofs.Says.{each_in, each_parts, each_trap}
use Rattle.task_lists.proofs.Trapping.{contains_both, contains_each}

module _ (w : World) where
  -- ---- a call that traps is among the traps

  abbrev calls : Collection → Label → List Trap
  calls = each_step (trapped w)

  call_is_trap : (e : Trap) (v : Collection) (l : Label) → Contains (calls v l) e
      → Contains (step_traps w v l) e
  call_is_trap e v l c =
      (set_members trap_le trap_order (v.traps ++ calls v l) e).1
      (Contains-append_right v.traps (calls v l) e c)

  total_has : (e : Trap) (v : Collection) (f : Forest) → Contains (total w calls v f) e
      → Contains (total w (step_traps w) v f) e
  total_has e v Bare c = c
  total_has e v (Grow l kids rest) c =
      let all = total w (step_traps w) in
      contains_both e (calls v l) (total w calls (through w l v) kids ++ total w calls v rest)
      (step_traps w v l) (all (through w l v) kids ++ all v rest) (call_is_trap e v l)
      (contains_both e (total w calls (through w l v) kids) (total w calls v rest)
      (all (through w l v) kids) (all v rest) (total_has e (through w l v) kids)
      (total_has e v rest))
      c

  total_of_has : (e : Trap) (v : Collection) (f : Option Forest)
      → Contains (total_of w calls v f) e → Contains (total_of w (step_traps w) v f) e
  total_of_has e v None c = c
  total_of_has e v (Some f) c = total_has e v f c

  channel_has : (e : Trap) (cs : List Fed) (o : OutChannel)
      → Contains (out_sum w (each_parts w each_trap) cs o) e
      → Contains (out_sum w (trap_parts w) cs o) e
  channel_has e cs (Pass k number) c = c
  channel_has e cs (Group g) c =
      let v : Collection = groups w cs g in
      contains_both e (flat_map (λ x. []) v.bag) (total_of w calls v g.does) v.traps
      (total_of w (step_traps w) v g.does)
      (λ d. absurd (not_in_none e (subst (λ l. Contains l e) (flat_map-nothing v.bag) d)))
      (total_of_has e v g.does) c

  pub outputs_have : (e : Trap) (cs : List Fed) (outs : List OutChannel)
      → Contains (flat_map (out_sum w (each_parts w each_trap) cs) outs) e
      → Contains (flat_map (out_sum w (trap_parts w) cs) outs) e
  outputs_have e cs outs c =
      contains_each e (out_sum w (each_parts w each_trap) cs) (out_sum w (trap_parts w) cs)
      (channel_has e cs) outs c

  -- ---- where no call traps and no trap is behind what is read, there is none

  total_calm : (v : Collection) (f : Forest) → v.traps ≡ [] → total w calls v f ≡ []
      → total w (step_traps w) v f ≡ []
  total_calm v Bare h none = refl
  total_calm v (Grow l kids rest) h none =
      let here =
      append_empty (calls v l) (total w calls (through w l v) kids ++ total w calls v rest) none in
      let below = append_empty (total w calls (through w l v) kids) (total w calls v rest) here.1 in
      let calm : (through w l v).traps ≡ [] = λ i. trap_set (h i ++ here.0 i) in
      λ i. calm i ++ (total_calm (through w l v) kids calm below.0 i ++ total_calm v rest h below.1
      i)

  total_of_calm : (v : Collection) (f : Option Forest) → v.traps ≡ [] → total_of w calls v f ≡ []
      → total_of w (step_traps w) v f ≡ []
  total_of_calm v None h none = refl
  total_of_calm v (Some f) h none = total_calm v f h none

  pub outputs_quiet : (cs : List Fed) (outs : List OutChannel)
      → ((g : Grouping) → (groups w cs g).traps ≡ [])
      → flat_map (out_sum w (each_parts w each_trap) cs) outs ≡ []
      → flat_map (out_sum w (trap_parts w) cs) outs ≡ []
  outputs_quiet cs [] h none = refl
  outputs_quiet cs (Pass k number ∷ outs) h none = outputs_quiet cs outs h none
  outputs_quiet cs (Group g ∷ outs) h none =
      let v : Collection = groups w cs g in
      let rest = flat_map (out_sum w (each_parts w each_trap) cs) outs in
      let here =
      append_empty (flat_map (λ x. []) v.bag ++ total_of w calls v g.does) rest none in
      let own = append_empty (flat_map (λ x. []) v.bag) (total_of w calls v g.does) here.0 in
      λ i. (h g i ++ total_of_calm v g.does (h g) own.1 i) ++ outputs_quiet cs outs h here.1 i

-- ---- input channels, whose steps are called beside an object or not

module _ (w : World) where
  fed_has : (e : Trap) (v : Collection) (o : Option Collection) (f : Option Forest)
      → Contains (total_of (world_in w o) (each_step (trapped (world_in w o))) (value_on v o) f) e
      → Contains (fed_sum w (trap_parts w) v o f) e
  fed_has e v None f c = total_of_has w e v f c
  fed_has e v (Some object) f c =
      total_of_has (world_in w (Some object)) e (value_on v (Some object)) f c

  pub inputs_have : (e : Trap) (cs : List Fed) → Contains (flat_map (each_in w each_trap) cs) e
      → Contains (flat_map (in_sum w (trap_parts w)) cs) e
  inputs_have e cs c =
      contains_each e (each_in w each_trap) (in_sum w (trap_parts w))
      (λ d. fed_has e d.value d.beside d.does) cs c

  fed_calm : (v : Collection) (o : Option Collection) (f : Option Forest)
      → (value_on v o).traps ≡ []
      → total_of (world_in w o) (each_step (trapped (world_in w o))) (value_on v o) f ≡ []
      → fed_sum w (trap_parts w) v o f ≡ []
  fed_calm v None f h none = total_of_calm w v f h none
  fed_calm v (Some object) f h none =
      total_of_calm (world_in w (Some object)) (value_on v (Some object)) f h none

  pub inputs_quiet : (cs : List Fed)
      → AllByRecursion (λ (c : Fed). (value_on c.value c.beside).traps ≡ []) cs
      → flat_map (each_in w each_trap) cs ≡ [] → flat_map (in_sum w (trap_parts w)) cs ≡ []
  inputs_quiet [] h none = refl
  inputs_quiet (c ∷ cs) h none =
      let here = append_empty (each_in w each_trap c) (flat_map (each_in w each_trap) cs) none in
      λ i. fed_calm c.value c.beside c.does h.0 here.0 i ++ inputs_quiet cs h.1 here.1 i
