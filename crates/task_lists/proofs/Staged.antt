-- The first trap of a stage's tasks is one of the stage's, and a stage has none where no task
-- traps.
use Rattle.std.proofs.Common.{◌≡◌, ◌<◌, List, [], ◌∷◌, ◌++◌, map, Some, ap, ◌∙◌, sym, subst}
use Rattle.std.specs.List.{AllByRecursion, flat_map, slice_get, Contains}
use Rattle.flume_collection.specs.declared.trap.Trap.{Trap}
use Rattle.flume_collection.specs.Collection.{Collection}
use Rattle.shards.proofs.Alike.{alike_empty, append_empty}
use Rattle.exec_plan.specs.of_exec_graph.World.{World}
use Rattle.exec_plan.specs.declared.plan.PlanPlace.{PlanPlace}
use Rattle.exec_plan.specs.declared.plan.InChannel.{InChannel}
use Rattle.exec_plan.specs.declared.plan.Mscr.{Mscr as Channels}
use Rattle.exec_plan.specs.declared.plan.Stage.{Stage}
use Rattle.exec_plan.specs.declared.plan.Stage.TheVariants.{Mscr, Flatten, Operate}
use Rattle.exec_plan.specs.Channels.{Fed, fed, value_on}
use Rattle.exec_plan.specs.Meaning.{in_sum, out_sum, stage_sum, trap_parts}
use Rattle.task_lists.specs.Tasks.{Split, Lists, map_phase, reduce_phase}
use Rattle.task_lists.specs.Plans.{stage_tasks}
use Rattle.task_lists.specs.Lists.{object_made}
use Rattle.task_lists.proofs.Elements.{Agrees}
use Rattle.task_lists.proofs.Objects.{made_same, side_agrees}
use Rattle.task_lists.proofs.Says.{each_in, each_says, each_parts, each_trap}
use Rattle.task_lists.proofs.Maps.{maps_alike, gathered_agrees}
use Rattle.task_lists.proofs.Reduces.{reduces_alike}
use Rattle.task_lists.proofs.Results.{inputs_calm, flat_agrees}
use Rattle.task_lists.proofs.Stepped.{inputs_have, outputs_have, inputs_quiet, outputs_quiet}
use Rattle.task_lists.proofs.Trapping.{first_among, first_in, first_of_both}

module _ (w : World) (n : Split) (some_shards : 0 < n.shards) (some : 0 < n.partitions) (t : Lists)
    (m : PlanPlace → Collection) (agree : (c : PlanPlace) → Agrees (t c) (m c)) where
  module _ (s : Channels) where
    abbrev feds : List Fed
    feds = map (fed m) s.inputs

    -- the traps of the tasks of each phase, and those of what they go through
    abbrev maps : List Trap
    maps = map_phase (each_says w each_trap).maps n t s

    abbrev reduces : List Trap
    reduces = reduce_phase (each_says w each_trap).reduces w n t s

    abbrev inputs : List Trap
    inputs = flat_map (each_in w each_trap) feds

    abbrev outputs : List Trap
    outputs = flat_map (out_sum w (each_parts w each_trap) feds) s.outputs

  pub stage_trapped : (s : Stage) (e : Trap)
      → slice_get (stage_tasks (each_says w each_trap) w n t s) 0 ≡ Some e
      → Contains (stage_sum w (trap_parts w) m s) e
  stage_trapped (Flatten takes) e h = cc
  stage_trapped (Operate takes o l a) e h =
      subst (λ (c : Collection). Contains c.traps e) (made_same t m agree w o a takes)
      (first_in e (object_made w t o a takes).traps h)
  stage_trapped (Mscr s) e h =
      first_of_both e (maps s) (reduces s) (flat_map (in_sum w (trap_parts w)) (feds s))
      (flat_map (out_sum w (trap_parts w) (feds s)) s.outputs)
      (λ f first. inputs_have w f (feds s)
      (first_among f (maps s) (inputs s) (maps_alike w n some_shards t m agree each_trap s) first))
      (λ none f first. outputs_have w f (feds s) s.outputs
      (first_among f (reduces s) (outputs s)
      (reduces_alike w n some_shards some t m agree s
      (inputs_calm w n some_shards some t m agree s none) each_trap) first)) h

  behind : (ins : List InChannel)
      → AllByRecursion (λ (c : Fed). (value_on c.value c.beside).traps ≡ []) (map (fed m) ins)
  behind [] = tt
  behind (c ∷ cs) = ((side_agrees t m agree c.beside c.reads).calm, behind cs)

  pub stage_quiet : (s : Stage) → stage_tasks (each_says w each_trap) w n t s ≡ []
      → stage_sum w (trap_parts w) m s ≡ []
  stage_quiet (Flatten takes) none =
      (flat_agrees w n some_shards some t m agree takes).calm
  stage_quiet (Operate takes o l a) none =
      sym (ap (λ (c : Collection). c.traps) (made_same t m agree w o a takes)) ∙ none
  stage_quiet (Mscr s) none =
      let each = append_empty (maps s) (reduces s) none in
      let calm = inputs_calm w n some_shards some t m agree s each.0 in
      let first = inputs_quiet w (feds s) (behind s.inputs)
      (alike_empty (maps s) (inputs s) (maps_alike w n some_shards t m agree each_trap s) each.0) in
      let second = outputs_quiet w (feds s) s.outputs
      (λ g. (gathered_agrees w n some_shards t m agree s.inputs calm g.takes).calm)
      (alike_empty (reduces s) (outputs s)
      (reduces_alike w n some_shards some t m agree s calm each_trap) each.1) in
      λ i. first i ++ second i
