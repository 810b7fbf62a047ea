-- The steps of a forest whose types fit may be called on the members of its type.
use Rattle.std.proofs.Common.{ℕ, ◌<◌, List, [], ◌∷◌, length, Option, Some, None, sym, subst, arith}
use Rattle.std.specs.List.{AllByRecursion}
use Rattle.flume_value.specs.declared.value.Value.{Value}
use Rattle.flume_value.proofs.EachLemmas.{each_from, Each-weaker}
use Rattle.flume_types.specs.declared.types.Ty.{Ty}
use Rattle.flume_types.specs.Typing.{Has}
use Rattle.keyed_steps.specs.Keyed.{IsGroup}
use Rattle.keyed_steps.proofs.TypedFacts.{group_suits}
use Rattle.combine_table.specs.declared.comb.Comb.{Comb}
use Rattle.exec_graph.specs.declared.graph.Place.{Place}
use Rattle.exec_graph.specs.declared.step.Does.{Does}
use Rattle.exec_graph.specs.declared.step.Does.TheVariants as does
use Rattle.exec_graph.specs.Calls.{emitted}
use Rattle.exec_graph.specs.Forests.{Forest, Bare, Grow}
use Rattle.exec_graph.specs.Objects.{world_beside}
use Rattle.exec_graph.specs.Typing.{Signatures, StepTyped, ForestTyped, IsCombined, IsWorldTyped}
use Rattle.exec_graph.specs.World.{World}
use Rattle.exec_graph.proofs.Typed.{step_typed}
use Rattle.exec_plan.specs.Typing.{ChannelTyped, IsSideTyped}
use Rattle.forest_courses.specs.of_forest_steps.Safety.{CanCall, Safe, SafeOf}
use Rattle.forest_courses.specs.of_task_lists.Tasks.{Task, world_for}
use Rattle.forest_courses.specs.of_task_lists.Typing.{IsTaskTyped, StepsTyped}
use Rattle.forest_courses.proofs.of_task_lists.TypedSides.{side_takes}
use Rattle.task_safety.specs.Taking.{Takes, taking}

combine_taken : (c : Comb) (t u : Ty) → IsCombined c t u → (x : Value) → Has t x → IsGroup c x
combine_taken c t u a x h =
    group_suits c a.key a.value a.suits x (subst (λ (r : Ty). Has r x) a.takes h)

-- a step may be called on a value of the type that it takes
step_taken : (s : Signatures) (d : Does) (n : ℕ) (t u : Ty) → StepTyped s d n t u
    → (x : Value) → Has t x → CanCall (Takes s) d x
step_taken s (does.Call f) n t u a x h = subst (λ (r : Ty). Has r x) a.0 h
step_taken s (does.Combine c) n t u a x h = combine_taken c t u a.1 x h
step_taken s does.Pair n t u a x h = tt
step_taken s does.TagLeft n t u a x h = tt
step_taken s does.TagRight n t u a x h = tt
step_taken s does.Split n t u a x h = tt
step_taken s does.Solo n t u a x h = tt
step_taken s does.Spread n t u a x h = tt

module _ (s : Signatures) (w : World) (world : IsWorldTyped s w) where
  forest_safe : (outs : Place → Ty) (n : ℕ) (t : Ty) (f : Forest) → ForestTyped s outs n t f
      → (x : Value) → Has t x → Safe w (Takes s) f x
  forest_safe outs n t Bare a x h = tt
  forest_safe outs n t (Grow l kids rest) a x h =
      let u : Ty = a.0.0 in (
        step_taken s l.does l.at t u a.0.1 x h,
        Each-weaker (Has u) (Safe w (Takes s) kids)
            (λ y i. forest_safe outs n u kids a.0.3 y i) (emitted w l x)
            (step_typed s w world l.does l.at t u a.0.1 x h),
        forest_safe outs n t rest a.1 x h,
      )

  channel_safe : (outs : Place → Ty) (n : ℕ) (t : Ty) (f : Option Forest)
      → ChannelTyped s outs n t f → (x : Value) → Has t x → SafeOf w (Takes s) f x
  channel_safe outs n t None a x h = tt
  channel_safe outs n t (Some f) a x h = forest_safe outs n t f a x h

  -- ---- beside a value

  nothing_called : (v : World) (takes : ℕ → Value → Type 0) (xs : List Value)
      → AllByRecursion (Safe v takes Bare) xs
  nothing_called v takes [] = tt
  nothing_called v takes (x ∷ xs) = (tt, nothing_called v takes xs)

  side_safe : (outs : Place → Ty) (n : ℕ) (t object : Ty) (v : Value) → Has object v
      → (f : Forest) → IsSideTyped s outs n t object f → (x : Value) → Has t x
      → Safe (world_beside (Some v) w) (taking (Some v) (Takes s)) f x
  side_safe outs n t object v held f typed x h =
      let b : World = world_beside (Some v) w in
      let takes : ℕ → Value → Type 0 = taking (Some v) (Takes s) in
      subst (λ (g : Forest). Safe b takes g x) (sym typed.alone) (
        subst (λ (d : Does). CanCall takes d x) (sym typed.calls)
            (side_takes s w world outs n t object v held f typed x h),
        nothing_called b takes (emitted b typed.label x),
        tt,
      )

  steps_safe : (outs : Place → Ty) (n : ℕ) (t : Ty) (v : Option Value) (f : Option Forest)
      → StepsTyped s outs n t v f → (x : Value) → Has t x
      → SafeOf (world_beside v w) (taking v (Takes s)) f x
  steps_safe outs n t None f a x h = channel_safe outs n t f a x h
  steps_safe outs n t (Some v) None a x h = tt
  steps_safe outs n t (Some v) (Some f) a x h =
      side_safe outs n t a.0 v a.1 f a.2 x h

  -- ---- of elements, if there are any

  elements_safe : (outs : Place → Ty) (n : ℕ) (t : Ty) (v : Option Value) (f : Option Forest)
      (xs : List Value) → (0 < length xs → StepsTyped s outs n t v f)
      → AllByRecursion (Has t) xs
      → AllByRecursion (SafeOf (world_beside v w) (taking v (Takes s)) f) xs
  elements_safe outs n t v f [] a h = tt
  elements_safe outs n t v f (x ∷ xs) a h =
      Each-weaker (Has t) (SafeOf (world_beside v w) (taking v (Takes s)) f)
      (steps_safe outs n t v f (a (omega arith))) (x ∷ xs) h

  pub task_safe : (task : Task) → IsTaskTyped s task
      → AllByRecursion (SafeOf (world_for w task) (taking task.beside (Takes s)) task.does)
      task.elements
  task_safe task a =
      elements_safe a.outs a.node a.element task.beside task.does task.elements a.steps
      (each_from (Has a.element) task.elements a.members)
