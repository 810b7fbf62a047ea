-- What is said of tasks element by element, and of stages member by member.
use Rattle.std.proofs.Common.{◌≡◌, ℕ, ◌+◌, Bool, true, false, cond, ◌&&◌, List, [], ◌∷◌, ◌++◌, Option, None, Some, refl, sym, ap, ◌∙◌, arith}
use Rattle.std.specs.Prelude.{◌==◌}
use Rattle.std.specs.List.{AllByRecursion, flat_map}
use Rattle.flume_value.specs.declared.value.Value.{Value}
use Rattle.flume_value.specs.Bag.{bag_of}
use Rattle.flume_value.proofs.EachLemmas.{Each-left, Each-right}
use Rattle.flume_collection.specs.declared.trap.Trap.{Trap}
use Rattle.flume_collection.specs.Collection.{Collection}
use Rattle.shards.proofs.Alike.{Alike, alike_append, alike_back, alike_bag, alike_is, alike_then, flat_map-nothing, flat_map-itself}
use Rattle.exec_plan.specs.of_exec_graph.World.{World}
use Rattle.exec_plan.specs.of_exec_graph.Calls.{emitted, trapped, is_own}
use Rattle.exec_plan.specs.of_exec_graph.Forests.{Label, Forest, Bare, Grow}
use Rattle.exec_plan.specs.of_exec_graph.Meaning.{through, total}
use Rattle.exec_plan.specs.Channels.{Fed, value_on, world_in}
use Rattle.exec_plan.specs.Meaning.{Parts, fed_sum, in_sum, own_parts, total_of}
use Rattle.task_lists.specs.Runs.{labels_in, visits_of, traps_in_order}
use Rattle.task_lists.specs.Tasks.{world_for}
use Rattle.task_lists.specs.Plans.{AreFirstBeside, SaysOfTasks, task_traps}
use Rattle.task_lists.proofs.Elements.{each_step}

-- what is said of a step on an element in a world, of a group of an origin that is its own bag or
-- not, and of an object that is made for one
pub record Each (Y : Type 0) : Type 0 where
  pub steps : World → Label → Value → List Y
  pub groups : ℕ → Bool → Value → List Y
  pub objects : ℕ → Bool → Collection → List Y

abbrev pub each_says : {Y : Type 0} → World → Each Y → SaysOfTasks Y
each_says w q = record {
  maps = λ task. flat_map (visits_of (world_for w task) (q.steps (world_for w task)) task.does)
      task.elements;
  reduces = λ g task. flat_map (q.groups g.origin g.last) task.elements
      ++ flat_map (visits_of (world_for w task) (q.steps (world_for w task)) task.does)
      task.elements;
  objects = q.objects;
}

abbrev pub each_parts : {Y : Type 0} → World → Each Y → Parts Y
each_parts w q = record {
  steps = each_step (q.steps w);
  groups = λ o l v. flat_map (q.groups o l) v.bag;
  flat = λ v. [];
}

-- the steps of an input channel, in the world in which they are called
abbrev pub each_in : {Y : Type 0} → World → Each Y → Fed → List Y
each_in w q c =
    total_of (world_in w c.beside) (each_step (q.steps (world_in w c.beside)))
    (value_on c.value c.beside) c.does

-- ---- traps

abbrev pub each_trap : Each Trap
each_trap = record { steps = trapped; groups = λ o l x. []; objects = λ o l c. c.traps }

pub traps_each : (w : World) → task_traps w ≡ each_says w each_trap
traps_each w = λ i. record {
  maps = λ task. traps_in_order (world_for w task) task.does task.elements;
  reduces = λ g task.
      (sym (flat_map-nothing {Y = Trap} task.elements) i)
      ++ traps_in_order (world_for w task) task.does task.elements;
  objects = λ o l c. c.traps;
}

-- ---- members of the bag of a script node

abbrev pub each_own : ℕ → Each Value
each_own i = record {
  steps = λ w l x. cond (is_own i l) (emitted w l x) [];
  groups = λ o l x. cond (l && (o == i)) (x ∷ []) [];
  objects = λ o l c. cond (l && (o == i)) c.bag [];
}

pub flat_if : {X Y : Type 0} (b : Bool) (f : X → List Y) (xs : List X)
    → flat_map (λ x. cond b (f x) []) xs ≡ cond b (flat_map f xs) []
flat_if true f xs = refl
flat_if false f xs = flat_map-nothing xs

pub own_each : (w : World) (i : ℕ) → own_parts w i ≡ each_parts w (each_own i)
own_each w i = λ k. record {
  steps = λ v l. sym (flat_if (is_own i l) (emitted w l) v.bag) k;
  groups = λ o l v. (ap (λ b. cond (l && (o == i)) b []) (sym (flat_map-itself v.bag))
      ∙ sym (flat_if (l && (o == i)) (λ x. x ∷ []) v.bag)) k;
  flat = λ v. [];
}

-- ---- of steps that are called beside an object, and emit to their first outputs

bag_if : (b : Bool) (xs : List Value) → Alike (cond b xs []) (cond b (bag_of xs) [])
bag_if true xs = alike_back (bag_of xs) xs (alike_bag xs)
bag_if false xs = λ u. refl

module _ (i : ℕ) (w : World) where
  abbrev whole : Collection → Label → List Value
  whole v l = cond (l.last && (l.origin == i)) (through w l v).bag []

  own_step : (v : Collection) (l : Label) → l.at ≡ 0
      → Alike (each_step ((each_own i).steps w) v l) (whole v l)
  own_step v l first =
      let emits : List Value = flat_map (emitted w l) v.bag in
      let origin : l.origin + l.at ≡ l.origin = omega (arith, first) in
      let own : Bool = l.last && (l.origin == i) in
      alike_then (each_step ((each_own i).steps w) v l) (cond own emits []) (whole v l)
      (alike_is (each_step ((each_own i).steps w) v l) (cond own emits [])
      (flat_if (is_own i l) (emitted w l) v.bag
      ∙ ap (λ (o : ℕ). cond (l.last && (o == i)) emits []) origin))
      (bag_if own emits)

  own_total : (v : Collection) (f : Forest) → AllByRecursion (λ l. l.at ≡ 0) (labels_in f)
      → Alike (total w (each_step ((each_own i).steps w)) v f) (total w whole v f)
  own_total v Bare first = λ u. refl
  own_total v (Grow l kids rest) first =
      let each = each_step ((each_own i).steps w) in
      let below : Collection = through w l v in
      alike_append (each v l) (whole v l) (total w each below kids ++ total w each v rest)
      (total w whole below kids ++ total w whole v rest) (own_step v l first.0)
      (alike_append (total w each below kids) (total w whole below kids) (total w each v rest)
      (total w whole v rest)
      (own_total below kids (Each-left (λ (d : Label). d.at ≡ 0) (labels_in kids)
      (labels_in rest) first.1))
      (own_total v rest (Each-right (λ (d : Label). d.at ≡ 0) (labels_in kids) (labels_in rest)
      first.1)))

own_fed : (w : World) (i : ℕ) (v : Collection) (o : Option Collection) (f : Option Forest)
    → AreFirstBeside o f
    → Alike (total_of (world_in w o) (each_step ((each_own i).steps (world_in w o)))
    (value_on v o) f) (fed_sum w (own_parts w i) v o f)
own_fed w i v None f first =
    alike_is (total_of w (each_step ((each_own i).steps w)) v f)
    (total_of w (own_parts w i).steps v f)
    (ap (λ (q : Parts Value). total_of w q.steps v f) (sym (own_each w i)))
own_fed w i v (Some object) None first = λ u. refl
own_fed w i v (Some object) (Some f) first =
    own_total i (world_in w (Some object)) (value_on v (Some object)) f first

pub own_in : (w : World) (i : ℕ) (c : Fed) → AreFirstBeside c.beside c.does
    → Alike (each_in w (each_own i) c) (in_sum w (own_parts w i) c)
own_in w i c first = own_fed w i c.value c.beside c.does first
