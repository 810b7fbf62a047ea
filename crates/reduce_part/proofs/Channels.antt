-- The grouping channels of a stage.
use Rattle.std.proofs.Common.{◌≡◌, ◌<◌, ◌+◌, ◌/◌, ◌%◌, ℕ, zero, suc, true, false, List, [], ◌∷◌, length, get_or, Some, refl, sym, ap, ◌∙◌, subst, arith}
use Rattle.std.specs.Prelude.{IfOk, Result, Ok, Err, slice_get}
use Rattle.std.proofs.lemmas.Nat.{div_below, mod_below}
use Rattle.std.proofs.lemmas.Option.{get_or_from_slice_get, slice_get_within}
use Rattle.flume_value.specs.declared.value.Value.{Value}
use Rattle.flume_collection.specs.declared.trap.Trap.{Trap}
use Rattle.flume_collection.specs.Calls.{Called}
use Rattle.bag_groups.specs.Groups.{grouped}
use Rattle.crew.specs.declared.attempts.Attempt.{Attempt}
use Rattle.crew.specs.declared.attempts.Attempt.TheVariants.{Made, Down}
use Rattle.crew.specs.Attempts.{MadeHas}
use Rattle.exec_graph.specs.World.{World}
use Rattle.exec_plan.specs.Wellformed.{AreOutChannels, results_given}
use Rattle.exec_plan.specs.declared.plan.Grouping.{Grouping}
use Rattle.exec_plan.specs.declared.plan.InChannel.{InChannel}
use Rattle.exec_plan.specs.declared.plan.OutChannel.{OutChannel}
use Rattle.exec_plan.specs.declared.plan.OutChannel.TheVariants.{Group, Pass}
use Rattle.exec_plan.specs.declared.plan.Take.{Take}
use Rattle.lifted_root.specs.of_task_lists.Tasks.{groupings}
use Rattle.reduce_part.specs.Reducing.{AreGroupsFirst, CanReduce, IsReducedFrom, IsReducible, IsReducingValue, Reducing, channel_at, reducing_count, reducing_places}
use Rattle.reduce_part.specs.declared.out.ReduceOut.{ReduceOut}
use Rattle.reduce_part.proofs.Gathering.{places_gathered}

-- behind a pass-through channel none groups
none_behind : (ins : List InChannel) (n : ℕ) (channels : List OutChannel)
    → AreOutChannels ins true n channels → groupings channels ≡ []
none_behind ins n [] ok = refl
none_behind ins n (Group g ∷ channels) ok = cc ok.0.before
none_behind ins n (Pass k i ∷ channels) ok = none_behind ins (n + 1) channels ok.1

pub groups_first : (ins : List InChannel) (n : ℕ) (channels : List OutChannel)
    → AreOutChannels ins false n channels → AreGroupsFirst channels
groups_first ins n [] ok r g is = cc is
groups_first ins n (Group h ∷ channels) ok zero g is =
    let same : h ≡ g = cc in ap (λ (c : Grouping). Some (Group c)) same
groups_first ins n (Group h ∷ channels) ok (suc r) g is =
    groups_first ins (n + results_given (Group h)) channels ok.1 r g is
groups_first ins n (Pass k i ∷ channels) ok r g is =
    let none : slice_get [] r ≡ Some g =
    sym (ap (λ (l : List Grouping). slice_get l r) (none_behind ins (n + 1) channels ok.1)) ∙ is in
    cc none

-- ---- the channel of a task
get_below : {X : Type 0} (xs : List X) (i : ℕ) → i < length xs
    → (x : X) × (slice_get xs i ≡ Some x)
get_below [] i h = absurd (omega arith)
get_below (x ∷ xs) zero h = (x, refl)
get_below (x ∷ xs) (suc i) h = get_below xs i (omega arith)

module _ {F : Type 0} {r : Reducing F} {w : World} {takes : ℕ → Value → Type 0}
    (can : CanReduce w takes r) (k : ℕ) (below : k < reducing_count r) (channels : List OutChannel)
    (same : channels ≡ r.stage.outputs) where
  found : (g : Grouping) × (channel_at r k ≡ Some g)
  found =
      get_below (groupings r.stage.outputs) (k / r.partitions)
      (div_below k r.partitions (length (groupings r.stage.outputs)) can.partitions below)

  -- it stands at its place among the output channels
  output_is : slice_get channels (k / r.partitions) ≡ Some (Group found.0)
  output_is =
      ap (λ (l : List OutChannel). slice_get l (k / r.partitions)) same
      ∙ can.first (k / r.partitions) found.0 found.1

  pub channel_within : k / r.partitions < length channels
  channel_within =
      slice_get_within channels (k / r.partitions) (Group found.0) output_is

  module _ (o : OutChannel) (is : o ≡ get_or channels (k / r.partitions) o) where
    channel_is : o ≡ Group found.0
    channel_is =
        is ∙ get_or_from_slice_get channels (k / r.partitions) (Group found.0) o output_is

    pub no_pass : (t : Take) (n : ℕ) → o ≡ Pass t n → ⊥
    no_pass t n e = let both : Pass t n ≡ Group found.0 = sym e ∙ channel_is in cc both

    groups_by : (g : Grouping) → o ≡ Group g → channel_at r k ≡ Some g
    groups_by g e =
        let both : Group found.0 ≡ Group g = sym channel_is ∙ e in
        let one : found.0 ≡ g = cc in found.1 ∙ ap Some one

    pub task_ready : (g : Grouping) → o ≡ Group g
        → IsReducible w takes r.outs (k / r.partitions) (k % r.partitions) g
    task_ready g e =
        can.ready (k / r.partitions) (k % r.partitions) g (groups_by g e)
        (mod_below k r.partitions can.partitions)

    module _ (g : Grouping) (e : o ≡ Group g) {x : Reducing F} (view : r ≡ x) where
      -- it has as many places as the pairs that are gathered there have groups
      pub places_are : length (grouped (task_ready g e).pairs) ≡ reducing_places x k
      places_are =
          sym (places_gathered r k g (task_ready g e).pairs (groups_by g e)
          (task_ready g e).gathered)
          ∙ ap (λ y. reducing_places y k) view

      value_is : (called : ℕ → Value → Called) (out : Result ReduceOut Trap)
          → IsReducedFrom called r.outs (k / r.partitions) (k % r.partitions) g out
          → IsReducingValue called r k out
      value_is called out is h there =
          let both : Some g ≡ Some h = sym (groups_by g e) ∙ there in
          let one : g ≡ h = cc in
          subst (λ (c : Grouping).
          IsReducedFrom called r.outs (k / r.partitions) (k % r.partitions) c out) one is

      values_are : {E : Type 0} (called : ℕ → Value → Called)
          (a : Result (Attempt (Result ReduceOut Trap)) E)
          → IfOk a (MadeHas
          (IsReducedFrom called r.outs (k / r.partitions) (k % r.partitions) g))
          → IfOk a (MadeHas (IsReducingValue called r k))
      values_are called (Ok (Made out)) is = value_is called out is
      values_are called (Ok Down) is = tt
      values_are called (Err fault) is = tt

      pub values_by : {E : Type 0} (called : F → ℕ → Value → Called)
          (a : Result (Attempt (Result ReduceOut Trap)) E)
          → IfOk a (MadeHas
          (IsReducedFrom (called r.functions) r.outs (k / r.partitions) (k % r.partitions) g))
          → IfOk a (MadeHas (IsReducingValue (called x.functions) x k))
      values_by called a is =
          subst (λ (y : Reducing F). IfOk a (MadeHas (IsReducingValue (called y.functions) y k)))
          view (values_are (called r.functions) a is)
