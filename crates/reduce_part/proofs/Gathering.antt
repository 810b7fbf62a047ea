-- What is gathered of a partition of a grouping channel.
use Rattle.std.proofs.Common.{◌≡◌, ◌/◌, ◌%◌, ℕ, List, length, Option, Some, None, refl, sym, ap, ◌∙◌, subst}
use Rattle.std.specs.Prelude.{All, IfOk, IsSome, IsSomeAnd, Result, Ok, Err, option_and_then, option_map, unwrap_or}
use Rattle.std.specs.List.{AllByRecursion}
use Rattle.flume_value.specs.declared.value.Value.{Value}
use Rattle.flume_collection.specs.declared.trap.Trap.{Trap}
use Rattle.flume_collection.specs.Calls.{Called}
use Rattle.bag_groups.specs.Groups.{grouped}
use Rattle.bag_groups.specs.Pairs.{IsPair, pairs_of}
use Rattle.combine_table.specs.declared.comb.Comb.{Comb}
use Rattle.partial_tables.specs.Merges.{StandFor, merged_by_key}
use Rattle.partial_tables.specs.Tables.{IsPartialOf, Pairs}
use Rattle.shuffle_parts.specs.declared.out.MapOut.{MapOut}
use Rattle.shuffle_parts.specs.Outs.{all_pairs, all_partials}
use Rattle.crew.specs.declared.attempts.Attempt.{Attempt}
use Rattle.crew.specs.declared.attempts.Attempt.TheVariants.{Made, Down}
use Rattle.crew.specs.Attempts.{MadeHas}
use Rattle.exec_graph.specs.Calls.{called}
use Rattle.exec_graph.specs.Forests.{Forest}
use Rattle.exec_graph.specs.World.{World}
use Rattle.exec_graph.specs.declared.step.Does.TheVariants as does
use Rattle.exec_plan.specs.declared.plan.Grouping.{Grouping}
use Rattle.forest_steps.specs.Functions.{world_of}
use Rattle.forest_steps.specs.Safety.{SafeOf}
use Rattle.lifted_root.specs.Lifted.{partial_answer}
use Rattle.lifted_root.proofs.Groups.{any_world, merged_answers, same_length}
use Rattle.reduce_part.specs.Reducing.{IsGathered, IsReducedFrom, IsReducible, IsReduceValue, Reducing, channel_at, group_count, reducing_places}
use Rattle.reduce_part.specs.inner.Merged.{AnswerFor, CanRun, IsValueOf}
use Rattle.reduce_part.specs.declared.out.ReduceOut.{ReduceOut}
use Rattle.reduce_part.proofs.Merging.{merged_shape}

pub some_there : {A : Type 0} (P : A → Type 0) (o : Option A) → IsSomeAnd o P → IsSome o
some_there P None h = absurd h
some_there P (Some x) h = refl

pub many : (w : World) (c : Comb) (merged : Pairs) (groups : List Value)
    → AnswerFor w c merged groups → length merged ≡ length groups
many w c merged groups answers =
    same_length (partial_answer c) (called w (does.Combine c)) merged groups answers

-- as many groups are gathered as whichever pairs are gathered have
pub count_is : (lifted : Option Comb) (outs : List MapOut) (r p : ℕ) (pairs : List Value)
    → IsGathered lifted outs r p pairs
    → group_count lifted outs r p ≡ Some (length (grouped pairs))
count_is None outs r p pairs is = ap (option_map (λ l. length (grouped l))) is.0
count_is (Some c) outs r p pairs is = by (all_partials outs r p) is
  where
    by : (found : Option Pairs) → IsSomeAnd found (λ l. StandFor c l (pairs_of pairs))
        → option_map (λ l. length (merged_by_key c l)) found ≡ Some (length (grouped pairs))
    by None stand = absurd stand
    by (Some partials) stand =
        ap Some (many any_world c (merged_by_key c partials) (grouped pairs)
        (merged_answers any_world c partials pairs stand))

-- so has the task as many places
pub places_gathered : {F : Type 0} (r : Reducing F) (k : ℕ) (g : Grouping) (pairs : List Value)
    → channel_at r k ≡ Some g
    → IsGathered g.lifted r.outs (k / r.partitions) (k % r.partitions) pairs
    → reducing_places r k ≡ length (grouped pairs)
places_gathered r k g pairs at is =
    ap (λ c. unwrap_or (option_and_then
    (λ h. group_count h.lifted r.outs (k / r.partitions) (k % r.partitions)) c) 0) at
    ∙ ap (λ c. unwrap_or c 0)
    (count_is g.lifted r.outs (k / r.partitions) (k % r.partitions) pairs is)

-- ---- of a channel that is not lifted
module _ (outs : List MapOut) (r p : ℕ) (g : Grouping) (unlifted : g.lifted ≡ None) where
  there : (pairs : List Value) → IsGathered g.lifted outs r p pairs
      → (all_pairs outs r p ≡ Some pairs) × All IsPair pairs
  there pairs gathered =
      subst (λ (l : Option Comb). IsGathered l outs r p pairs) unlifted gathered

  module _ (w : World) (takes : ℕ → Value → Type 0) (ready : IsReducible w takes outs r p g) where
    pub pairs_gathered : IsSomeAnd (all_pairs outs r p) (All IsPair)
    pairs_gathered =
        let it = there ready.pairs ready.gathered in
        subst (λ o. IsSomeAnd o (All IsPair)) (sym it.0) it.1

    pub safe_groups : (groups : List Value)
        → ((pairs : List Value) → all_pairs outs r p ≡ Some pairs → groups ≡ grouped pairs)
        → AllByRecursion (SafeOf w takes g.does) groups
    safe_groups groups are =
        let it = there ready.pairs ready.gathered in
        subst (AllByRecursion (SafeOf w takes g.does)) (sym (are ready.pairs it.0)) ready.safe

  module _ (groups : List Value)
      (are : (pairs : List Value) → all_pairs outs r p ≡ Some pairs → groups ≡ grouped pairs) where
    pub count_gathered : (pairs : List Value) → IsGathered g.lifted outs r p pairs
        → length groups ≡ length (grouped pairs)
    count_gathered pairs gathered = ap length (are pairs (there pairs gathered).0)

    from_groups : (called : ℕ → Value → Called) (out : Result ReduceOut Trap)
        → IsValueOf called g.does groups out → IsReducedFrom called outs r p g out
    from_groups called out is w pairs alike gathered =
        subst (λ (l : List Value).
        IsReduceValue w (record { elements = l; beside = None; does = g.does }) out)
        (are pairs (there pairs gathered).0) (is w alike)

    pub groups_reduced : {E : Type 0} (called : ℕ → Value → Called)
        (a : Result (Attempt (Result ReduceOut Trap)) E)
        → IfOk a (MadeHas (IsValueOf called g.does groups))
        → IfOk a (MadeHas (IsReducedFrom called outs r p g))
    groups_reduced called (Ok (Made out)) is = from_groups called out is
    groups_reduced called (Ok Down) is = tt
    groups_reduced called (Err fault) is = tt

-- ---- of a lifted channel
stand : (outs : List MapOut) (r p : ℕ) (g : Grouping) (c : Comb) → g.lifted ≡ Some c
    → (pairs : List Value) → IsGathered g.lifted outs r p pairs
    → IsSomeAnd (all_partials outs r p) (λ l. StandFor c l (pairs_of pairs))
stand outs r p g c lifted pairs gathered =
    subst (λ (l : Option Comb). IsGathered l outs r p pairs) lifted gathered

shape_by : (c : Comb) (pairs : List Value) (o : Option Pairs)
    → IsSomeAnd o (λ l. StandFor c l (pairs_of pairs)) → IsSomeAnd o (All (IsPartialOf c))
shape_by c pairs None stand = stand
shape_by c pairs (Some partials) stand = stand.shape

pub shape_gathered : (w : World) (takes : ℕ → Value → Type 0) (outs : List MapOut) (r p : ℕ)
    (g : Grouping) (c : Comb) → g.lifted ≡ Some c → IsReducible w takes outs r p g
    → IsSomeAnd (all_partials outs r p) (All (IsPartialOf c))
shape_gathered w takes outs r p g c lifted ready =
    shape_by c ready.pairs (all_partials outs r p)
    (stand outs r p g c lifted ready.pairs ready.gathered)

found_by : (P : Pairs → Type 0) (o : Option Pairs) → IsSomeAnd o P
    → (partials : Pairs) × (o ≡ Some partials)
found_by P None h = absurd h
found_by P (Some partials) h = (partials, refl)

-- the accumulators that are there
partials_gathered : (w : World) (takes : ℕ → Value → Type 0) (outs : List MapOut) (r p : ℕ)
    (g : Grouping) (c : Comb) → g.lifted ≡ Some c → IsReducible w takes outs r p g
    → (partials : Pairs) × (all_partials outs r p ≡ Some partials)
partials_gathered w takes outs r p g c lifted ready =
    found_by (All (IsPartialOf c)) (all_partials outs r p)
    (shape_gathered w takes outs r p g c lifted ready)

module _ (called : ℕ → Value → Called) (outs : List MapOut) (r p : ℕ) (g : Grouping) (c : Comb)
    (f : Forest) (merged : Pairs) (lifted : g.lifted ≡ Some c) (does : g.does ≡ Some f)
    (takes : ℕ → Value → Type 0) (ready : IsReducible (world_of called) takes outs r p g)
    (made : (partials : Pairs) → all_partials outs r p ≡ Some partials
    → merged ≡ merged_by_key c partials) where
  found : (partials : Pairs) × (all_partials outs r p ≡ Some partials)
  found = partials_gathered (world_of called) takes outs r p g c lifted ready

  all : merged ≡ merged_by_key c found.0
  all = made found.0 found.1

  pub merged_has_shape : All (IsPartialOf c) merged
  merged_has_shape = subst (All (IsPartialOf c)) (sym all) (merged_shape c found.0)

  answers_for : (pairs : List Value) → IsGathered g.lifted outs r p pairs
      → AnswerFor (world_of called) c merged (grouped pairs)
  answers_for pairs gathered =
      subst (λ (ps : Pairs). AnswerFor (world_of called) c ps (grouped pairs)) (sym all)
      (merged_answers (world_of called) c found.0 pairs
      (subst (λ o. IsSomeAnd o (λ l. StandFor c l (pairs_of pairs))) found.1
      (stand outs r p g c lifted pairs gathered)))

  pub count_merged : (pairs : List Value) → IsGathered g.lifted outs r p pairs
      → length merged ≡ length (grouped pairs)
  count_merged pairs gathered =
      many (world_of called) c merged (grouped pairs) (answers_for pairs gathered)

  pub can_run : CanRun (world_of called) takes c f merged
  can_run = record {
    groups = grouped ready.pairs;
    answers = answers_for ready.pairs ready.gathered;
    safe = subst (λ (d : Option Forest).
        AllByRecursion (SafeOf (world_of called) takes d) (grouped ready.pairs)) does ready.safe;
  }

  reduced_from : (out : Result ReduceOut Trap)
      → ((groups : List Value) → AnswerFor (world_of called) c merged groups
      → IsValueOf called (Some f) groups out)
      → IsReducedFrom called outs r p g out
  reduced_from out is w pairs alike gathered =
      subst (λ (d : Option Forest).
      IsReduceValue w (record { elements = grouped pairs; beside = None; does = d }) out) (sym does)
      (is (grouped pairs) (answers_for pairs gathered) w alike)

  pub all_reduced : {E : Type 0} (a : Result (Attempt (Result ReduceOut Trap)) E)
      → IfOk a (MadeHas (λ out. (groups : List Value)
      → AnswerFor (world_of called) c merged groups
      → IsValueOf called (Some f) groups out))
      → IfOk a (MadeHas (IsReducedFrom called outs r p g))
  all_reduced (Ok (Made out)) is = reduced_from out is
  all_reduced (Ok Down) is = tt
  all_reduced (Err fault) is = tt
