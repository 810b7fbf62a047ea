-- What the legs of a task come to together.
use Rattle.std.proofs.Common.{◌≡◌, ◌+◌, ◌-◌, ◌^◌, ℕ, zero, suc, true, false, cond, Bool, ◌&&◌, ◌||◌, not, List, [], ◌∷◌, ◌++◌, length, map, Option, Some, None, refl, sym, ap, ◌∙◌, subst, arith, append-nil, append_assoc}
use Rattle.std.specs.Prelude.{◌==◌, All, Ok, Result, drop, min, slice_get}
use Rattle.std.specs.List.{AllByRecursion, AllZip, list_all, list_any}
use Rattle.std.proofs.lemmas.Bool.{and_parts}
use Rattle.std.proofs.lemmas.Grind.{flat_map-append}
use Rattle.std.proofs.lemmas.List.Elements.{All-from_recursion, recursion_from_All}
use Rattle.flume_value.specs.declared.value.Value.{Value}
use Rattle.flume_value.proofs.EachLemmas.{Each-left, Each-right}
use Rattle.flume_collection.specs.declared.trap.Trap.{Trap}
use Rattle.flume_collection.specs.Calls.{or_none}
use Rattle.bag_groups.specs.Pairs.{IsPair}
use Rattle.combine_table.specs.declared.comb.Comb.{Comb}
use Rattle.partial_tables.specs.Merges.{IsCombinable}
use Rattle.exec_graph.specs.Calls.{trapped}
use Rattle.exec_graph.specs.Forests.{Forest}
use Rattle.exec_graph.specs.World.{World}
use Rattle.exec_plan.specs.Channels.{output_numbers_of}
use Rattle.exec_plan.specs.declared.plan.OutChannel.{OutChannel}
use Rattle.exec_plan.specs.declared.plan.OutChannel.TheVariants.{Group, Pass}
use Rattle.exec_plan.specs.declared.plan.Take.{Take}
use Rattle.task_safety.specs.of_task_lists.Runs.{all_emissions, counts_of, emissions_at, kept_count, output_at, traps_in_order, visits_of}
use Rattle.task_safety.specs.of_task_lists.Typing.{AreGroupable}
use Rattle.task_safety.proofs.of_forest_courses.Counting.{emits, emits_length, emits_more, plus}
use Rattle.task_safety.specs.of_forest_courses.Courses.{IsCourse, IsUntrapped}
use Rattle.forest_steps.specs.Running.{Given}
use Rattle.forest_steps.specs.Safety.{SafeOf}
use Rattle.map_shard.specs.declared.filling.Filling.{Filling}
use Rattle.map_shard.specs.declared.legs.Legs.{Legs}
use Rattle.map_shard.specs.declared.legs.Steps.{Steps}
use Rattle.map_shard.specs.inner.Fillings.{IsFilled, IsFilling}
use Rattle.map_shard.specs.inner.Legs.{AreLegs, CanRunIn, count_with, each_with}
use Rattle.map_shard.specs.inner.Sending.{CanSend, taken, takes_of}
use Rattle.map_shard.specs.inner.Single.{is_single, takes_once}

not_true : (x : Bool) → not x ≡ true → x ≡ false
not_true true e = cc
not_true false e = refl

-- ---- each with the one at its place, one after another

pub with_next : {A B C : Type 0} (f : A → Option B → C) (done grown : List C) (x : A) (y : C)
    (o : Option B) (xs left : List A) (ys next : List B) (whole : List C) → left ≡ x ∷ xs
    → o ≡ slice_get ys 0 → next ≡ drop 1 ys → y ≡ f x o → grown ≡ done ++ y ∷ []
    → done ++ each_with f left ys ≡ whole → grown ++ each_with f xs next ≡ whole
with_next f done grown x y o xs left ys next whole is first rest made push goes =
    (λ i. push i ++ each_with f xs (rest i))
    ∙ append_assoc done (y ∷ []) (each_with f xs (drop 1 ys))
    ∙ ap (λ z. done ++ z ∷ each_with f xs (drop 1 ys)) (made ∙ ap (f x) first)
    ∙ ap (λ l. done ++ each_with f l ys) (sym is) ∙ goes

-- ---- takes of which one at most is of input channel m
none_taken : (m : ℕ) (lists : List (List Value)) (ks : List Take)
    → list_any (λ (o : Take). o.channel == m) ks ≡ false → taken m lists ks ≡ []
none_taken m lists [] e = refl
none_taken m lists (k ∷ ks) e = elim (k.channel == m) as
    (λ b. (b || list_any (λ (o : Take). o.channel == m) ks) ≡ false
    → cond b (or_none (slice_get lists k.out)) [] ++ taken m lists ks ≡ []) [
      | true ↦ λ e. cc
      | false ↦ λ e. none_taken m lists ks e
    ] e

takes_single : (m : ℕ) (o : OutChannel) → is_single m o ≡ true → takes_once m (takes_of o) ≡ true
takes_single m (Pass k n) e = elim (k.channel == m) as (λ b. cond b true true ≡ true) [
  | true ↦ refl
  | false ↦ refl
]
takes_single m (Group g) e = e

-- ---- what the steps give of elements and more elements
module _ (w : World) (does : Option Forest) (xs ys : List Value) where
  given_both : (ns : List ℕ) (j : ℕ)
      → or_none (slice_get (map (emissions_at w does (xs ++ ys)) ns) j)
      ≡ or_none (slice_get (map (emissions_at w does xs) ns) j)
      ++ or_none (slice_get (map (emissions_at w does ys) ns) j)
  given_both [] zero = refl
  given_both [] (suc j) = refl
  given_both (n ∷ ns) zero = flat_map-append (output_at w does n) xs ys
  given_both (n ∷ ns) (suc j) = given_both ns j

  abbrev Taken : ℕ → List Value → List Take → List Value
  Taken m zs ks = taken m (all_emissions w does zs) ks

  taken_both : (m : ℕ) (ks : List Take) → takes_once m ks ≡ true
      → Taken m (xs ++ ys) ks ≡ Taken m xs ks ++ Taken m ys ks
  taken_both m [] e = refl
  taken_both m (k ∷ ks) e =
      let at : List Value → List Value =
      λ zs. or_none (slice_get (all_emissions w does zs) k.out) in
      elim (k.channel == m) as
      (λ b. cond b (not (list_any (λ (o : Take). o.channel == m) ks)) (takes_once m ks) ≡ true
      → cond b (at (xs ++ ys)) [] ++ Taken m (xs ++ ys) ks
      ≡ (cond b (at xs) [] ++ Taken m xs ks) ++ (cond b (at ys) [] ++ Taken m ys ks)) [
        | true ↦ λ once.
            let others = not_true (list_any (λ (o : Take). o.channel == m) ks) once in
            let none : (zs : List Value) → Taken m zs ks ≡ [] =
            λ zs. none_taken m (all_emissions w does zs) ks others in
            ap (λ l. at (xs ++ ys) ++ l) (none (xs ++ ys)) ∙ append-nil (at (xs ++ ys))
            ∙ given_both (output_numbers_of does) k.out
            ∙ (λ i. sym (append-nil (at xs)) i ++ sym (append-nil (at ys)) i)
            ∙ (λ i. (at xs ++ sym (none xs) i) ++ (at ys ++ sym (none ys) i))
        | false ↦ λ once. taken_both m ks once
      ] e

  traps_both : traps_in_order w does (xs ++ ys)
      ≡ traps_in_order w does xs ++ traps_in_order w does ys
  traps_both = flat_map-append (visits_of w (trapped w) does) xs ys

kept_plus : (ns ms : List ℕ) → length ns ≡ length ms
    → map kept_count (plus ns ms)
    ≡ each_with count_with (map kept_count ns) (map kept_count ms)
kept_plus [] [] h = refl
kept_plus [] (m ∷ ms) h = absurd (omega (arith, h))
kept_plus (n ∷ ns) [] h = absurd (omega (arith, h))
kept_plus (n ∷ ns) (m ∷ ms) h =
    let same : kept_count (n + m) ≡ min (kept_count n + kept_count m) (2 ^ 64 - 1) =
    omega arith in
    λ i. same i ∷ kept_plus ns ms (omega (arith, h)) i

counts_both : (w : World) (does : Option Forest) (xs ys : List Value)
    → map kept_count (counts_of w does (xs ++ ys))
    ≡ each_with count_with (map kept_count (counts_of w does xs))
    (map kept_count (counts_of w does ys))
counts_both w None xs ys = refl
counts_both w (Some f) xs ys =
    ap (map kept_count) (emits_more w f xs ys)
    ∙ kept_plus (emits w f xs) (emits w f ys) (emits_length w f xs ∙ sym (emits_length w f ys))

-- ---- what is fit of all elements is fit of each leg
split_all : (P : Value → Type 0) (us vs : List Value) → All P (us ++ vs) → All P us × All P vs
split_all P us vs all =
    let each = recursion_from_All P (us ++ vs) all in (
      All-from_recursion P us (Each-left P us vs each),
      All-from_recursion P vs (Each-right P us vs each),
    )

split_groupable : (l : Option Comb) (us vs : List Value) → AreGroupable l (us ++ vs)
    → AreGroupable l us × AreGroupable l vs
split_groupable None us vs all = split_all IsPair us vs all
split_groupable (Some c) us vs all = split_all (IsCombinable c) us vs all

module _ (w : World) (m : ℕ) (does : Option Forest) (xs ys : List Value) where
  fit_one : (o : OutChannel) → is_single m o ≡ true
      → CanSend m (all_emissions w does (xs ++ ys)) o
      → CanSend m (all_emissions w does xs) o × CanSend m (all_emissions w does ys) o
  fit_one (Pass k n) e fit = (tt, tt)
  fit_one (Group g) e fit =
      split_groupable g.lifted (taken m (all_emissions w does xs) g.takes)
      (taken m (all_emissions w does ys) g.takes)
      (subst (AreGroupable g.lifted) (taken_both w does xs ys m g.takes e) fit)

  fit_both : (os : List OutChannel) → list_all (is_single m) os ≡ true
      → AllByRecursion (CanSend m (all_emissions w does (xs ++ ys))) os
      → AllByRecursion (CanSend m (all_emissions w does xs)) os
      × AllByRecursion (CanSend m (all_emissions w does ys)) os
  fit_both [] e all = (tt, tt)
  fit_both (o ∷ os) e all =
      let each = and_parts (is_single m o) (list_all (is_single m) os) e in
      let one = fit_one o each.0 all.0 in
      let rest = fit_both os each.1 all.1 in
      ((one.0, rest.0), (one.1, rest.1))

module _ {F : Type 0} (w : World) (steps : Steps F) (takes : ℕ → Value → Type 0)
    (single : list_all (is_single steps.m) steps.channels.now ≡ true) where
  pub can_both : (xs ys whole : List Value) → xs ++ ys ≡ whole → CanRunIn w steps takes whole
      → CanRunIn w steps takes xs × CanRunIn w steps takes ys
  can_both xs ys whole is can =
      let P = SafeOf w takes steps.does.now in
      let all = subst (CanRunIn w steps takes) (sym is) can in
      let fit = fit_both w steps.m steps.does.now xs ys steps.channels.now single all.fit in
      let part : (zs : List Value) → AllByRecursion P zs
      → AllByRecursion (CanSend steps.m (all_emissions w steps.does.now zs)) steps.channels.now
      → CanRunIn w steps takes zs =
      λ zs safe fit. record {
        some = all.some;
        numbered = all.numbered;
        taken = all.taken;
        safe = safe;
        fit = fit;
      } in
      (part xs (Each-left P xs ys all.safe) fit.0, part ys (Each-right P xs ys all.safe) fit.1)

-- what the steps gave is fit for the output channels
pub given_fit : (w : World) (m : ℕ) (does : Option Forest) (os : List OutChannel)
    (xs : List Value) (came : Result Given Trap) (given : Given) → IsCourse w does xs came
    → came ≡ Ok given → AllByRecursion (CanSend m (all_emissions w does xs)) os
    → AllByRecursion (CanSend m given.lists) os
given_fit w m does os xs came given course is =
    let made : IsUntrapped w does xs given = subst (IsCourse w does xs) is course in
    subst (λ (ls : List (List Value)). AllByRecursion (CanSend m ls) os) (sym made.lists)

-- ---- the first leg
module _ (w : World) (p m : ℕ) (does : Option Forest) (xs : List Value) where
  pub leg_is : (os : List OutChannel) (given : Given) (legs : Legs) → IsCourse w does xs (Ok given)
      → AllZip (IsFilled p (taken m given.lists)) os legs.fillings.items
      → legs.counts.items ≡ given.counts → AreLegs w p m does os xs legs
  leg_is os given legs course filled counts = record {
    calm = course.calm;
    filled = subst (λ (ls : List (List Value)). AllZip (IsFilled p (taken m ls)) os
        legs.fillings.items) course.lists filled;
    counts = counts ∙ course.counts;
  }

-- ---- a leg behind others
module _ (w : World) (p m : ℕ) (does : Option Forest) (xs ys : List Value) where
  abbrev Side : List Value → List Take → List Value
  Side zs takes = taken m (all_emissions w does zs) takes

  filled_one : (o : OutChannel) (f : Filling) → is_single m o ≡ true
      → IsFilled p (λ takes. Side xs takes ++ Side ys takes) o f → IsFilled p (Side (xs ++ ys)) o f
  filled_one o f e =
      subst (IsFilling p o f)
      (sym (taken_both w does xs ys m (takes_of o) (takes_single m o e)))

  filled_all : (os : List OutChannel) (fs : List Filling) → list_all (is_single m) os ≡ true
      → AllZip (IsFilled p (λ takes. Side xs takes ++ Side ys takes)) os fs
      → AllZip (IsFilled p (Side (xs ++ ys))) os fs
  filled_all [] [] e z = tt
  filled_all [] (f ∷ fs) e z = absurd z
  filled_all (o ∷ os) [] e z = absurd z
  filled_all (o ∷ os) (f ∷ fs) e z =
      let each = and_parts (is_single m o) (list_all (is_single m) os) e in
      (filled_one o f each.0 z.0, filled_all os fs each.1 z.1)

  pub legs_joined : (os : List OutChannel) → list_all (is_single m) os ≡ true
      → (old new : Legs) (given : Given) → AreLegs w p m does os xs old
      → IsCourse w does ys (Ok given)
      → AllZip (IsFilled p (λ takes. Side xs takes ++ taken m given.lists takes)) os
      new.fillings.items
      → new.counts.items ≡ each_with count_with old.counts.items given.counts
      → AreLegs w p m does os (xs ++ ys) new
  legs_joined os e old new given legs course filled counts = record {
    calm = traps_both w does xs ys ∙ (λ i. legs.calm i ++ course.calm i);
    filled = filled_all os new.fillings.items e
        (subst (λ (ls : List (List Value)).
        AllZip (IsFilled p (λ takes. Side xs takes ++ taken m ls takes)) os new.fillings.items)
        course.lists filled);
    counts = counts ∙ (λ i. each_with count_with (legs.counts i) (course.counts i))
        ∙ sym (counts_both w does xs ys);
  }

  -- ---- the first trap of both
  pub trap_behind : (trap : Trap) → traps_in_order w does xs ≡ []
      → slice_get (traps_in_order w does ys) 0 ≡ Some trap
      → slice_get (traps_in_order w does (xs ++ ys)) 0 ≡ Some trap
  trap_behind trap calm e =
      ap (λ ts. slice_get ts 0)
      (traps_both w does xs ys ∙ ap (λ ts. ts ++ traps_in_order w does ys) calm) ∙ e

  first_stays : (ts us : List Trap) (trap : Trap) → slice_get ts 0 ≡ Some trap
      → slice_get (ts ++ us) 0 ≡ Some trap
  first_stays [] us trap e = cc
  first_stays (t ∷ ts) us trap e = e

  pub trap_before : (trap : Trap) → slice_get (traps_in_order w does xs) 0 ≡ Some trap
      → slice_get (traps_in_order w does (xs ++ ys)) 0 ≡ Some trap
  trap_before trap e =
      ap (λ ts. slice_get ts 0) (traps_both w does xs ys)
      ∙ first_stays (traps_in_order w does xs) (traps_in_order w does ys) trap e
