-- The results of a stage whose types fit have their types.
use Rattle.std.proofs.Common.{◌≡◌, ℕ, zero, suc, ◌+◌, true, false, cond, Bool, List, [], ◌∷◌, ◌++◌, length, length-append, map, Option, Some, None, refl, sym, ap, ◌∙◌, subst, arith}
use Rattle.std.specs.Prelude.{◌==◌, ◌||◌}
use Rattle.std.specs.List.{AllByRecursion, flat_map, slice_get}
use Rattle.std.proofs.lemmas.List.Elements.{All-from_recursion}
use Rattle.flume_value.specs.declared.value.Value.{Value}
use Rattle.flume_value.proofs.EachLemmas.{each_from, Each-append}
use Rattle.flume_types.specs.declared.types.Ty.{Ty}
use Rattle.flume_types.specs.Typing.{Has, AllHave}
use Rattle.flume_collection.specs.Calls.{or_none}
use Rattle.exec_plan.specs.of_exec_graph.World.{World}
use Rattle.exec_plan.specs.of_exec_graph.Forests.{Forest, Bare, Grow, after_out, next_after, new_out, numbered}
use Rattle.exec_plan.specs.of_exec_graph.declared.graph.Place.{Place}
use Rattle.exec_plan.specs.of_exec_graph.Typing.{Signatures, IsWorldTyped}
use Rattle.exec_plan.proofs.of_exec_graph.Barriers.{barrier_typed}
use Rattle.exec_plan.specs.declared.plan.PlanPlace.{PlanPlace}
use Rattle.exec_plan.specs.declared.plan.PlanPlace.TheVariants as at
use Rattle.exec_plan.specs.declared.plan.InChannel.{InChannel}
use Rattle.exec_plan.specs.declared.plan.Grouping.{Grouping}
use Rattle.exec_plan.specs.declared.plan.OutChannel.{OutChannel}
use Rattle.exec_plan.specs.declared.plan.OutChannel.TheVariants.{Group, Pass}
use Rattle.exec_plan.specs.declared.plan.Plan.{Plan}
use Rattle.exec_plan.specs.declared.plan.Stage.{Stage}
use Rattle.exec_plan.specs.declared.plan.Stage.TheVariants.{Mscr, Flatten, Operate}
use Rattle.exec_plan.specs.Channels.{kept_out, outs_of, output_numbers_of}
use Rattle.exec_plan.specs.Typing.{AreStagesTyped, InTyped, InsTyped, IsPlanTyped, take_type, GroupTyped, OutChannelTyped, StageTyped}
use Rattle.exec_plan.specs.Wellformed.{AreOutChannels, Exists, IsNumbered, IsStageOk, is_pass, count_of_outputs, results_given}
use Rattle.exec_plan.proofs.Meeting.{map-length, outs_counted}
use Rattle.task_lists.specs.Tasks.{Split, Lists, gathered}
use Rattle.task_lists.specs.Lists.{calm_list, reduced_lists, given_lists, result_lists, source_lists, with_lists}
use Rattle.task_lists.specs.Plans.{AreFirstBeside, AreSidesFirst, AreStageFirst}
use Rattle.task_lists.specs.Runs.{labels_of}
use Rattle.task_lists.specs.Typing.{AreListsTyped}
use Rattle.task_lists.proofs.Typed.{IsOutput, gathered_typed, reduced_typed}
use Rattle.task_lists.proofs.TypedSides.{calm_good}

-- ---- the numbers of a forest's outputs

abbrev AreFrom : ℕ → List ℕ → Type 0
AreFrom m [] = Unit {0}
AreFrom m (j ∷ js) = (j ≡ m) × AreFrom (suc m) js

from_append : (m : ℕ) (xs ys : List ℕ) → AreFrom m xs → AreFrom (m + length xs) ys
    → AreFrom m (xs ++ ys)
from_append m [] ys g h = let e : m + 0 ≡ m = omega arith in subst (λ n. AreFrom n ys) e h
from_append m (x ∷ xs) ys g h = (
  g.0,
  from_append (suc m) xs ys g.1 (let e : m + suc (length xs) ≡ suc m + length xs = omega arith in
      subst (λ n. AreFrom n ys) e h),
)

one_from : (m : ℕ) (o : Option ℕ) → AreFrom m (kept_out (new_out m o))
one_from m None = tt
one_from m (Some j) = (refl, tt)

one_more : (m : ℕ) (o : Option ℕ) → m + length (kept_out (new_out m o)) ≡ after_out m o
one_more m None = omega arith
one_more m (Some j) = refl

outs_numbered : (m : ℕ) (f : Forest)
    → (m + length (outs_of (numbered m f)) ≡ next_after m f) × AreFrom m (outs_of (numbered m f))
outs_numbered m Bare = (omega arith, tt)
outs_numbered m (Grow l kids rest) =
    let first : ℕ = after_out m l.out in
    let second : ℕ = next_after first kids in
    let here = kept_out (new_out m l.out) in
    let below = outs_of (numbered first kids) in
    let beside = outs_of (numbered second rest) in
    let kid = outs_numbered first kids in
    let other = outs_numbered second rest in (
      omega (
        arith,
        length-append here (below ++ beside),
        length-append below beside,
        one_more m l.out,
        kid.0,
        other.0,
      ),
      from_append m here (below ++ beside) (one_from m l.out)
          (subst (λ n. AreFrom n (below ++ beside)) (sym (one_more m l.out))
          (from_append first below beside kid.1
          (subst (λ n. AreFrom n beside) (sym kid.0) other.1))),
    )

pub numbers_from : (f : Option Forest) → IsNumbered f → AreFrom 0 (output_numbers_of f)
numbers_from None ok = (refl, tt)
numbers_from (Some f) ok = subst (λ g. AreFrom 0 (outs_of g)) ok (outs_numbered 0 f).1

numbers_are : (f : Option Forest) → AllByRecursion (IsOutput f) (output_numbers_of f)
numbers_are None = (refl, tt)
numbers_are (Some f) = all (outs_of f)
  where
    all : (js : List ℕ) → AllByRecursion (IsOutput (Some f)) js
    all [] = tt
    all (j ∷ js) = (tt, all js)

-- ---- results by their numbers

-- the results of stage k from number m on have their types
abbrev TypedFrom : (PlanPlace → Ty) → ℕ → ℕ → List (List Value) → Type 0
TypedFrom types k m [] = Unit {0}
TypedFrom types k m (l ∷ ls) =
    AllByRecursion (Has (types (at.Result k m))) l × TypedFrom types k (suc m) ls

module _ (types : PlanPlace → Ty) (k : ℕ) where
  typed_append : (m : ℕ) (ls ks : List (List Value)) → TypedFrom types k m ls
      → TypedFrom types k (m + length ls) ks → TypedFrom types k m (ls ++ ks)
  typed_append m [] ks g h =
      let e : m + 0 ≡ m = omega arith in subst (λ n. TypedFrom types k n ks) e h
  typed_append m (l ∷ ls) ks g h = (
    g.0,
    typed_append (suc m) ls ks g.1
        (let e : m + suc (length ls) ≡ suc m + length ls = omega arith in
        subst (λ n. TypedFrom types k n ks) e h),
  )

  typed_at : (m i : ℕ) (ls : List (List Value)) → TypedFrom types k m ls
      → AllByRecursion (Has (types (at.Result k (m + i)))) (or_none (slice_get ls i))
  typed_at m i [] h = tt
  typed_at m zero (l ∷ ls) h =
      let e : m + 0 ≡ m = omega arith in
      subst (λ n. AllByRecursion (Has (types (at.Result k n))) l) (sym e) h.0
  typed_at m (suc i) (l ∷ ls) h =
      let e : suc m + i ≡ m + suc i = omega arith in
      subst (λ n. AllByRecursion (Has (types (at.Result k n))) (or_none (slice_get ls i))) e
      (typed_at (suc m) i ls h.1)

  typed_map : (first m : ℕ) (f : ℕ → List Value) (js : List ℕ) → AreFrom m js
      → AllByRecursion (λ j. AllByRecursion (Has (types (at.Result k (first + j)))) (f j)) js
      → TypedFrom types k (first + m) (map f js)
  typed_map first m f [] are h = tt
  typed_map first m f (j ∷ js) are h = (
    subst (λ (n : ℕ). AllByRecursion (Has (types (at.Result k (first + n)))) (f j)) are.0 h.0,
    (let e : first + suc m ≡ suc (first + m) = omega arith in
        subst (λ n. TypedFrom types k n (map f js)) e (typed_map first (suc m) f js are.1 h.1)),
  )

-- ---- the results of a stage

numbers_count : (f : Option Forest) → length (output_numbers_of f) ≡ count_of_outputs f
numbers_count None = refl
numbers_count (Some f) = outs_counted f

module _ (s : Signatures) (w : World) (world : IsWorldTyped s w) (types : PlanPlace → Ty)
    (n : Split) (t : Lists) (lists : AreListsTyped types t) (k : ℕ) where
  module _ (ins : List InChannel) (given : Place → Ty) (typed : InsTyped s types given 0 ins)
    where
      lists_count : (o : OutChannel) → length (given_lists w n t ins o) ≡ results_given o
      lists_count (Group g) =
          map-length (reduced_lists w n t ins g) (output_numbers_of g.does) ∙ numbers_count g.does
      lists_count (Pass i number) = refl

      outs_typed : (passed : Bool) (m : ℕ) (os : List OutChannel) → AreOutChannels ins passed m os
          → AllByRecursion (OutChannelTyped s types given k) os
          → TypedFrom types k m (flat_map (given_lists w n t ins) os)
      outs_typed passed m [] ok fit = tt
      outs_typed passed m (Pass i number ∷ os) ok fit =
          let here : AllByRecursion (Has (types (at.Result k m))) (gathered w n t ins (i ∷ [])) =
          subst (λ r. AllByRecursion (Has r) (gathered w n t ins (i ∷ [])))
          (sym fit.0 ∙ ap (λ (j : ℕ). types (at.Result k j)) ok.0.0)
          (gathered_typed s w world types n t lists ins given typed (take_type given i) (i ∷ [])
          (ok.0.1, tt) (refl, tt)) in
          let next : m + 1 ≡ suc m = omega arith in (
            here,
            subst (λ j. TypedFrom types k j (flat_map (given_lists w n t ins) os)) next
                (outs_typed (passed || is_pass (Pass i number)) (m + 1) os ok.1 fit.1),
          )
      outs_typed passed m (Group g ∷ os) ok fit =
          let each : (js : List ℕ) → AllByRecursion (IsOutput g.does) js
          → AllByRecursion (λ j. AllByRecursion (Has (types (at.Result k (g.first + j))))
          (reduced_lists w n t ins g j)) js = all_reduced g fit.0 ok.0.takes in
          let start : g.first + 0 ≡ m = omega (arith, ok.0.first) in
          let here : TypedFrom types k m (given_lists w n t ins (Group g)) =
          subst (λ j. TypedFrom types k j (given_lists w n t ins (Group g))) start
          (typed_map types k g.first 0 (reduced_lists w n t ins g) (output_numbers_of g.does)
          (numbers_from g.does ok.0.steps) (each (output_numbers_of g.does) (numbers_are g.does)))
          in
          typed_append types k m (given_lists w n t ins (Group g))
          (flat_map (given_lists w n t ins) os) here
          (subst (λ l. TypedFrom types k (m + l) (flat_map (given_lists w n t ins) os))
          (sym (lists_count (Group g)))
          (outs_typed (passed || is_pass (Group g)) (m + results_given (Group g)) os ok.1 fit.1))
        where
          all_reduced : (g : Grouping) → GroupTyped s types given k g
              → AllByRecursion (Exists ins) g.takes → (js : List ℕ)
              → AllByRecursion (IsOutput g.does) js
              → AllByRecursion (λ j. AllByRecursion (Has (types (at.Result k (g.first + j))))
              (reduced_lists w n t ins g j)) js
          all_reduced g gt there [] are = tt
          all_reduced g gt there (j ∷ js) are = (
            reduced_typed s w world types n t lists ins given typed k g j gt there are.0,
            all_reduced g gt there js are.1,
          )

  takes_typed : (takes : List PlanPlace)
      → AllByRecursion (λ c. types c ≡ types (at.Result k 0)) takes
      → AllByRecursion (Has (types (at.Result k 0))) (flat_map t takes)
  takes_typed [] fit = tt
  takes_typed (c ∷ cs) fit =
      Each-append (Has (types (at.Result k 0))) (t c) (flat_map t cs)
      (subst (λ r. AllByRecursion (Has r) (t c)) fit.0 (each_from (Has (types c)) (t c) (lists c)))
      (takes_typed cs fit.1)

  results_typed : (sources : ℕ) (before : List Stage) (stage : Stage)
      → StageTyped s types k stage → IsStageOk sources before stage
      → TypedFrom types k 0 (result_lists w n t stage)
  results_typed sources before (Mscr m) fit ok =
      outs_typed m.inputs fit.outs fit.inputs false 0 m.outputs ok.channels fit.outputs
  results_typed sources before (Flatten takes) fit ok = (takes_typed takes fit, tt)
  results_typed sources before (Operate takes o l a) fit ok = (
    barrier_typed s w world o a (map types takes) (types (at.Result k 0)) fit
        (map (calm_list t) takes) (calm_good types t lists takes),
    tt,
  )

  pub table_typed : (sources : ℕ) (before : List Stage) (stage : Stage)
      → StageTyped s types k stage → IsStageOk sources before stage
      → AreListsTyped types (with_lists k (result_lists w n t stage) t)
  table_typed sources before stage fit ok (at.Source r) = lists (at.Source r)
  table_typed sources before stage fit ok (at.Result j number) =
      elim (j == k) as
      (λ b. (j == k) ≡ b → AllHave (types (at.Result j number))
      (cond b (or_none (slice_get (result_lists w n t stage) number)) (t (at.Result j number)))) [
        | true ↦ λ e.
            let same : k ≡ j = grind (arith, e) in
            let here : 0 + number ≡ number = omega arith in
            let xs : List Value = or_none (slice_get (result_lists w n t stage) number) in
            All-from_recursion (Has (types (at.Result j number))) xs
            (subst (λ (l : ℕ). AllByRecursion (Has (types (at.Result l number))) xs) same
            (subst (λ (l : ℕ). AllByRecursion (Has (types (at.Result k l))) xs) here
            (typed_at types k 0 number (result_lists w n t stage)
            (results_typed sources before stage fit ok))))
        | false ↦ λ e. lists (at.Result j number)
      ] refl

pub begin_typed : (s : Signatures) (w : World) (types : PlanPlace → Ty) → IsWorldTyped s w
    → ((r : ℕ) → types (at.Source r) ≡ s.inputs r) → AreListsTyped types (source_lists w)
begin_typed s w types world fit (at.Source r) =
    subst (λ (u : Ty). AllHave u (w.rows r)) (sym (fit r)) (world.rows r)
begin_typed s w types world fit (at.Result k number) =
    All-from_recursion (Has (types (at.Result k number))) [] tt

-- ---- steps that are called beside an object emit to their first outputs

module _ (s : Signatures) (types : PlanPlace → Ty) where
  in_first : (outs : Place → Ty) (n : ℕ) (t : Ty) (o : Option PlanPlace) (f : Option Forest)
      → InTyped s types outs n t o f → AreFirstBeside o f
  in_first outs n t None f typed = tt
  in_first outs n t (Some c) None typed = absurd typed
  in_first outs n t (Some c) (Some f) typed =
      subst (λ (g : Forest). AllByRecursion (λ l. l.at ≡ 0) (labels_of (Some g))) (sym typed.alone)
      (typed.first, tt)

  ins_first : (outs : Place → Ty) (n : ℕ) (ins : List InChannel) → InsTyped s types outs n ins
      → AllByRecursion (λ c. AreFirstBeside c.beside c.does) ins
  ins_first outs n [] typed = tt
  ins_first outs n (c ∷ cs) typed =
      (in_first outs n (types c.reads) c.beside c.does typed.0, ins_first outs (suc n) cs typed.1)

  stages_first : (k : ℕ) (ss : List Stage) → AreStagesTyped s types k ss
      → AllByRecursion AreStageFirst ss
  stages_first k [] typed = tt
  stages_first k (Mscr m ∷ ss) typed =
      (ins_first typed.0.outs 0 m.inputs typed.0.inputs, stages_first (suc k) ss typed.1)
  stages_first k (Flatten takes ∷ ss) typed = (tt, stages_first (suc k) ss typed.1)
  stages_first k (Operate takes o l a ∷ ss) typed = (tt, stages_first (suc k) ss typed.1)

pub sides_first : (s : Signatures) (p : Plan) → IsPlanTyped s p → AreSidesFirst p
sides_first s p typed = stages_first s typed.0 1 p.stages typed.1.stages
