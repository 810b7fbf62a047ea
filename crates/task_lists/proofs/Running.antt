-- What the stages of a well-formed plan add up to over the table that each finds, and over the
-- whole table.
use Rattle.std.proofs.Common.{◌≡◌, ◌<◌, ◌-◌, ℕ, zero, suc, false, eqb, List, [], ◌∷◌, ◌++◌, length, length-append, map, Option, None, Some, refl, sym, ap, arith, ⊎_elim}
use Rattle.std.specs.Prelude.{option_map}
use Rattle.std.specs.List.{AllByRecursion, flat_map, slice_get}
use Rattle.std.proofs.lemmas.Bool.{cases_lt}
use Rattle.std.proofs.lemmas.Option.{slice_get_past}
use Rattle.flume_collection.specs.Collection.{Collection, together}
use Rattle.exec_plan.specs.of_exec_graph.Objects.{act_result}
use Rattle.exec_plan.specs.of_exec_graph.World.{World}
use Rattle.exec_plan.specs.declared.plan.PlanPlace.{PlanPlace}
use Rattle.exec_plan.specs.declared.plan.PlanPlace.TheVariants as at
use Rattle.exec_plan.specs.declared.plan.InChannel.{InChannel}
use Rattle.exec_plan.specs.declared.plan.Stage.{Stage}
use Rattle.exec_plan.specs.declared.plan.Stage.TheVariants.{Mscr, Flatten, Operate}
use Rattle.exec_plan.specs.declared.plan.Plan.{Plan}
use Rattle.exec_plan.specs.Channels.{fed}
use Rattle.exec_plan.specs.Meaning.{Parts, channels_sum, in_reads, stage_sum, object_places, results, with_results, stages_run, sources, plan_collection}
use Rattle.exec_plan.specs.Wellformed.{IsPlaceSoFar, IsStageOk, AreStages, IsPlanOk, results_at}
use Rattle.exec_plan.proofs.Running.{IsBelow, run_below}

-- each stage over the table that it finds
abbrev pub sum_from : {Y : Type 0} → World → Parts Y → ℕ → List Stage → (PlanPlace → Collection)
    → List Y
sum_from w p k [] m = []
sum_from w p k (s ∷ ss) m =
    stage_sum w p m s ++ sum_from w p (suc k) ss (with_results k (results w m s) m)

-- ---- what is made, is made by an earlier stage

none_past : (before : List Stage) (stage : ℕ) → length before < stage
    → results_at before stage ≡ 0
none_past before zero h = refl
none_past before (suc j) h =
    let more : eqb (suc j) 0 ≡ false = grind arith in
    let less : suc j - 1 ≡ j = omega arith in
    let past : slice_get before j ≡ None = slice_get_past before j (omega arith) in
    rw (more, less, past) refl

made_below : (n : ℕ) (before : List Stage) (k : ℕ) (c : PlanPlace) → k ≡ suc (length before)
    → IsPlaceSoFar n before c → IsBelow k c
made_below n before k (at.Source r) e made = tt
made_below n before k (at.Result stage number) e made =
    ⊎_elim (λ h. h)
    (λ h. absurd (let none = none_past before stage (omega arith) in omega (arith, none)))
    (cases_lt stage k)

-- ---- a stage over tables that say the same of what is made before it

module _ (w : World) (n : ℕ) (before : List Stage) (t u : PlanPlace → Collection)
    (same : (c : PlanPlace) → IsPlaceSoFar n before c → t c ≡ u c) where
  object_same : (o : Option PlanPlace) → AllByRecursion (IsPlaceSoFar n before) (object_places o)
      → option_map t o ≡ option_map u o
  object_same None ok = refl
  object_same (Some c) ok = ap (λ (v : Collection). Some v) (same c ok.0)

  feds_same : (cs : List InChannel)
      → AllByRecursion (λ c. AllByRecursion (IsPlaceSoFar n before) (in_reads c)) cs
      → map (fed t) cs ≡ map (fed u) cs
  feds_same [] ok = refl
  feds_same (c ∷ cs) ok = λ i. record {
    value = same c.reads ok.0.0 i;
    beside = object_same c.beside ok.0.1 i;
    does = c.does;
  } ∷ feds_same cs ok.1 i

  takes_same : (takes : List PlanPlace) → AllByRecursion (IsPlaceSoFar n before) takes
      → map t takes ≡ map u takes
  takes_same [] ok = refl
  takes_same (c ∷ cs) ok = λ i. same c ok.0 i ∷ takes_same cs ok.1 i

  stage_same : {Y : Type 0} (p : Parts Y) (s : Stage) → IsStageOk n before s
      → stage_sum w p t s ≡ stage_sum w p u s
  stage_same p (Mscr m) ok = ap (λ cs. channels_sum w p cs m.outputs) (feds_same m.inputs ok.reads)
  stage_same p (Flatten takes) ok = ap (λ cs. p.flat (together cs)) (takes_same takes ok)
  stage_same p (Operate takes o l a) ok =
      ap (λ cs. p.groups o l (act_result w o a cs)) (takes_same takes ok)

-- ---- all stages

next_place : (before : List Stage) (s : Stage) (k : ℕ) → k ≡ suc (length before)
    → suc k ≡ suc (length (before ++ s ∷ []))
next_place before s k e = let l = length-append before (s ∷ []) in omega (arith, e, l)

sum_whole : {Y : Type 0} (w : World) (p : Parts Y) (n : ℕ) (before ss : List Stage)
    (m : PlanPlace → Collection) (k : ℕ) → k ≡ suc (length before) → AreStages n before ss
    → sum_from w p k ss m ≡ flat_map (stage_sum w p (stages_run w k ss m)) ss
sum_whole w p n before [] m k e ok = refl
sum_whole w p n before (s ∷ ss) m k e ok =
    let final : PlanPlace → Collection = stages_run w k (s ∷ ss) m in
    let here : stage_sum w p m s ≡ stage_sum w p final s =
    stage_same w n before m final
    (λ c made. sym (run_below w k (s ∷ ss) m c (made_below n before k c e made))) p s ok.0 in
    let rest = sum_whole w p n (before ++ s ∷ []) ss (with_results k (results w m s) m) (suc k)
    (next_place before s k e) ok.1 in
    λ i. here i ++ rest i

pub plan_sum : {Y : Type 0} (w : World) (q : Parts Y) (p : Plan) → IsPlanOk p
    → sum_from w q 1 p.stages (sources w) ≡ flat_map (stage_sum w q (plan_collection w p)) p.stages
plan_sum w q p ok = sum_whole w q p.sources [] p.stages (sources w) 1 refl ok.stages
