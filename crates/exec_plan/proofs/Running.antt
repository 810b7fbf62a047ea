-- A plan's table keeps what it has, and what a stage gives rests on what it reads alone.
use Rattle.std.proofs.Common.{◌≡◌, ℕ, ◌<◌, Bool, true, false, cond, eqb, List, [], ◌∷◌, ◌++◌, map, Option, Some, None, suc, refl, ap, ◌∙◌, arith}
use Rattle.std.proofs.lemmas.Bool.{eqb-true}
use Rattle.std.specs.Prelude.{option_map}
use Rattle.combine_table.proofs.of_flume_value.EachLemmas.{Each-left, Each-right}
use Rattle.std.specs.List.{AllByRecursion as Each, flat_map, slice_get}
use Rattle.exec_graph.specs.of_flume_collection.Collection.{Collection, together}
use Rattle.exec_graph.specs.World.{World}
use Rattle.exec_graph.specs.Objects.{act_result}
use Rattle.exec_graph.specs.Meaning.{or_nothing}
use Rattle.exec_plan.specs.declared.plan.PlanPlace.{PlanPlace}
use Rattle.exec_plan.specs.declared.plan.PlanPlace.TheVariants as at
use Rattle.exec_plan.specs.declared.plan.InChannel.{InChannel}
use Rattle.exec_plan.specs.declared.plan.Stage.{Stage}
use Rattle.exec_plan.specs.declared.plan.Stage.TheVariants.{Mscr, Flatten, Operate}
use Rattle.exec_plan.specs.Channels.{Fed, fed, channel_gives}
use Rattle.exec_plan.specs.Meaning.{in_reads, results, stages_run, stage_reads, object_places, with_results}

-- ---- the table
-- a source, or a result of a stage below k
abbrev pub IsBelow : ℕ → PlanPlace → Type 0
IsBelow k (at.Source n) = Unit {0}
IsBelow k (at.Result stage number) = stage < k

pub more_below : (k : ℕ) (c : PlanPlace) → IsBelow k c → IsBelow (suc k) c
more_below k (at.Source n) h = tt
more_below k (at.Result stage number) h = omega arith

not_this : {X : Type 0} (v u : X) (b : Bool) → (b ≡ true → ⊥) → cond b v u ≡ u
not_this v u true h = absurd (h refl)
not_this v u false h = refl

pub with_below : (t : PlanPlace → Collection) (cs : List Collection) (k : ℕ) (c : PlanPlace)
    → IsBelow k c → with_results k cs t c ≡ t c
with_below t cs k (at.Source n) h = refl
with_below t cs k (at.Result stage number) h =
    not_this (or_nothing (slice_get cs number)) (t (at.Result stage number)) (eqb stage k)
    (λ e. let same : stage ≡ k = eqb-true stage k e in omega arith)

pub run_below : (w : World) (k : ℕ) (ss : List Stage) (t : PlanPlace → Collection) (c : PlanPlace)
    → IsBelow k c → stages_run w k ss t c ≡ t c
run_below w k [] t c h = refl
run_below w k (s ∷ ss) t c h =
    run_below w (suc k) ss (with_results k (results w t s) t) c (more_below k c h)
    ∙ with_below t (results w t s) k c h

-- ---- stages over tables that are alike
object_alike : (t u : PlanPlace → Collection) (o : Option PlanPlace)
    → Each (λ c. t c ≡ u c) (object_places o) → option_map t o ≡ option_map u o
object_alike t u None a = refl
object_alike t u (Some c) a = ap (λ (v : Collection). Some v) a.0

fed_alike : (t u : PlanPlace → Collection) (cs : List InChannel)
    → Each (λ c. t c ≡ u c) (flat_map in_reads cs) → map (fed t) cs ≡ map (fed u) cs
fed_alike t u [] a = refl
fed_alike t u (c ∷ cs) a =
    let P : PlanPlace → Type 0 = λ d. t d ≡ u d in
    let more : List PlanPlace = flat_map in_reads cs in
    let reads : t c.reads ≡ u c.reads = a.0 in
    let object : option_map t c.beside ≡ option_map u c.beside =
    object_alike t u c.beside (Each-left P (object_places c.beside) more a.1) in
    let rest : map (fed t) cs ≡ map (fed u) cs =
    fed_alike t u cs (Each-right P (object_places c.beside) more a.1) in
    λ i. (let x : Fed = record { value = reads i; beside = object i; does = c.does } in
    x ∷ rest i)

values_alike : (t u : PlanPlace → Collection) (cs : List PlanPlace) → Each (λ c. t c ≡ u c) cs
    → map t cs ≡ map u cs
values_alike t u [] a = refl
values_alike t u (c ∷ cs) a =
    ap (λ (v : Collection). v ∷ map t cs) a.0
    ∙ ap (λ (l : List Collection). u c ∷ l) (values_alike t u cs a.1)

pub results_alike : (w : World) (t u : PlanPlace → Collection) (s : Stage)
    → Each (λ c. t c ≡ u c) (stage_reads s) → results w t s ≡ results w u s
results_alike w t u (Mscr m) a =
    ap (λ (cs : List Fed). flat_map (channel_gives w cs) m.outputs) (fed_alike t u m.inputs a)
results_alike w t u (Flatten takes) a =
    ap (λ (cs : List Collection). together cs ∷ []) (values_alike t u takes a)
results_alike w t u (Operate takes o l d) a =
    ap (λ (cs : List Collection). act_result w o d cs ∷ []) (values_alike t u takes a)
