-- The table of lists with the results of one more stage.
use Rattle.std.proofs.Common.{◌≡◌, ◌+◌, ◌-◌, ℕ, zero, suc, true, false, cond, Bool, List, [], ◌∷◌, ◌++◌, length, Some, None, refl, sym, ap, ◌∙◌, arith}
use Rattle.std.specs.Prelude.{◌==◌}
use Rattle.std.specs.List.{slice_get}
use Rattle.flume_value.specs.declared.value.Value.{Value}
use Rattle.flume_collection.specs.Calls.{Called, or_none}
use Rattle.exec_plan.specs.declared.plan.PlanPlace.{PlanPlace}
use Rattle.exec_plan.specs.declared.plan.PlanPlace.TheVariants as at
use Rattle.stage_results.specs.of_map_shard.Tables.{results_or_none, table}
use Rattle.stage_results.specs.of_stage_phases.Stages.{run_world}
use Rattle.task_lists.specs.Lists.{source_lists, with_lists}

same_suc : (i j : ℕ) → (i == j) ≡ (suc i == suc j)
same_suc i j =
    elim (i == j) as (λ b. (i == j) ≡ b → b ≡ (suc i == suc j)) [
      | true ↦ λ e.
          let same : i ≡ j = grind (arith, e) in
          let more : (suc i == suc j) ≡ true = grind (arith, same) in
          sym more
      | false ↦ λ e. let other : (suc i == suc j) ≡ false = grind (arith, e) in sym other
    ] refl

snoc_get : {X : Type 0} (xs : List X) (y : X) (k : ℕ)
    → slice_get (xs ++ y ∷ []) k ≡ cond (k == length xs) (Some y) (slice_get xs k)
snoc_get [] y zero = refl
snoc_get [] y (suc k) =
    let e : (suc k == 0) ≡ false = grind arith in ap (λ b. cond b (Some y) None) (sym e)
snoc_get (x ∷ xs) y zero =
    let e : (0 == suc (length xs)) ≡ false = grind arith in
    ap (λ b. cond b (Some y) (Some x)) (sym e)
snoc_get (x ∷ xs) y (suc k) =
    snoc_get xs y k ∙ ap (λ b. cond b (Some y) (slice_get xs k)) (same_suc k (length xs))

one_less : (stage k n : ℕ) → (stage == 0) ≡ false → k ≡ n + 1 → (stage == k) ≡ (stage - 1 == n)
one_less stage k n z e =
    elim (stage == k) as (λ b. (stage == k) ≡ b → b ≡ (stage - 1 == n)) [
      | true ↦ λ h.
          let same : stage ≡ k = grind (arith, h) in
          let at : (stage - 1 == n) ≡ true = grind (arith, same, e) in
          sym at
      | false ↦ λ h.
          let other : (stage - 1 == n) ≡ false = grind (arith, h, e, z) in sym other
    ] refl

-- the list of a result, among those of stages
abbrev result_in : List (List (List Value)) → ℕ → ℕ → List Value
result_in rs stage out = or_none (slice_get (results_or_none (slice_get rs (stage - 1))) out)

at_stage : (rs : List (List (List Value))) (ls : List (List Value)) (k stage out : ℕ)
    → k ≡ length rs + 1
    → cond (stage == k) (or_none (slice_get ls out)) (cond (stage == 0) [] (result_in rs stage out))
    ≡ cond (stage == 0) [] (result_in (rs ++ ls ∷ []) stage out)
at_stage rs ls k stage out e =
    elim (stage == 0) as (λ b. (stage == 0) ≡ b
    → cond (stage == k) (or_none (slice_get ls out)) (cond b [] (result_in rs stage out))
    ≡ cond b [] (result_in (rs ++ ls ∷ []) stage out)) [
      | true ↦ λ z.
          let source : (stage == k) ≡ false = grind (arith, z, e) in
          ap (λ b. cond b (or_none (slice_get ls out)) []) source
      | false ↦ λ z.
          let same : (stage == k) ≡ (stage - 1 == length rs) = one_less stage k (length rs) z e in
          ap (λ b. cond b (or_none (slice_get ls out)) (result_in rs stage out)) same
          ∙ elim (stage - 1 == length rs) as (λ b.
          cond b (or_none (slice_get ls out)) (result_in rs stage out)
          ≡ or_none (slice_get
          (results_or_none (cond b (Some ls) (slice_get rs (stage - 1)))) out)) [
            | true ↦ refl
            | false ↦ refl
          ]
          ∙ ap (λ o. or_none (slice_get (results_or_none o) out))
          (sym (snoc_get rs ls (stage - 1)))
    ] refl

grown_at : (sources : List (List Value)) (rs : List (List (List Value)))
    (ls : List (List Value)) (k : ℕ) → k ≡ length rs + 1 → (c : PlanPlace)
    → with_lists k ls (table sources rs) c ≡ table sources (rs ++ ls ∷ []) c
grown_at sources rs ls k e (at.Source n) = refl
grown_at sources rs ls k e (at.Result stage number) = at_stage rs ls k stage number e

-- the results of stage k, put behind those of the stages before it
pub table_grows : (sources : List (List Value)) (rs : List (List (List Value)))
    (ls : List (List Value)) (k : ℕ) → k ≡ length rs + 1
    → with_lists k ls (table sources rs) ≡ table sources (rs ++ ls ∷ [])
table_grows sources rs ls k e = λ i c. grown_at sources rs ls k e c i

none_of : (b : Bool) (xs : List Value) → xs ≡ [] → cond b [] xs ≡ []
none_of true xs e = refl
none_of false xs e = e

first_at : (called : ℕ → Value → Called) (sources : List (List Value)) (c : PlanPlace)
    → table sources [] c ≡ source_lists (run_world called sources) c
first_at called sources (at.Source n) = refl
first_at called sources (at.Result stage number) =
    none_of (stage == 0) (result_in [] stage number) refl

-- before all stages
pub table_begins : (called : ℕ → Value → Called) (sources : List (List Value))
    → table sources [] ≡ source_lists (run_world called sources)
table_begins called sources = λ i c. first_at called sources c i
