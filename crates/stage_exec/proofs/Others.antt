-- Rows or a result that are taken away leave the others.
use Rattle.std.proofs.Common.{◌≡◌, ◌<◌, ◌-◌, ◌==◌, ◌&&◌, ℕ, zero, suc, true, false, cond, List, [], ◌∷◌, length, Some, slice_get, ◌+◌, refl, sym, ap, ◌∙◌, subst, arith}
use Rattle.std.specs.Prelude.{slice_set}
use Rattle.flume_value.specs.declared.value.Value.{Value}
use Rattle.flume_collection.specs.Calls.{or_none}
use Rattle.exec_plan.specs.declared.plan.PlanPlace.{PlanPlace}
use Rattle.exec_plan.specs.declared.plan.PlanPlace.TheVariants as at
use Rattle.flume_types.specs.Typing.{AllHave}
use Rattle.flume_types.specs.declared.types.Ty.{Ty}
use Rattle.stage_results.specs.of_map_shard.Tables.{results_or_none, table}
use Rattle.stage_exec.specs.inner.Places.{is_same}

-- ---- a list in which one is another

-- ---- rows that are taken away

none_typed : (type : Ty) (rows : List Value) → rows ≡ [] → AllHave type rows
none_typed type rows none =
    subst (AllHave type) (sym none) (λ k d within. absurd (omega (arith, within)))

member_typed : (type : Ty) (xs : List (List Value)) (k n : ℕ) (rows : List Value) → rows ≡ []
    → AllHave type (or_none (slice_get xs n))
    → AllHave type (or_none (slice_get (slice_set xs k rows) n))
member_typed type [] k n rows none h = h
member_typed type (x ∷ xs) zero zero rows none h = none_typed type rows none
member_typed type (x ∷ xs) zero (suc n) rows none h = h
member_typed type (x ∷ xs) (suc k) zero rows none h = h
member_typed type (x ∷ xs) (suc k) (suc n) rows none h = member_typed type xs k n rows none h

-- and each keeps its type
pub rows_typed : (sources : List (List Value)) (number : ℕ) (rows : List Value)
    (results : List (List (List Value))) → rows ≡ [] → (type : Ty) (q : PlanPlace)
    → AllHave type (table sources results q)
    → AllHave type (table (slice_set sources number rows) results q)
rows_typed sources number rows results none type (at.Source n) h =
    member_typed type sources number n rows none h
rows_typed sources number rows results none type (at.Result k n) h = h

-- ---- results that are taken away

module _ (results : List (List (List Value))) (stage number : ℕ) (lists : List (List Value))
    (some : 0 < stage) (below : stage - 1 < length results)
    (kept : (n : ℕ) → (n ≡ number → ⊥) → or_none (slice_get lists n)
    ≡ or_none (slice_get (results_or_none (slice_get results (stage - 1))) n)) where
  abbrev member : List (List (List Value)) → ℕ → ℕ → List Value
  member rs k n = or_none (slice_get (results_or_none (slice_get rs k)) n)
