-- Where a run of a plan stands before one of its stages.
use Rattle.std.proofs.Common.{◌≡◌, ◌+◌, ℕ, zero, suc, inl, inr, List, [], ◌∷◌, ◌++◌, take, Some, slice_get, sym, subst, arith}
use Rattle.std.specs.Prelude.{◌⊎◌}
use Rattle.std.proofs.lemmas.List.Elements.{All-nil}
use Rattle.std.proofs.lemmas.Option.{none-some, same_Some}
use Rattle.flume_value.specs.declared.value.Value.{Value}
use Rattle.flume_types.specs.declared.types.Ty.{Ty}
use Rattle.flume_types.specs.Typing.{AllHave, Has}
use Rattle.exec_graph.specs.Typing.{IsWorldTyped, Signatures}
use Rattle.exec_graph.specs.World.{World}
use Rattle.exec_plan.specs.declared.plan.Plan.{Plan}
use Rattle.exec_plan.specs.declared.plan.PlanPlace.{PlanPlace}
use Rattle.exec_plan.specs.declared.plan.Stage.{Stage}
use Rattle.exec_plan.specs.Typing.{AreStagesTyped, StageTyped}
use Rattle.exec_plan.specs.Wellformed.{AreStages, IsPlanOk, IsStageOk}
use Rattle.forest_courses.specs.of_task_lists.Lists.{result_lists, run_lists, source_lists, with_lists}
use Rattle.forest_courses.specs.of_task_lists.Tasks.{Lists, Split}
use Rattle.forest_courses.specs.of_task_lists.Typing.{AreListsTyped}
use Rattle.forest_courses.proofs.of_task_lists.TypedResults.{begin_typed, table_typed}
use Rattle.task_safety.specs.Stages.{AreSoFar, CanRunStage, IsTypedRun, lists_before}

module _ (signatures : Signatures) (w : World) (world : IsWorldTyped signatures w)
    (types : PlanPlace → Ty) (n : Split) (sources : ℕ) where
  -- the lists so far have their types, and so has this stage of that number
  record IsHere (number : ℕ) (s : Stage) (t : Lists) : Type 0 where
    pub lists : AreListsTyped types t
    pub typed : StageTyped signatures types number s
    pub before : List Stage
    pub ok : IsStageOk sources before s

  here : (j : ℕ) (before stages : List Stage) (t : Lists) → AreListsTyped types t
      → AreStagesTyped signatures types j stages → AreStages sources before stages
      → (k : ℕ) (s : Stage) → slice_get stages k ≡ Some s
      → IsHere (j + k) s (run_lists w n j (take k stages) t)
  here j before [] t lists typed ok k s at = absurd (none-some s at)
  here j before (x ∷ xs) t lists typed ok zero s at =
      let first : j ≡ j + 0 = omega arith in
      let same = same_Some x s at in record {
        lists = lists;
        typed = subst (λ i. StageTyped signatures types i s) first
            (subst (StageTyped signatures types j) same typed.0);
        before = before;
        ok = subst (IsStageOk sources before) same ok.0;
      }
  here j before (x ∷ xs) t lists typed ok (suc k) s at =
      let next : suc j + k ≡ j + suc k = omega arith in
      let results = result_lists w n t x in
      subst (λ i. IsHere i s (run_lists w n (suc j) (take k xs) (with_lists j results t))) next
      (here (suc j) (before ++ x ∷ []) xs (with_lists j results t)
      (table_typed signatures w world types n t lists j sources before x typed.0 ok.0)
      typed.1 ok.1 k s at)

-- a list that was dropped has any type
some_typed : (type : Ty) (xs ys : List Value) → (xs ≡ []) ⊎ (xs ≡ ys) → AllHave type ys
    → AllHave type xs
some_typed type xs ys (inl none) all = subst (AllHave type) (sym none) (All-nil (Has type))
some_typed type xs ys (inr same) all = subst (AllHave type) (sym same) all

pub can_run : (w : World) (takes : ℕ → Value → Type 0) (n : Split) (p : Plan) (k : ℕ) (s : Stage)
    (t : Lists) → IsPlanOk p → IsTypedRun w takes p
    → slice_get p.stages k ≡ Some s → AreSoFar w n p k t → CanRunStage w takes (k + 1) t s
can_run w takes n p k s t ok run at so_far =
    let types = run.plan.0 in
    let it = here run.signatures w run.world types n p.sources 1 [] p.stages (source_lists w)
    (begin_typed run.signatures w types run.world run.plan.1.sources) run.plan.1.stages ok.stages
    k s at in
    let number : 1 + k ≡ k + 1 = omega arith in record {
      signatures = run.signatures;
      types = types;
      world = run.world;
      calls = run.calls;
      lists = λ c. some_typed (types c) (t c) (lists_before w n p k c) (so_far c) (it.lists c);
      typed = subst (λ i. StageTyped run.signatures types i s) number it.typed;
      sources = p.sources;
      before = it.before;
      ok = it.ok;
    }
