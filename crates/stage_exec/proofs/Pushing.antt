-- Tables that stood alike stand alike with the results of one more stage.
use Rattle.std.proofs.Common.{◌≡◌, ◌+◌, ℕ, Bool, true, false, cond, List, [], ◌∷◌, ◌++◌, length, map, refl, sym, ap, ◌∙◌, subst, arith, length-append}
use Rattle.std.specs.Prelude.{◌==◌}
use Rattle.flume_value.specs.declared.value.Value.{Value}
use Rattle.flume_types.specs.Typing.{AllHave}
use Rattle.flume_types.specs.declared.types.Ty.{Ty}
use Rattle.exec_plan.specs.declared.plan.PlanPlace.{PlanPlace}
use Rattle.exec_plan.specs.declared.plan.PlanPlace.TheVariants as at
use Rattle.stage_results.specs.of_map_shard.Tables.{table}
use Rattle.task_lists.specs.Lists.{with_lists}
use Rattle.task_lists.specs.Tasks.{Lists}
use Rattle.stage_exec.specs.inner.Reads.{AgreeOn}
use Rattle.stage_exec.proofs.Reading.{result_at, with_agree}
use Rattle.stage_exec.proofs.Tables.{table_grows}

typed_by : (type : Ty) (b : Bool) (new ys zs : List Value) → (AllHave type ys → AllHave type zs)
    → AllHave type (cond b new ys) → AllHave type (cond b new zs)
typed_by type true new ys zs keeps h = h
typed_by type false new ys zs keeps h = keeps h

typed_with : (k : ℕ) (ls : List (List Value)) (t u : Lists)
    → ((type : Ty) (q : PlanPlace) → AllHave type (t q) → AllHave type (u q))
    → (type : Ty) (q : PlanPlace) → AllHave type (with_lists k ls t q)
    → AllHave type (with_lists k ls u q)
typed_with k ls t u keeps type (at.Source r) h = keeps type (at.Source r) h
typed_with k ls t u keeps type (at.Result stage number) h =
    typed_by type (stage == k) (result_at ls number) (t (at.Result stage number))
    (u (at.Result stage number)) (keeps type (at.Result stage number)) h

module _ (rows left : List (List Value)) (results fewer grown : List (List (List Value)))
    (ls : List (List Value)) (long : length fewer ≡ length results)
    (push : grown ≡ fewer ++ ls ∷ []) where
  abbrev number : ℕ
  number = length results + 1

  before : with_lists number ls (table rows results) ≡ table rows (results ++ ls ∷ [])
  before = table_grows rows results ls number refl

  after : with_lists number ls (table left fewer) ≡ table left grown
  after = table_grows left fewer ls number (omega (arith, long)) ∙ ap (table left) (sym push)

  pub long_pushed : length grown ≡ length (results ++ ls ∷ [])
  long_pushed =
      ap length push
      ∙ omega (arith, long, length-append fewer (ls ∷ []), length-append results (ls ∷ []))

  -- what stood alike stands alike with the results
  pub agree_pushed : (places : List PlanPlace)
      → AgreeOn places (table left fewer) (table rows results)
      → AgreeOn places (table left grown) (table rows (results ++ ls ∷ []))
  agree_pushed places agree =
      ap (λ t. map t places) (sym after)
      ∙ (with_agree number ls (table left fewer) (table rows results) places agree
      ∙ ap (λ t. map t places) before)

  -- and what kept its type keeps it
  pub typed_pushed : ((type : Ty) (q : PlanPlace) → AllHave type (table rows results q)
      → AllHave type (table left fewer q)) → (type : Ty) (q : PlanPlace)
      → AllHave type (table rows (results ++ ls ∷ []) q) → AllHave type (table left grown q)
  typed_pushed keeps type q h =
      subst (λ (t : Lists). AllHave type (t q)) after
      (typed_with number ls (table rows results) (table left fewer) keeps type q
      (subst (λ (t : Lists). AllHave type (t q)) (sym before) h))
