-- A lifted reducer on accumulators, merged by key, and on the groups for which they answer.
use Rattle.std.proofs.Common.{◌≡◌, ◌<◌, ◌^◌, ℕ, List, [], ◌∷◌, get_or, map, Some, sym, ap, ◌∙◌, subst}
use Rattle.std.specs.Prelude.{All, IfOk, Result, Ok, Err}
use Rattle.std.specs.List.{AllByRecursion}
use Rattle.std.proofs.lemmas.List.Elements.{All-from_recursion, recursion_from_All}
use Rattle.flume_value.specs.declared.value.Value.{Value}
use Rattle.bag_groups.specs.Groups.{keys_of}
use Rattle.combine_table.specs.declared.comb.Comb.{Comb}
use Rattle.partial_tables.specs.Tables.{IsPartialOf, Pairs}
use Rattle.partial_tables.specs.Merges.{merged_all, merged_by_key, values_at}
use Rattle.partial_tables.proofs.Standing.{merged_all-HasShape}
use Rattle.crew.specs.declared.attempts.Attempt.{Attempt}
use Rattle.crew.specs.declared.attempts.Attempt.TheVariants.{Made, Down}
use Rattle.crew.specs.Attempts.{MadeHas}
use Rattle.exec_graph.specs.Calls.{called}
use Rattle.exec_graph.specs.Forests.{Branch, Forest, Bare, next_after, grown, limb, numbered}
use Rattle.exec_graph.specs.Wellformed.{root_comb}
use Rattle.exec_graph.specs.World.{World}
use Rattle.exec_graph.specs.declared.step.Does.{Does}
use Rattle.exec_graph.specs.declared.step.Does.TheVariants as does
use Rattle.task_safety.specs.of_forest_courses.Courses.{IsCourse}
use Rattle.task_safety.proofs.of_forest_courses.Coursing.{either_course}
use Rattle.forest_steps.specs.Fresh.{none_given}
use Rattle.forest_steps.specs.Places.{outputs_in, sizes_in}
use Rattle.forest_steps.specs.Running.{Given, Run, run, run_each}
use Rattle.forest_steps.specs.Safety.{Safe}
use Rattle.forest_steps.specs.Turns.{in_turn}
use Rattle.forest_steps.proofs.Visiting.{in_turn_each}
use Rattle.lifted_root.specs.Lifted.{partial_answer, run_partial, SafeCalled, SafePartial}
use Rattle.lifted_root.proofs.Lifting.{all_run, all_safe, one_root}
use Rattle.reduce_part.specs.inner.Merged.{AnswerFor, CanRun}

-- ---- accumulators that are merged
shape_each : (c : Comb) (partials : Pairs) (keys : List Value)
    → AllByRecursion (IsPartialOf c) (map (λ k. (k, merged_all c (values_at k partials))) keys)
shape_each c partials [] = tt
shape_each c partials (k ∷ keys) =
    (merged_all-HasShape c (values_at k partials), shape_each c partials keys)

pub merged_shape : (c : Comb) (partials : Pairs) → All (IsPartialOf c) (merged_by_key c partials)
merged_shape c partials =
    All-from_recursion (IsPartialOf c) (merged_by_key c partials)
    (shape_each c partials (keys_of partials))

both_each : {X : Type 0} (P Q : X → Type 0) (xs : List X) → AllByRecursion P xs
    → AllByRecursion Q xs → AllByRecursion (λ x. P x × Q x) xs
both_each P Q [] p q = tt
both_each P Q (x ∷ xs) p q = ((p.0, q.0), both_each P Q xs p.1 q.1)

-- ---- the one root of a lifted reducer
pub record IsRoot (c : Comb) (f : Forest) (b : Branch) : Type 0 where
  pub whole : f ≡ limb b Bare
  pub does : b.does ≡ does.Combine c

pub root_is : (c : Comb) (f : Forest) (bs : List Branch) (b : Branch) → root_comb f ≡ Some c
    → grown bs ≡ f → b ≡ get_or bs 0 b → IsRoot c f b
root_is c f bs b e grows is =
    let r = one_root c bs (ap root_comb grows ∙ e) in
    let same : b ≡ r.root = is ∙ ap (λ (l : List Branch). get_or l 0 b) r.alone in record {
      whole = sym grows ∙ ap grown r.alone ∙ ap (λ (a : Branch). limb a Bare) (sym same);
      does = ap (λ (a : Branch). a.does) same ∙ r.does;
    }

module _ (w : World) (c : Comb) (f : Forest) (b : Branch) (root : IsRoot c f b) (merged : Pairs)
  where
    answers_of_root : (groups : List Value) → AnswerFor w c merged groups
        → map (partial_answer c) merged ≡ map (called w b.does) groups
    answers_of_root groups answers =
        answers ∙ ap (λ (d : Does). map (called w d) groups) (sym root.does)

    pub safe_merged : (takes : ℕ → Value → Type 0) → CanRun w takes c f merged
        → All (IsPartialOf c) merged → AllByRecursion (SafePartial w takes b c) merged
    safe_merged takes can shape =
        both_each (IsPartialOf c) (λ p. SafeCalled w takes b (partial_answer c p)) merged
        (recursion_from_All (IsPartialOf c) merged shape)
        (all_safe w takes b c merged can.groups (answers_of_root can.groups can.answers)
        (subst (λ (g : Forest). AllByRecursion (Safe w takes g) can.groups) root.whole can.safe))

    -- what the accumulators come to is what the groups come to
    module _ (sizes : List ℕ) (start : Given) (sized : sizes ≡ sizes_in f)
        (fresh : start ≡ none_given (next_after 0 f) (outputs_in f)) (few : outputs_in f < 2 ^ 64)
        (is : numbered 0 f ≡ f) where
      same_run : (groups : List Value) → AnswerFor w c merged groups
          → in_turn (map (run_partial w sizes b c) merged) start
          ≡ run_each (run w sizes 0 f) groups start
      same_run groups answers =
          in_turn_each (run_partial w sizes b c) merged start
          ∙ all_run w sizes b c merged groups start (answers_of_root groups answers)
          ∙ ap (λ (g : Forest). run_each (run w sizes 0 g) groups start) (sym root.whole)

      course_merged : (end : Run)
          → in_turn (map (run_partial w sizes b c) merged) start ≡ end → (groups : List Value)
          → AnswerFor w c merged groups → IsCourse w (Some f) groups end
      course_merged end e groups answers =
          either_course w f groups sizes start end is few sized fresh
          (sym (same_run groups answers) ∙ e)

      pub courses_merged : {E : Type 0} (r : Result (Attempt Run) E)
          → IfOk r (MadeHas (λ end. in_turn (map (run_partial w sizes b c) merged) start ≡ end))
          → IfOk r (MadeHas (λ end. (groups : List Value) → AnswerFor w c merged groups
          → IsCourse w (Some f) groups end))
      courses_merged (Ok (Made end)) e = course_merged end e
      courses_merged (Ok Down) e = tt
      courses_merged (Err fault) e = tt
