-- What the run of a plan comes to, in the terms of the script that the plan is of.
use Rattle.std.proofs.Common.{◌≡◌, ℕ, ◌<◌, List, [], ◌∷◌, length, map, Option, Some, slice_get, refl, sym, ap, ◌∙◌, subst}
use Rattle.std.proofs.lemmas.List.{length-map}
use Rattle.std.specs.Prelude.{IsSomeAnd}
use Rattle.std.specs.List.{AllZip, Contains}
use Rattle.run_sizes.specs.of_build_law.Means.{HasOwn, IsMeaning}
use Rattle.run_sizes.specs.of_build_law.Worlds.{script_world}
use Rattle.run_sizes.proofs.of_direct_meaning.PlaceLemmas.{within}
use Rattle.run_sizes.specs.of_direct_meaning.Direct.{made_at, traps_of}
use Rattle.exec_graph.specs.Meaning.{collection}
use Rattle.exec_graph.specs.World.{World}
use Rattle.exec_plan.specs.Meaning.{emitted_by, plan_collection, plan_traps}
use Rattle.exec_plan.specs.declared.plan.Plan.{Plan}
use Rattle.flume_collection.specs.Collection.{Collection}
use Rattle.flume_collection.specs.declared.trap.Trap.{Trap}
use Rattle.flume_value.specs.declared.value.Value.{Value}
use Rattle.run_sizes.specs.of_graph_build.Graphs.{graph_of}
use Rattle.plan_laws.specs.Operations.{SamePlan}
use Rattle.run_sizes.specs.Counts.{AreOwnCounts}
use Rattle.run_sizes.specs.of_script_program.Needed.{made_of}
use Rattle.run_sizes.specs.of_script_program.Script.{Script}
use Rattle.run_sizes.specs.of_script_program.declared.made.Made.{Made}
use Rattle.task_lists.specs.Runs.{kept_count}
use Rattle.script_run.specs.Comes.{AreMembersOf}

-- ---- lists side by side

twice : {X Y Z : Type 0} (f : Y → Z) (g : X → Y) (xs : List X)
    → map f (map g xs) ≡ map (λ x. f (g x)) xs
twice f g [] = refl
twice f g (x ∷ xs) = ap (λ l. f (g x) ∷ l) (twice f g xs)

bags_zip : {O : Type 0} (f : O → Option Collection) (cs : List Collection) (os : List O)
    (bags : List (List Value)) → map Some cs ≡ map f os → bags ≡ map (λ c. c.bag) cs
    → AllZip (λ o bag. IsSomeAnd (f o) (λ c. bag ≡ c.bag)) os bags
bags_zip f [] [] [] made bags = tt
bags_zip f [] [] (b ∷ bs) made bags = cc
bags_zip f [] (o ∷ os) bs made bags = cc
bags_zip f (c ∷ cs) [] bs made bags = cc
bags_zip f (c ∷ cs) (o ∷ os) [] made bags = cc
bags_zip f (c ∷ cs) (o ∷ os) (b ∷ bs) made bags =
    let here : Some c ≡ f o = cc in
    let same : b ≡ c.bag = cc in
    let rest : map Some cs ≡ map f os = cc in
    let others : bs ≡ map (λ (d : Collection). d.bag) cs = cc in
    (subst (λ m. IsSomeAnd m (λ d. b ≡ d.bag)) here same, bags_zip f cs os bs rest others)

-- ---- a plan that means what the script means

module _ (w : World) (script : Script) (plan : Plan) (made : List (Option Collection))
    (meant : IsMeaning w script made (graph_of script))
    (same : SamePlan w (graph_of script) plan) where
  pub through : plan_traps w plan ≡ [] → traps_of made ≡ []
  through calm = sym meant.traps ∙ (same.traps ∙ calm)

  pub among : (trap : Trap) → Contains (plan_traps w plan) trap → Contains (traps_of made) trap
  among trap h =
      subst (λ (traps : List Trap). Contains traps trap) (sym same.traps ∙ meant.traps) h

  pub written : (bags : List (List Value))
      → bags ≡ map (λ c. (plan_collection w plan c).bag) plan.outputs
      → AllZip (λ output members. AreMembersOf made output.1.reads members) script.outputs bags
  written bags told =
      bags_zip (λ output. made_at made output.1.reads)
      (map (plan_collection w plan) plan.outputs) script.outputs bags
      (ap (map Some) (sym same.outputs)
      ∙ (twice Some (collection w (graph_of script)) (graph_of script).outputs ∙ meant.outputs))
      (told ∙ sym (twice (λ c. c.bag) (plan_collection w plan) plan.outputs))

  pub own_counts : (counts : List ℕ)
      → ((i : ℕ) → i < length script.nodes
      → slice_get counts i ≡ Some (kept_count (length (emitted_by w plan i))))
      → AreOwnCounts script made counts
  own_counts counts told j how c at has is =
      told j
      (subst (λ n. j < n) (length-map script.nodes (λ entry. entry.1.made))
      (within (made_of script) j how at))
      ∙ ap (λ bag. Some (kept_count (length bag))) (sym (same.own j) ∙ meant.own j how c at has is)
