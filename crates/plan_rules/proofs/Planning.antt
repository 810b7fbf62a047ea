-- The stages of operations one after another are well-formed.
use Rattle.std.proofs.Common.{◌≡◌, ℕ, ◌<◌, ◌^◌, List, [], ◌∷◌, ◌++◌, length, Some, suc, refl, sym, ap, ◌∙◌, subst, arith, inl, inr, append_assoc, length-append}
use Rattle.std.specs.List.{AllByRecursion}
use Rattle.flume_value.proofs.EachLemmas.{Each-weaker}
use Rattle.graph_laws.specs.of_exec_graph.Meaning.{node_at}
use Rattle.graph_laws.specs.of_exec_graph.declared.graph.Place.{Place}
use Rattle.graph_laws.specs.of_exec_graph.declared.graph.Node.{Node}
use Rattle.graph_laws.specs.of_exec_graph.declared.graph.Node.TheVariants.{Source, Flatten, Pdo, Gbk, Barrier}
use Rattle.graph_laws.specs.of_exec_graph.declared.graph.Entry.{Entry}
use Rattle.graph_laws.specs.of_exec_graph.declared.graph.Graph.{Graph}
use Rattle.plan_making.specs.of_exec_plan.declared.plan.PlanPlace.{PlanPlace}
use Rattle.plan_making.specs.of_exec_plan.declared.plan.Stage.{Stage}
use Rattle.plan_making.specs.of_exec_plan.Wellformed.{AreStages, IsPlaceSoFar, IsPlanOk, results_at}
use Rattle.plan_laws.specs.declared.operations.Operation.{Operation}
use Rattle.plan_laws.specs.Operations.{AreReady, DoAll, IsHonest, IsIn, at_source, gives_of, made_after, placed_results, places_of, plan_of, reads_of, source_at, source_place, source_places, stage_of, stages_of}
use Rattle.plan_laws.proofs.Running.{in_append}
use Rattle.plan_rules.specs.Fitting.{IsSourceBelow, SourcesAgree}
use Rattle.plan_rules.proofs.Made.{made_more, placed_made, results_here}
use Rattle.graph_laws.specs.of_exec_graph.Wellformed.{HaveObjects}
use Rattle.plan_rules.proofs.PlanObjects.{PassesCollections}
use Rattle.plan_rules.proofs.PlanSources.{plan_objects}
use Rattle.plan_rules.proofs.Staging.{IsShort, places_made, stage_ok}
use Rattle.plan_rules.proofs.Taking.{AreNumbered}
use Rattle.plan_rules.proofs.Widths.{operation_width}

-- each of these collections is made where it is named
abbrev MadeAll : ℕ → List Stage → (Place → PlanPlace) → List Place → Type 0
MadeAll n before f made = (c : Place) → IsIn c made → IsPlaceSoFar n before (f c)

record Kept (n : ℕ) (es : List Entry) (before : List Stage) (k : ℕ) (f : Place → PlanPlace)
    (made : List Place) (os : List Operation) : Type 0 where
  pub stages : AreStages n before (stages_of es k f os)
  pub made_all :
      MadeAll n (before ++ stages_of es k f os) (places_of es k f os) (made_after es made os)

next_made : (n : ℕ) (es : List Entry) (before : List Stage) (k : ℕ) (f : Place → PlanPlace)
    (made : List Place) (o : Operation) → k ≡ suc (length before) → MadeAll n before f made
    → IsHonest es o
    → MadeAll n (before ++ stage_of es f o ∷ []) (placed_results k 0 (gives_of es o) f)
    (gives_of es o ++ made)
next_made n es before k f made o e m s c i =
    let st : Stage = stage_of es f o in
    let wide : results_at (before ++ st ∷ []) k ≡ length (gives_of es o) =
    results_here before st k e ∙ operation_width es f o s in
    placed_made n (before ++ st ∷ []) f k 0 (gives_of es o) c (omega arith)
    (elim (in_append c (gives_of es o) made i)
    [ inl j ↦ inl j | inr j ↦ inr (made_more n before (st ∷ []) (f c) (m c j)) ])

stages_keep : (n : ℕ) (es : List Entry) (before : List Stage) (k : ℕ) (f : Place → PlanPlace)
    (made : List Place) (os : List Operation) → AreNumbered es → k ≡ suc (length before)
    → MadeAll n before f made → AllByRecursion (IsHonest es) os → AllByRecursion (IsShort es) os
    → AreReady es made os → Kept n es before k f made os
stages_keep n es before k f made [] a e m s t r =
    record { stages = tt; made_all = λ c i. made_more n before [] (f c) (m c i) }
stages_keep n es before k f made (o ∷ os) a e m s t r =
    let st : Stage = stage_of es f o in
    let long = length-append before (st ∷ []) in
    let rest = stages_keep n es (before ++ st ∷ []) (suc k) (placed_results k 0 (gives_of es o) f)
    (gives_of es o ++ made) os a (omega arith) (next_made n es before k f made o e m s.0)
    s.1 t.1 r.1 in
    record {
      stages = (
        stage_ok n es before f o a s.0 t.0
            (Each-weaker (λ c. IsIn c made) (λ c. IsPlaceSoFar n before (f c)) m (reads_of es o)
            r.0),
        rest.stages,
      );
      made_all = subst
          (λ (l : List Stage). MadeAll n l (places_of es k f (o ∷ os))
          (made_after es made (o ∷ os)))
          (append_assoc before (st ∷ [])
          (stages_of es (suc k) (placed_results k 0 (gives_of es o) f) os)) rest.made_all;
    }

-- ---- sources

source_made : (n : ℕ) (all : List Entry) (i : ℕ) (x : Node) (c : Place) → node_at all i ≡ Some x
    → IsSourceBelow n x → IsIn c (source_place i x) → IsPlaceSoFar n [] (at_source all c)
source_made n all i (Source r) c h b (inl e) =
    let found : node_at all c.node ≡ Some (Source r) =
    ap (λ (d : Place). node_at all d.node) (sym e) ∙ h in
    let o : source_at (node_at all c.node) ≡ r.number = ap source_at found in
    omega arith
source_made n all i (Source r) c h b (inr e) = absurd e
source_made n all i (Flatten ins) c h b e = absurd e
source_made n all i (Pdo d f) c h b e = absurd e
source_made n all i (Gbk d o l k) c h b e = absurd e
source_made n all i (Barrier ins o l a) c h b e = absurd e

sources_made : (n : ℕ) (all es : List Entry)
    → AllByRecursion (λ e. node_at all e.number ≡ Some e.node) es
    → AllByRecursion (λ e. IsSourceBelow n e.node) es
    → MadeAll n [] (at_source all) (source_places es)
sources_made n all [] a b c i = absurd i
sources_made n all (e ∷ es) a b c i =
    elim (in_append c (source_place e.number e.node) (source_places es) i) [
      | inl j ↦ source_made n all e.number e.node c a.0 b.0 j
      | inr j ↦ sources_made n all es a.1 b.1 c j
    ]

stages_length : (es : List Entry) (k : ℕ) (f : Place → PlanPlace) (os : List Operation)
    → length (stages_of es k f os) ≡ length os
stages_length es k f [] = refl
stages_length es k f (o ∷ os) =
    let i = stages_length es (suc k) (placed_results k 0 (gives_of es o) f) os in omega arith

-- ---- the plan

pub plan_kept : (n : ℕ) (g : Graph) (os : List Operation) → DoAll g os → AreNumbered g.nodes
    → AllByRecursion (λ e. node_at g.nodes e.number ≡ Some e.node) g.nodes
    → AllByRecursion (λ e. IsSourceBelow n e.node) g.nodes
    → AllByRecursion (IsShort g.nodes) os → length os < 2 ^ 32 → SourcesAgree g.nodes
    → HaveObjects g.nodes
    → AllByRecursion (PassesCollections g.nodes) os → IsPlanOk (plan_of n g.nodes g.outputs os)
plan_kept n g os d a found below short few agree objects passes =
    let start : Place → PlanPlace = at_source g.nodes in
    let k = stages_keep n g.nodes [] 1 start (source_places g.nodes) os a refl
    (sources_made n g.nodes g.nodes found below) d.sound short d.ready in
    let long = stages_length g.nodes 1 start os in
    record {
      stages = k.stages;
      outputs = places_made n (stages_of g.nodes 1 start os) (places_of g.nodes 1 start os)
          g.outputs
          (Each-weaker (λ c. IsIn c (made_after g.nodes (source_places g.nodes) os))
          (λ c. IsPlaceSoFar n (stages_of g.nodes 1 start os) (places_of g.nodes 1 start os c))
          k.made_all g.outputs d.told);
      few = omega arith;
      objects = plan_objects g os found agree d objects passes;
    }
