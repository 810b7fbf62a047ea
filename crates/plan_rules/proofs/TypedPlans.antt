-- The types of a graph's collections fit the plan of operations that carry it out.
use Rattle.std.proofs.Common.{◌≡◌, ℕ, ◌+◌, ◌-◌, ◌⊎◌, Bool, true, false, cond, List, [], ◌∷◌, ◌++◌, map, length, Option, Some, suc, refl, sym, ap, ◌∙◌, subst, arith, inl, inr, append_assoc, length-append}
use Rattle.std.specs.List.{AllByRecursion, slice_get}
use Rattle.flume_value.proofs.EachLemmas.{Each-weaker}
use Rattle.flume_types.specs.declared.types.Ty.{Ty}
use Rattle.graph_laws.specs.of_exec_graph.Meaning.{node_at}
use Rattle.graph_laws.specs.of_exec_graph.Readers.{same_place}
use Rattle.graph_laws.specs.of_exec_graph.Typing.{IsTypedBy, NodeTyped, Signatures}
use Rattle.graph_laws.specs.of_exec_graph.Wellformed.{IsGraphOk}
use Rattle.graph_laws.specs.of_exec_graph.declared.graph.Place.{Place}
use Rattle.graph_laws.specs.of_exec_graph.declared.graph.Node.{Node}
use Rattle.graph_laws.specs.of_exec_graph.declared.graph.Node.TheVariants.{Source, Flatten, Pdo, Gbk, Barrier}
use Rattle.graph_laws.specs.of_exec_graph.declared.graph.Entry.{Entry}
use Rattle.graph_laws.specs.of_exec_graph.declared.graph.Graph.{Graph}
use Rattle.plan_making.specs.of_exec_plan.declared.plan.PlanPlace.{PlanPlace}
use Rattle.plan_making.specs.of_exec_plan.declared.plan.PlanPlace.TheVariants as at
use Rattle.plan_making.specs.of_exec_plan.Typing.{AreStagesTyped, IsPlanTypedBy}
use Rattle.plan_laws.specs.declared.operations.Operation.{Operation}
use Rattle.plan_laws.specs.Operations.{AreReady, DoAll, IsHonest, IsIn, at_source, gives_of, made_after, placed_results, places_of, plan_of, reads_of, source_at, source_place, source_places, stages_of}
use Rattle.plan_laws.proofs.Running.{in_append, place_same, without_first}
use Rattle.plan_rules.specs.Typing.{operation_gives, plan_types, type_in}
use Rattle.plan_rules.proofs.Taking.{AreNumbered}
use Rattle.plan_rules.proofs.TypedChannels.{AreTyped}
use Rattle.plan_rules.proofs.TypedStages.{AreThere, GivesTypes, stage_typed}
use Rattle.plan_rules.proofs.Wellness.{founds, nodes_numbered}

-- ---- results of a stage have the types of the collections that they are

gives_by : (types : Place → Ty) (t : PlanPlace → Ty) (k i : ℕ) (cs : List Place)
    → ((j : ℕ) → t (at.Result k (i + j)) ≡ type_in types (slice_get cs j))
    → GivesTypes types t k i cs
gives_by types t k i [] h = tt
gives_by types t k i (c ∷ cs) h = (
  (let z : i ≡ i + 0 = omega arith in ap (λ (n : ℕ). t (at.Result k n)) z ∙ h 0),
  gives_by types t k (suc i) cs (λ j. let n : suc i + j ≡ i + suc j = omega arith in
      ap (λ (m : ℕ). t (at.Result k m)) n ∙ h (suc j)),
)

stands_at : (done : List Operation) (o : Operation) (os : List Operation)
    → slice_get (done ++ o ∷ os) (length done) ≡ Some o
stands_at [] o os = refl
stands_at (x ∷ xs) o os = stands_at xs o os

result_types : (s : Signatures) (types : Place → Ty) (es : List Entry) (done : List Operation)
    (o : Operation) (os : List Operation) (k : ℕ) → k ≡ suc (length done)
    → GivesTypes types (plan_types s types es (done ++ o ∷ os)) k 0 (gives_of es o)
result_types s types es done o os k h =
    gives_by types (plan_types s types es (done ++ o ∷ os)) k 0 (gives_of es o) (λ j.
    let n : 0 + j ≡ j = omega arith in
    let p : k - 1 ≡ length done = omega arith in
    ap (λ (m : ℕ). type_in types
    (slice_get (operation_gives es (slice_get (done ++ o ∷ os) (k - 1))) m)) n
    ∙ ap (λ (m : ℕ). type_in types (slice_get (operation_gives es (slice_get (done ++ o ∷ os) m))
    j)) p
    ∙ ap (λ (x : Option Operation). type_in types (slice_get (operation_gives es x) j))
    (stands_at done o os))

-- ---- collections under their names

placed_by : (types : Place → Ty) (t : PlanPlace → Ty) (k i : ℕ) (x : PlanPlace) (d c : Place)
    (b : Bool) → same_place d c ≡ b → t (at.Result k i) ≡ types d → (b ≡ false → t x ≡ types c)
    → t (cond b (at.Result k i) x) ≡ types c
placed_by types t k i x d c true e h g = h ∙ ap types (place_same d c e)
placed_by types t k i x d c false e h g = g refl

placed_typed : (types : Place → Ty) (t : PlanPlace → Ty) (f : Place → PlanPlace) (k i : ℕ)
    (ds : List Place) (c : Place) → GivesTypes types t k i ds
    → IsIn c ds ⊎ (t (f c) ≡ types c) → t (placed_results k i ds f c) ≡ types c
placed_typed types t f k i [] c h (inl p) = absurd p
placed_typed types t f k i [] c h (inr p) = p
placed_typed types t f k i (d ∷ ds) c h p =
    placed_by types t k i (placed_results k (suc i) ds f c) d c (same_place d c) refl h.0
    (λ e. placed_typed types t f k (suc i) ds c h.1 (without_first d ds c e p))

-- t says of each collection that is made, where f names it, what types says
abbrev AllNamed : (Place → Ty) → (PlanPlace → Ty) → (Place → PlanPlace) → List Place → Type 0
AllNamed types t f made = (c : Place) → IsIn c made → t (f c) ≡ types c

record AreFitted (s : Signatures) (types : Place → Ty) (t : PlanPlace → Ty) (es : List Entry)
    (k : ℕ) (f : Place → PlanPlace) (made : List Place) (os : List Operation) : Type 0 where
  pub stages : AreStagesTyped s t k (stages_of es k f os)
  pub named : AllNamed types t (places_of es k f os) (made_after es made os)

stages_fitted : (s : Signatures) (types : Place → Ty) (es : List Entry) (all : List Operation)
    (done : List Operation) (k : ℕ) (f : Place → PlanPlace) (made : List Place)
    (os : List Operation) → AreTyped s types es → AreNumbered es → AreThere es
    → all ≡ done ++ os → k ≡ suc (length done) → AllByRecursion (IsHonest es) os
    → AreReady es made os → AllNamed types (plan_types s types es all) f made
    → AreFitted s types (plan_types s types es all) es k f made os
stages_fitted s types es all done k f made [] a m w e n h r g =
    record { stages = tt; named = g }
stages_fitted s types es all done k f made (o ∷ os) a m w e n h r g =
    let t : PlanPlace → Ty = plan_types s types es all in
    let gives : GivesTypes types t k 0 (gives_of es o) =
    subst (λ (xs : List Operation). GivesTypes types (plan_types s types es xs) k 0
    (gives_of es o)) (sym e) (result_types s types es done o os k n) in
    let next : AllNamed types t (placed_results k 0 (gives_of es o) f) (gives_of es o ++ made) =
    λ c i.
    placed_typed types t f k 0 (gives_of es o) c gives
    (elim (in_append c (gives_of es o) made i) [ inl j ↦ inl j | inr j ↦ inr (g c j) ]) in
    let long = length-append done (o ∷ []) in
    let rest = stages_fitted s types es all (done ++ o ∷ []) (suc k)
    (placed_results k 0 (gives_of es o) f) (gives_of es o ++ made) os a m w
    (e ∙ sym (append_assoc done (o ∷ []) os)) (omega arith) h.1 r.1 next in
    record {
      stages = (
        stage_typed s types t f es k o a m w h.0
            (Each-weaker (λ c. IsIn c made) (λ c. t (f c) ≡ types c) g (reads_of es o) r.0)
            gives,
        rest.stages,
      );
      named = rest.named;
    }

-- ---- sources

source_typed : (s : Signatures) (types : Place → Ty) (all : List Entry) (os : List Operation)
    (n : ℕ) (x : Node) (c : Place) → node_at all n ≡ Some x → NodeTyped s types n x
    → IsIn c (source_place n x) → plan_types s types all os (at_source all c) ≡ types c
source_typed s types all os n (Source r) c h a (inl e) =
    let found : node_at all c.node ≡ Some (Source r) =
    ap (λ (d : Place). node_at all d.node) (sym e) ∙ h in
    ap (λ (o : Option Node). s.inputs (source_at o)) found ∙ sym a ∙ ap types e
source_typed s types all os n (Source r) c h a (inr e) = absurd e
source_typed s types all os n (Flatten ins) c h a e = absurd e
source_typed s types all os n (Pdo d f) c h a e = absurd e
source_typed s types all os n (Gbk d o l k) c h a e = absurd e
source_typed s types all os n (Barrier ins i l d) c h a e = absurd e

sources_typed : (s : Signatures) (types : Place → Ty) (all es : List Entry)
    (os : List Operation) → AllByRecursion (λ e. node_at all e.number ≡ Some e.node) es
    → AreTyped s types es
    → AllNamed types (plan_types s types all os) (at_source all) (source_places es)
sources_typed s types all [] os f a c i = absurd i
sources_typed s types all (e ∷ es) os f a c i =
    elim (in_append c (source_place e.number e.node) (source_places es) i) [
      | inl j ↦ source_typed s types all os e.number e.node c f.0 a.0 j
      | inr j ↦ sources_typed s types all es os f.1 a.1 c j
    ]

-- ---- the plan

fitted : (s : Signatures) (g : Graph) (os : List Operation) (types : Place → Ty) → IsGraphOk g
    → DoAll g os → IsTypedBy s g types
    → AreFitted s types (plan_types s types g.nodes os) g.nodes 1 (at_source g.nodes)
    (source_places g.nodes) os
fitted s g os types ok d a =
    stages_fitted s types g.nodes os [] 1 (at_source g.nodes) (source_places g.nodes) os a
    (nodes_numbered g ok) ok.founded.there refl refl d.sound d.ready
    (sources_typed s types g.nodes g.nodes os (founds g ok) a)

pub plan_typed : (s : Signatures) (n : ℕ) (g : Graph) (os : List Operation) (types : Place → Ty)
    → IsGraphOk g → DoAll g os → IsTypedBy s g types
    → IsPlanTypedBy s (plan_of n g.nodes g.outputs os) (plan_types s types g.nodes os)
plan_typed s n g os types ok d a =
    record { sources = λ r. refl; stages = (fitted s g os types ok d a).stages }

same_types : (types : Place → Ty) (t : PlanPlace → Ty) (f : Place → PlanPlace) (cs : List Place)
    → AllByRecursion (λ c. t (f c) ≡ types c) cs → map t (map f cs) ≡ map types cs
same_types types t f [] a = refl
same_types types t f (c ∷ cs) a =
    ap (λ (u : Ty). u ∷ map t (map f cs)) a.0
    ∙ ap (λ (us : List Ty). types c ∷ us) (same_types types t f cs a.1)

pub outputs_typed : (s : Signatures) (n : ℕ) (g : Graph) (os : List Operation)
    (types : Place → Ty) → IsGraphOk g → DoAll g os → IsTypedBy s g types
    → map (plan_types s types g.nodes os) (plan_of n g.nodes g.outputs os).outputs
    ≡ map types g.outputs
outputs_typed s n g os types ok d a =
    let t : PlanPlace → Ty = plan_types s types g.nodes os in
    let f : Place → PlanPlace = places_of g.nodes 1 (at_source g.nodes) os in
    same_types types t f g.outputs
    (Each-weaker (λ c. IsIn c (made_after g.nodes (source_places g.nodes) os))
    (λ c. t (f c) ≡ types c) (fitted s g os types ok d a).named g.outputs d.told)
