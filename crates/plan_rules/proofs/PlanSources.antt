-- Sources give objects where the graph says so, and with them all stages of a plan read objects
-- where they are to.
use Rattle.std.proofs.Common.{◌≡◌, ℕ, ◌+◌, ◌-◌, Bool, true, false, cond, eqb, List, [], ◌∷◌, ◌++◌, Option, Some, refl, sym, ap, ◌∙◌, inl, inr}
use Rattle.std.specs.List.{AllByRecursion as Each, flat_map, list_any}
use Rattle.std.proofs.lemmas.Bool.{eqb-true, eq-eqb, false≢true}
use Rattle.graph_laws.specs.of_exec_graph.Meaning.{node_at}
use Rattle.graph_laws.specs.of_exec_graph.Wellformed.{HaveObjects, has_objects, is_object, is_object_at}
use Rattle.graph_laws.specs.of_exec_graph.declared.graph.Input.{Input}
use Rattle.graph_laws.specs.of_exec_graph.declared.graph.Place.{Place}
use Rattle.graph_laws.specs.of_exec_graph.declared.graph.Node.{Node}
use Rattle.graph_laws.specs.of_exec_graph.declared.graph.Node.TheVariants.{Source, Flatten, Pdo, Gbk, Barrier}
use Rattle.graph_laws.specs.of_exec_graph.declared.graph.Entry.{Entry}
use Rattle.graph_laws.specs.of_exec_graph.declared.graph.Graph.{Graph}
use Rattle.graph_laws.proofs.of_exec_graph.Entries.{all_found}
use Rattle.graph_laws.proofs.of_exec_graph.Bools.{or_cases, or_left, or_right}
use Rattle.plan_making.specs.of_exec_plan.declared.plan.Stage.{Stage}
use Rattle.plan_making.specs.of_exec_plan.Wellformed.{stage_has_objects as stage_has}
use Rattle.plan_laws.specs.declared.operations.Operation.{Operation}
use Rattle.plan_laws.specs.Operations.{DoAll, IsIn, at_source, object_source, source_at, source_place, source_places, stages_of}
use Rattle.plan_laws.proofs.Running.{in_append}
use Rattle.plan_rules.specs.Fitting.{SourcesAgree}
use Rattle.plan_rules.proofs.PlanObjects.{PassesCollections, ObjectsAt, all_have}

-- a source of that number that is an object
record FoundSource (all : List Entry) (n : ℕ) : Type 0 where
  pub source : Input
  pub node : ℕ
  pub at : node_at all node ≡ Some (Source source)
  pub number : source.number ≡ n
  pub object : source.is_object ≡ true

source_among : (p : ℕ → Bool) (x : Node) (more : List ℕ) → list_any p more ≡ true
    → list_any p (object_source x ++ more) ≡ true
source_among p (Source r) more h = by r.is_object
  where
    by : (b : Bool) → list_any p (cond b (r.number ∷ []) [] ++ more) ≡ true
    by true = or_right (p r.number) (list_any p more) h
    by false = h
source_among p (Flatten ins) more h = h
source_among p (Pdo c f) more h = h
source_among p (Gbk c o l k) more h = h
source_among p (Barrier ins o l a) more h = h

source_first : (r : Input) (more : List ℕ) → r.is_object ≡ true
    → list_any (λ k. eqb k r.number) (object_source (Source r) ++ more) ≡ true
source_first r more h =
    ap (λ (b : Bool). list_any (λ k. eqb k r.number) (cond b (r.number ∷ []) [] ++ more)) h
    ∙ or_left (eqb r.number r.number) (list_any (λ k. eqb k r.number) more)
    (eq-eqb r.number r.number refl)

has_source : (es : List Entry) (m : ℕ) (r : Input) → node_at es m ≡ Some (Source r)
    → r.is_object ≡ true
    → list_any (λ k. eqb k r.number) (flat_map (λ (e : Entry). object_source e.node) es) ≡ true
has_source [] m r h o = let bad : ⊥ = cc in absurd bad
has_source (e ∷ es) m r h o = by (eqb e.number m) h (λ i. has_source es m r i o)
  where
    more : List ℕ
    more = flat_map (λ (e : Entry). object_source e.node) es

    by : (b : Bool) → cond b (Some e.node) (node_at es m) ≡ Some (Source r)
        → (node_at es m ≡ Some (Source r) → list_any (λ k. eqb k r.number) more ≡ true)
        → list_any (λ k. eqb k r.number) (object_source e.node ++ more) ≡ true
    by true i f =
        let same : e.node ≡ Source r = cc in
        ap (λ (x : Node). list_any (λ k. eqb k r.number) (object_source x ++ more)) same
        ∙ source_first r more o
    by false i f = source_among (λ k. eqb k r.number) e.node more (f i)

find_first : (all : List Entry) (n m : ℕ) (x : Node) (more : List ℕ) → node_at all m ≡ Some x
    → list_any (λ k. eqb k n) (object_source x ++ more) ≡ true
    → (list_any (λ k. eqb k n) more ≡ true → FoundSource all n) → FoundSource all n
find_first all n m (Source r) more e h f = by r.is_object refl h
  where
    by : (b : Bool) → r.is_object ≡ b
        → list_any (λ k. eqb k n) (cond b (r.number ∷ []) [] ++ more) ≡ true → FoundSource all n
    by true i j =
        elim (or_cases (eqb r.number n) (list_any (λ k. eqb k n) more) j) [
          | inl q ↦ record {
            source = r;
            node = m;
            at = e;
            number = eqb-true r.number n q;
            object = i;
          }
          | inr q ↦ f q
        ]
    by false i j = f j
find_first all n m (Flatten ins) more e h f = f h
find_first all n m (Pdo c t) more e h f = f h
find_first all n m (Gbk c o l k) more e h f = f h
find_first all n m (Barrier ins o l a) more e h f = f h

find_source : (all es : List Entry) (n : ℕ) → Each (λ e. node_at all e.number ≡ Some e.node) es
    → list_any (λ k. eqb k n) (flat_map (λ (e : Entry). object_source e.node) es) ≡ true
    → FoundSource all n
find_source all [] n a h = absurd (false≢true h)
find_source all (e ∷ es) n a h =
    find_first all n e.number e.node (flat_map (λ (d : Entry). object_source d.node) es) a.0 h
    (λ i. find_source all es n a.1 i)

not_any : (b c : Bool) → (b ≡ true → c ≡ true) → (c ≡ true → b ≡ true) → b ≡ c
not_any true true f g = refl
not_any true false f g = sym (f refl)
not_any false true f g = g refl
not_any false false f g = refl

source_object : (all : List Entry) (i : ℕ) (x : Node) (c : Place)
    → Each (λ e. node_at all e.number ≡ Some e.node) all → SourcesAgree all
    → node_at all i ≡ Some x → IsIn c (source_place i x)
    → list_any (λ k. eqb k (source_at (node_at all c.node)))
    (flat_map (λ (e : Entry). object_source e.node) all) ≡ is_object_at all c
source_object all i (Source r) c f agree h (inl e) =
    let found : node_at all c.node ≡ Some (Source r) =
    ap (λ (d : Place). node_at all d.node) (sym e) ∙ h in
    let flags : List ℕ = flat_map (λ (e : Entry). object_source e.node) all in
    ap (λ (o : Option Node). list_any (λ k. eqb k (source_at o)) flags) found
    ∙ not_any (list_any (λ k. eqb k r.number) flags) r.is_object
    (λ q. (let s = find_source all all r.number f q in
    agree c.node s.node r s.source found s.at (sym s.number) ∙ s.object))
    (λ q. has_source all c.node r found q)
    ∙ sym (ap is_object found)
source_object all i (Source r) c f agree h (inr e) = absurd e
source_object all i (Flatten ins) c f agree h e = absurd e
source_object all i (Pdo d t) c f agree h e = absurd e
source_object all i (Gbk d o l k) c f agree h e = absurd e
source_object all i (Barrier ins o l a) c f agree h e = absurd e

sources_objects : (stages : List Stage) (all es : List Entry)
    → Each (λ e. node_at all e.number ≡ Some e.node) all → SourcesAgree all
    → Each (λ e. node_at all e.number ≡ Some e.node) es
    → ObjectsAt (flat_map (λ (e : Entry). object_source e.node) all) stages all (at_source all)
    (source_places es)
sources_objects stages all [] f agree a c i = absurd i
sources_objects stages all (e ∷ es) f agree a c i =
    elim (in_append c (source_place e.number e.node) (source_places es) i) [
      | inl j ↦ source_object all e.number e.node c f agree a.0 j
      | inr j ↦ sources_objects stages all es f agree a.1 c j
    ]

pub plan_objects : (g : Graph) (os : List Operation)
    → Each (λ e. node_at g.nodes e.number ≡ Some e.node) g.nodes → SourcesAgree g.nodes
    → DoAll g os → HaveObjects g.nodes → Each (PassesCollections g.nodes) os
    → Each (λ s. stage_has (flat_map (λ (e : Entry). object_source e.node) g.nodes)
    (stages_of g.nodes 1 (at_source g.nodes) os) s ≡ true)
    (stages_of g.nodes 1 (at_source g.nodes) os)
plan_objects g os found agree d have p =
    let all : List Stage = stages_of g.nodes 1 (at_source g.nodes) os in
    all_have (flat_map (λ (e : Entry). object_source e.node) g.nodes) all g.nodes [] 1
    (at_source g.nodes) (source_places g.nodes) os
    (λ n x e. all_found (λ e. has_objects g.nodes e.node ≡ true) g.nodes n x e have) refl refl
    (sources_objects all g.nodes g.nodes found agree found) d.sound p d.ready
