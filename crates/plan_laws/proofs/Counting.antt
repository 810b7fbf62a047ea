-- Where each Pdo and each Gbk is carried out once, the bags of script nodes are those of the graph.
use Rattle.std.proofs.Common.{◌≡◌, ℕ, ◌+◌, ◌⊎◌, Bool, true, false, cond, eqb, List, [], ◌∷◌, map, Option, Some, None, refl, sym, ap, ◌∙◌, arith, inl, inr}
use Rattle.std.proofs.lemmas.Bool.{eqb-true, false≢true}
use Rattle.std.proofs.lemmas.List.Folds.{flat_map-map}
use Rattle.std.specs.List.{flat_map, AllByRecursion as Each}
use Rattle.exec_plan.specs.of_flume_value.declared.value.Value.{Value}
use Rattle.exec_plan.specs.of_flume_value.Bag.{put, bag_of}
use Rattle.exec_plan.proofs.of_flume_value.EachLemmas.{Each-weaker}
use Rattle.exec_plan.proofs.of_flume_collection.Orders.{bags, one_bag}
use Rattle.exec_plan.specs.of_exec_graph.Meaning.{AllDiffer, IsSound, node_at, own, own_bag}
use Rattle.exec_plan.proofs.of_exec_graph.Entries.{flat_map_alike}
use Rattle.exec_plan.proofs.of_exec_graph.Solving.{each_found}
use Rattle.exec_plan.specs.Meaning.{Parts, own_parts}
use Rattle.plan_laws.specs.declared.operations.Operation.{Operation}
use Rattle.plan_laws.specs.Operations.{DoAll, runs, times_named, works_at}
use Rattle.plan_laws.proofs.Adding.{node_sum, own_is, sum_at}
use Rattle.plan_laws.proofs.Totals.{sum_once}
use Rattle.exec_plan.specs.of_flume_collection.Collection.{Collection}
use Rattle.exec_plan.specs.of_exec_graph.World.{World}
use Rattle.exec_plan.specs.of_exec_graph.declared.graph.Place.{Place}
use Rattle.exec_plan.specs.of_exec_graph.declared.graph.Node.{Node}
use Rattle.exec_plan.specs.of_exec_graph.declared.graph.Node.TheVariants.{Source, Flatten, Pdo, Gbk, Barrier}
use Rattle.exec_plan.specs.of_exec_graph.declared.graph.Entry.{Entry}
use Rattle.exec_plan.specs.of_exec_graph.declared.graph.Graph.{Graph}

abbrev pub numbers_of : List Entry → List ℕ
numbers_of es = map (λ e. e.number) es

pub nodes_sum : {Y : Type 0} (w : World) (s : Parts Y) (m : Place → Collection) (es : List Entry)
    (F : Node → List Y) → ((x : Node) → F x ≡ node_sum w s m x) → AllDiffer es
    → flat_map (λ e. F e.node) es ≡ flat_map (λ n. sum_at w s m (node_at es n)) (numbers_of es)
nodes_sum w s m es F same d =
    flat_map_alike (λ e. F e.node) (λ e. sum_at w s m (node_at es e.number)) es
    (Each-weaker (λ e. node_at es e.number ≡ Some e.node) (λ e. F e.node ≡ sum_at w s m
    (node_at es e.number)) (λ e h. same e.node ∙ ap (sum_at w s m) (sym h)) es (each_found es d))
    ∙ sym (flat_map-map (λ n. sum_at w s m (node_at es n)) (λ e. e.number) es)

-- each number once
apart_none : (n : ℕ) (es : List Entry) → Each (λ d. d.number ≡ n → ⊥) es
    → times_named n (numbers_of es)
    ≡ 0
apart_none n [] h = refl
apart_none n (e ∷ es) h =
    let r = apart_none n es h.1 in
    elim (eqb e.number n) as (λ b. eqb e.number n ≡ b → cond b 1 0 + times_named n (numbers_of es) ≡
    0)
    [ true ↦ λ i. absurd (h.0 (eqb-true e.number n i)) | false ↦ λ i. omega arith ] refl

one_by : (n : ℕ) (x : Node) (e : Entry) (es : List Entry) (b : Bool) → eqb e.number n ≡ b
    → Each (λ d. d.number ≡ e.number → ⊥) es → cond b (Some e.node) (node_at es n) ≡ Some x
    → (node_at es n ≡ Some x → times_named n (numbers_of es) ≡ 1)
    → cond b 1 0 + times_named n (numbers_of es)
    ≡ 1
one_by n x e es true i d h f =
    let z : times_named n (numbers_of es) ≡ 0 = ap (λ (k : ℕ). times_named k (numbers_of es))
    (sym (eqb-true e.number n i)) ∙ apart_none e.number es d in
    omega arith
one_by n x e es false i d h f = let z : times_named n (numbers_of es) ≡ 1 = f h in omega arith

pub times_one : (n : ℕ) (x : Node) (es : List Entry) → AllDiffer es → node_at es n ≡ Some x
    → times_named n (numbers_of es) ≡ 1
times_one n x [] d h = let bad : ⊥ = cc in absurd bad
times_one n x (e ∷ es) d h = one_by n x e es (eqb e.number n) refl d.0 h (λ i. times_one n x es d.1
    i)

idle : (w : World) (m : Place → Collection) (i : ℕ) (o : Option Node) → works_at o ≡ false
    → sum_at w (own_parts w i) m o ≡ []
idle w m i None h = refl
idle w m i (Some (Source r)) h = refl
idle w m i (Some (Flatten ins)) h = refl
idle w m i (Some (Pdo c f)) h = absurd (false≢true (sym h))
idle w m i (Some (Gbk c o l k)) h = absurd (false≢true (sym h))
idle w m i (Some (Barrier ins o l a)) h = absurd (false≢true (sym h))

once_by : (w : World) (m : Place → Collection) (i : ℕ) (es : List Entry) (ns : List ℕ) (n : ℕ)
    (o : Option Node) → AllDiffer es → node_at es n ≡ o → (works_at o ≡ true → times_named n ns ≡ 1)
    → (sum_at w (own_parts w i) m o ≡ []) ⊎ (times_named n ns ≡ times_named n (numbers_of es))
once_by w m i es ns n None d h f = inl refl
once_by w m i es ns n (Some (Source r)) d h f = inl refl
once_by w m i es ns n (Some (Flatten ins)) d h f = inl refl
once_by w m i es ns n (Some (Pdo c t)) d h f = inr (f refl ∙ sym (times_one n (Pdo c t) es d h))
once_by w m i es ns n (Some (Gbk c o l k)) d h f = inr (f refl ∙ sym (times_one n (Gbk c o l k) es d
    h))
once_by w m i es ns n (Some (Barrier ins o l a)) d h f =
    inr (f refl ∙ sym (times_one n (Barrier ins o l a) es d h))

pub own_same : (w : World) (m : Place → Collection) (g : Graph) (os : List Operation) (i : ℕ)
    → IsSound g → DoAll g os → own_bag w m g.nodes i
    ≡ bag_of (flat_map (λ n. sum_at w (own_parts w i) m (node_at g.nodes n)) (flat_map runs os))
own_same w m g os i ok d =
    let F : ℕ → List Value = λ n. sum_at w (own_parts w i) m (node_at g.nodes n) in
    ap bag_of (nodes_sum w (own_parts w i) m g.nodes (own w m i) (own_is w m i) ok.differ)
    ∙ sym (one_bag (flat_map F (flat_map runs os)) (flat_map F (numbers_of g.nodes))
    (sum_once put bags F (numbers_of g.nodes) (flat_map runs os) [] (λ n. once_by w m i g.nodes
    (flat_map runs os) n (node_at g.nodes n) ok.differ refl (d.once n))))
