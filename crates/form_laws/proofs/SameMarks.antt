-- Forming asks of the marks only which collections are among them: lists that have the same
-- collections form one plan.
use Rattle.std.proofs.Common.{◌≡◌, ℕ, ◌+◌, ◌*◌, suc, not, eqb, Bool, cond, ◌&&◌, ◌||◌, List, [], ◌∷◌, ◌++◌, map, length, Option, Some, None, refl, sym, ap, ◌∙◌, subst, inl, inr, arith}
use Rattle.std.specs.List.{flat_map, list_any}
use Rattle.exec_graph.specs.Meaning.{AllDiffer, node_at, place}
use Rattle.exec_graph.specs.Readers.{among}
use Rattle.exec_graph.specs.Wellformed.{Ascends, is_lifted}
use Rattle.exec_graph.specs.declared.graph.Place.{Place}
use Rattle.exec_graph.specs.declared.graph.Node.{Node}
use Rattle.exec_graph.specs.declared.graph.Node.TheVariants.{Source, Flatten, Pdo, Gbk, Barrier}
use Rattle.exec_graph.specs.declared.graph.Entry.{Entry}
use Rattle.exec_graph.specs.declared.graph.Graph.{Graph}
use Rattle.exec_graph.specs.declared.graph.Blocked.{Blocked}
use Rattle.plan_rules.specs.of_exec_plan.declared.plan.Plan.{Plan}
use Rattle.plan_laws.specs.declared.operations.Key.{Key}
use Rattle.plan_laws.specs.declared.operations.Key.TheVariants.{Mapper, Whole}
use Rattle.plan_laws.specs.declared.operations.Grouped.{Grouped}
use Rattle.plan_laws.specs.declared.operations.Operation.{Operation}
use Rattle.plan_laws.specs.declared.operations.Operation.TheVariants.{Class}
use Rattle.plan_laws.specs.Operations.{read_through, plan_of, source_places}
use Rattle.plan_roles.specs.Levels.{level}
use Rattle.plan_roles.specs.Mappers.{feeds_unmarked, is_mapper, is_reducer, keys_in, maps, maps_at, places_given, reduces, reducer_of, unless_mapper, is_just_number}
use Rattle.plan_roles.specs.Reading.{feeds_next, goes_past, only_reader}
use Rattle.form_laws.specs.declared.ranked.Ranked.{Ranked}
use Rattle.form_laws.specs.Classes.{AreClasses, AreLinked, IsLinked, has_same, keys_at, keys_taken, related}
use Rattle.form_laws.specs.Formed.{AreFormed, IsFormed, ordered_operations}
use Rattle.form_laws.specs.Operations.{all_alone, ranked_alone, alone_of, class_keys, class_level, class_operation, class_ranked, first_uses, key_passes, number_of_first, operations, passes_at, trivial}
use Rattle.form_laws.specs.Order.{InTurn, ordered}
use Rattle.form_laws.proofs.OneClassing.{operations_apart, same_operations}
use Rattle.form_laws.proofs.SomeClasses.{some_classes}
use Rattle.form_laws.proofs.Turns.{one_order, ordered_in_turn}

-- one graph with two lists of marks that have the same collections
module _ (g : Graph) (m n : List Place) (same : (c : Place) → among c m ≡ among c n) where
  abbrev left : Blocked
  left = record { graph = g; marks = m }

  abbrev right : Blocked
  right = record { graph = g; marks = n }

  -- ---- mappers and reducers

  feeds_alike : feeds_unmarked left ≡ feeds_unmarked right
  feeds_alike = λ i. λ c. not (same c i) && feeds_next g.nodes c

  maps_alike : (k : ℕ) (x : Node) → maps left k x ≡ maps right k x
  maps_alike k (Source r) = refl
  maps_alike k (Flatten ins) = refl
  maps_alike k (Pdo c f) =
      ap (λ (t : Place → Bool). not (is_lifted (node_at g.nodes c.node))
      && (list_any t (places_given k f) && not (list_any (goes_past g.nodes) (places_given k f))))
      feeds_alike
  maps_alike k (Gbk c o l h) = refl
  maps_alike k (Barrier ins o l h) = refl

  maps_at_alike : (k : ℕ) (o : Option Node) → maps_at left k o ≡ maps_at right k o
  maps_at_alike k None = refl
  maps_at_alike k (Some x) = maps_alike k x

  mapper_alike : is_mapper left ≡ is_mapper right
  mapper_alike = λ i. λ k. maps_at_alike k (node_at g.nodes k) i

  unless_alike : (o : Option ℕ) → unless_mapper left o ≡ unless_mapper right o
  unless_alike None = refl
  unless_alike (Some r) = ap (λ (t : ℕ → Bool). cond (t r) None (Some r)) mapper_alike

  reducer_at : (k : ℕ) → reducer_of left k ≡ reducer_of right k
  reducer_at k =
      let o : Option ℕ = only_reader g (place k 0) in
      ap (λ (t : Bool). cond t None (unless_mapper left o)) (same (place k 0))
      ∙ ap (λ (r : Option ℕ). cond (among (place k 0) n) None r) (unless_alike o)

  reducer_alike : reducer_of left ≡ reducer_of right
  reducer_alike = λ i. λ k. reducer_at k i

  reduces_alike : (k r : ℕ) (x : Node) → reduces left k x r ≡ reduces right k x r
  reduces_alike k r (Source s) = refl
  reduces_alike k r (Flatten ins) = refl
  reduces_alike k r (Pdo c f) = refl
  reduces_alike k r (Gbk c o l h) = ap (λ (t : ℕ → Option ℕ). is_just_number (t k) r) reducer_alike
  reduces_alike k r (Barrier ins o l h) = refl

  reducers_alike : is_reducer left ≡ is_reducer right
  reducers_alike =
      λ i. λ r. list_any (λ (e : Entry). reduces_alike e.number r e.node i) g.nodes

  -- ---- classes

  keys_in_alike : (k : ℕ) (c : Place) → keys_in left k c ≡ keys_in right k c
  keys_in_alike k c =
      ap (λ (t : ℕ → Bool). map (λ (d : Place). cond
      (t d.node && eqb (suc (level g.nodes d.node)) (level g.nodes k))
      (Mapper d.node) (Whole d)) (read_through g.nodes c)) mapper_alike

  keys_at_alike : (k : ℕ) (o : Option Node) → keys_at left k o ≡ keys_at right k o
  keys_at_alike k None = refl
  keys_at_alike k (Some (Source r)) = refl
  keys_at_alike k (Some (Flatten ins)) = refl
  keys_at_alike k (Some (Pdo c f)) = refl
  keys_at_alike k (Some (Gbk c o l h)) = keys_in_alike k c
  keys_at_alike k (Some (Barrier ins o l h)) = refl

  keys_alike : keys_taken left ≡ keys_taken right
  keys_alike = λ i. λ k. keys_at_alike k (node_at g.nodes k) i

  related_alike : (k r : ℕ) → related left k r ≡ related right k r
  related_alike k r =
      ap (λ (t : ℕ → List Key). eqb (level g.nodes k) (level g.nodes r)
      && list_any (has_same (t k)) (t r)) keys_alike

  chain_alike : (k : ℕ) (rs : List ℕ) (r : ℕ) → AreLinked left k rs r → AreLinked right k rs r
  chain_alike k [] r h = sym (related_alike k r) ∙ h
  chain_alike k (j ∷ js) r h = (sym (related_alike k j) ∙ h.0, chain_alike j js r h.1)

  chain_back : (k : ℕ) (rs : List ℕ) (r : ℕ) → AreLinked right k rs r → AreLinked left k rs r
  chain_back k [] r h = related_alike k r ∙ h
  chain_back k (j ∷ js) r h = (related_alike k j ∙ h.0, chain_back j js r h.1)

  linked_alike : (k r : ℕ) → IsLinked left k r → IsLinked right k r
  linked_alike k r (inl e) = inl e
  linked_alike k r (inr h) = inr (h.0, chain_alike k h.0 r h.1)

  linked_back : (k r : ℕ) → IsLinked right k r → IsLinked left k r
  linked_back k r (inl e) = inl e
  linked_back k r (inr h) = inr (h.0, chain_back k h.0 r h.1)

  classes_alike : (cs : List (List ℕ)) → AreClasses left cs → AreClasses right cs
  classes_alike cs h = record {
    gbks = h.gbks;
    once = h.once;
    linked = λ k r p q. (
      λ s. linked_alike k r ((h.linked k r p q).0 s),
      λ l. (h.linked k r p q).1 (linked_back k r l),
    );
    some = h.some;
    rise = h.rise;
  }

  -- ---- operations

  passes_at_alike : (k : ℕ) (o : Option Node) → passes_at left k o ≡ passes_at right k o
  passes_at_alike k (Some (Pdo c f)) = refl
  passes_at_alike k _ = refl

  key_passes_at : (k : Key) → key_passes left k ≡ key_passes right k
  key_passes_at (Mapper k) = passes_at_alike k (node_at g.nodes k)
  key_passes_at (Whole c) = refl

  key_passes_alike : key_passes left ≡ key_passes right
  key_passes_alike = λ i. λ k. key_passes_at k i

  abbrev grouped_by : (ℕ → Option ℕ) → ℕ → Grouped
  grouped_by t k = record { gbk = k; reducer = t k }

  class_keys_alike : (ns : List ℕ) → class_keys left ns ≡ class_keys right ns
  class_keys_alike ns =
      ap (λ (t : ℕ → List Key). first_uses (flat_map t ns)) keys_alike

  abbrev class_by : List Key → List Grouped → (Key → List Place) → Operation
  class_by ks gs t = Class ks gs (flat_map t ks)

  class_alike : (ns : List ℕ) → class_operation left ns ≡ class_operation right ns
  class_alike ns =
      ap (λ (ks : List Key). class_by ks (map (grouped_by (reducer_of left)) ns) (key_passes left))
      (class_keys_alike ns)
      ∙ ap (λ (t : ℕ → Option ℕ). class_by (class_keys right ns) (map (grouped_by t) ns)
      (key_passes left)) reducer_alike
      ∙ ap (λ (t : Key → List Place). class_by (class_keys right ns)
      (map (grouped_by (reducer_of right)) ns) t) key_passes_alike

  abbrev ranked_by : List ℕ → Operation → Ranked
  ranked_by ns o = record { rank = 2 * class_level right ns; number = number_of_first ns; does = o }

  ranked_alike : class_ranked left ≡ class_ranked right
  ranked_alike = λ i. λ ns. ranked_by ns (class_alike ns i)

  alone_alike : (k : ℕ) (x : Node) → alone_of left k x ≡ alone_of right k x
  alone_alike k (Source r) = refl
  alone_alike k (Flatten ins) = refl
  alone_alike k (Pdo c f) =
      ap (λ (t : ℕ → Bool). cond (t k || is_reducer left k) []
      (ranked_alone right k (trivial k f) ∷ []))
      mapper_alike
      ∙ ap (λ (t : ℕ → Bool). cond (is_mapper right k || t k) []
      (ranked_alone right k (trivial k f) ∷ []))
      reducers_alike
  alone_alike k (Gbk c o l h) = refl
  alone_alike k (Barrier ins o l h) = refl

  all_alone_alike : (es : List Entry) → all_alone left es ≡ all_alone right es
  all_alone_alike es = λ i. flat_map (λ (e : Entry). alone_alike e.number e.node i) es

  operations_alike : (cs : List (List ℕ)) → operations left cs ≡ operations right cs
  operations_alike cs =
      ap (λ (t : List ℕ → Ranked). map t cs ++ all_alone left g.nodes) ranked_alike
      ∙ ap (λ (l : List Ranked). map (class_ranked right) cs ++ l) (all_alone_alike g.nodes)

  -- ---- what is formed

  formed_alike : (os : List Operation) → AreFormed left os → AreFormed right os
  formed_alike os h = record {
    classes = h.classes;
    classed = classes_alike h.classes h.classed;
    ordered = h.ordered ∙ ap (λ (xs : List Ranked).
        ordered g.nodes (length xs) (source_places g.nodes) xs) (operations_alike h.classes);
  }

-- ---- one result

formed_in_turn : (b : Blocked) (cs : List (List ℕ))
    → InTurn b.graph.nodes (source_places b.graph.nodes) (operations b cs) (ordered_operations b cs)
formed_in_turn b cs =
    let ops : List Ranked = operations b cs in
    ordered_in_turn b.graph.nodes (length ops) (source_places b.graph.nodes) ops (omega arith)

one_formed : (b : Blocked) (os ps : List Operation) → AllDiffer b.graph.nodes
    → AreFormed b os → AreFormed b ps → os ≡ ps
one_formed b os ps d h k =
    h.ordered
    ∙ one_order b.graph.nodes (source_places b.graph.nodes) (operations b h.classes)
    (operations b k.classes) (ordered_operations b h.classes) (ordered_operations b k.classes)
    (operations_apart b h.classes d h.classed) (operations_apart b k.classes d k.classed)
    (same_operations b h.classes k.classes h.classed k.classed)
    (formed_in_turn b h.classes) (formed_in_turn b k.classes)
    ∙ sym k.ordered

-- with the same graph, and marks that have the same collections
pub formed_same : (a b : Blocked) (os ps : List Operation) → AllDiffer a.graph.nodes
    → a.graph ≡ b.graph → ((c : Place) → among c a.marks ≡ among c b.marks)
    → AreFormed a os → AreFormed b ps → os ≡ ps
formed_same a b os ps d e s h k =
    let here : AreFormed (record { graph = a.graph; marks = b.marks }) ps =
    subst (λ (g : Graph). AreFormed (record { graph = g; marks = b.marks }) ps) (sym e) k in
    one_formed (record { graph = a.graph; marks = b.marks }) os ps d
    (formed_alike a.graph a.marks b.marks s os h) here

pub plan_same : (sources : ℕ) (a b : Blocked) (p q : Plan) → AllDiffer a.graph.nodes
    → a.graph ≡ b.graph → ((c : Place) → among c a.marks ≡ among c b.marks)
    → IsFormed sources a p → IsFormed sources b q → p ≡ q
plan_same sources a b p q d e s h k =
    h.plan
    ∙ ap (λ (os : List Operation). plan_of sources a.graph.nodes a.graph.outputs os)
    (formed_same a b h.operations k.operations d e s h.formed k.formed)
    ∙ ap (λ (g : Graph). plan_of sources g.nodes g.outputs k.operations) e
    ∙ sym k.plan

-- ---- and there is one
pub some_plan : (sources : ℕ) (b : Blocked) → Ascends b.graph.nodes
    → (p : Plan) × IsFormed sources b p
some_plan sources b asc =
    let c = some_classes b asc in
    let os : List Operation = ordered_operations b c.0 in (
      plan_of sources b.graph.nodes b.graph.outputs os,
      record {
        operations = os;
        formed = record { classes = c.0; classed = c.1; ordered = refl };
        plan = refl;
      },
    )
