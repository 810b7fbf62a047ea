-- The step of a Pdo with one output.
use Rattle.std.proofs.Common.{◌≡◌, ℕ, ◌+◌, ◌-◌, ◌<◌, ◌≤◌, Bool, true, false, eqb, List, [], ◌∷◌, ◌++◌, Option, Some, None, append-nil, length, map, refl, sym, ap, ◌∙◌, subst, arith, inl, inr}
use Rattle.std.proofs.lemmas.Bool.{eqb-true, eq-eqb, false≢true}
use Rattle.std.specs.List.{AllByRecursion}
use Rattle.flume_value.proofs.EachLemmas.{Each-weaker}
use Rattle.sink_laws.specs.of_exec_graph.Forests.{Forest, after_out}
use Rattle.sink_laws.specs.of_exec_graph.Meaning.{place, node_at, reads, IsThere}
use Rattle.sink_laws.specs.of_exec_graph.Readers.{any_node, among, same_place, uses, is_read}
use Rattle.sink_laws.specs.of_exec_graph.Wellformed.{IsForestOk, IsGraphOk, IsNodeOk}
use Rattle.sink_laws.specs.of_exec_graph.declared.graph.Place.{Place}
use Rattle.sink_laws.specs.of_exec_graph.declared.graph.Node.{Node}
use Rattle.sink_laws.specs.of_exec_graph.declared.graph.Node.TheVariants.{Source, Flatten, Pdo, Gbk, Barrier}
use Rattle.sink_laws.specs.of_exec_graph.declared.graph.Entry.{Entry}
use Rattle.sink_laws.specs.of_exec_graph.declared.graph.Graph.{Graph}
use Rattle.sink_laws.proofs.of_exec_graph.Bools.{or_cases}
use Rattle.sink_laws.proofs.of_exec_graph.Entries.{entry, all_found}
use Rattle.sink_laws.specs.of_graph_laws.Joining.{reread, reread_entry}
use Rattle.sink_laws.specs.of_graph_laws.Single.{HasSingleOutputs, HasSteps, IsOneOutput}
use Rattle.sink_laws.proofs.of_graph_laws.Wellness.{gives_of}
use Rattle.sink_laws.specs.Sinking.{copies, first_flatten, flattens, instead, outputs_of, flatten_number, rerouted, sunk_once, CanSink}
use Rattle.sink_laws.proofs.Outs.{has_below}
use Rattle.sink_weights.specs.Outputs.{sunk_single}
use Rattle.sink_laws.proofs.Unread.{same_true}
use Rattle.sink_weights.proofs.Roots.{reader_of, uses_among}
use Rattle.sink_weights.proofs.SinkReads.{kept_place, moved_place}

-- ---- a graph that reads what it read

map_same : (r : Place → Place) (cs : List Place) → AllByRecursion (λ c. r c ≡ c) cs
    → map r cs ≡ cs
map_same r [] a = refl
map_same r (c ∷ cs) a = let i = map_same r cs a.1 in let j : r c ≡ c = a.0 in cc

reread_same : (r : Place → Place) (x : Node) → AllByRecursion (λ c. r c ≡ c) (reads x)
    → reread r x ≡ x
reread_same r (Source s) a = refl
reread_same r (Flatten ins) a = ap (λ (cs : List Place). Flatten cs) (map_same r ins a)
reread_same r (Pdo c f) a = ap (λ (d : Place). Pdo d f) a.0
reread_same r (Gbk c o l k) a = ap (λ (d : Place). Gbk d o l k) a.0
reread_same r (Barrier ins o l d) a = ap (λ (cs : List Place). Barrier cs o l d) (map_same r ins a)

nodes_same : (r : Place → Place) (es : List Entry)
    → AllByRecursion (λ e. AllByRecursion (λ c. r c ≡ c) (reads e.node)) es
    → map (reread_entry r) es ≡ es
nodes_same r [] a = refl
nodes_same r (e ∷ es) a =
    ap (λ (x : Node). entry e.number x ∷ map (reread_entry r) es) (reread_same r e.node a.0)
    ∙ ap (λ (ds : List Entry). e ∷ ds) (nodes_same r es a.1)

-- ---- the step

single_place : (g : Graph) (n p : ℕ) (f : Forest) (ins : List Place) (c : Place) → IsGraphOk g
    → CanSink g n p f ins → outputs_of f ≡ 1 → IsThere g.nodes c
    → rerouted p (g.next + length ins) c ≡ c
single_place g n p f ins c ok can one there = by (eqb c.node p) refl
  where
    by : (b : Bool) → eqb c.node p ≡ b → rerouted p (g.next + length ins) c ≡ c
    by true i =
        let h : c.node ≡ p = eqb-true c.node p i in
        let fine : IsForestOk g p f = all_found (λ e. IsNodeOk g e.number e.node) g.nodes p
        (Pdo (place n 0) f) can.pdo ok.nodes in
        let l : c.out < outputs_of f = has_below f c.out fine.order
        (gives_of g.nodes c p (Pdo (place n 0) f) h can.pdo there) in
        let z : c.out ≡ 0 = omega arith in
        moved_place p (g.next + length ins) c h
        ∙ ap (λ (j : ℕ). place (flatten_number p (g.next + length ins) j) 0) z
        ∙ ap (λ (k : ℕ). place k 0) (sym h) ∙ ap (λ (j : ℕ). place c.node j) (sym z)
    by false i = kept_place p (g.next + length ins) c (λ h. false≢true (sym i ∙ eq-eqb c.node p h))

pub single_step : (g : Graph) (n p : ℕ) (f : Forest) (ins : List Place) → IsGraphOk g
    → CanSink g n p f ins → outputs_of f ≡ 1 → sunk_once g p f ins ≡ sunk_single g p f ins
single_step g n p f ins ok can one =
    let base : ℕ = g.next + length ins in
    let r : Place → Place = rerouted p base in
    let same : (cs : List Place) → AllByRecursion (IsThere g.nodes) cs
    → AllByRecursion (λ c. r c ≡ c) cs =
    λ cs a. Each-weaker (IsThere g.nodes) (λ c. r c ≡ c)
    (λ c t. single_place g n p f ins c ok can one t) cs a in
    let kept : map (reread_entry r) g.nodes ≡ g.nodes =
    nodes_same r g.nodes (Each-weaker
    (λ (e : Entry). AllByRecursion (IsThere g.nodes) (reads e.node))
    (λ e. AllByRecursion (λ c. r c ≡ c) (reads e.node)) (λ e a. same (reads e.node) a) g.nodes
    ok.founded.there) in
    let nodes : (sunk_once g p f ins).nodes ≡ (sunk_single g p f ins).nodes =
    ap (λ (es : List Entry). instead es p (first_flatten g.next ins (outputs_of f))
    ++ (copies g.next f ins ++ flattens base g.next ins 0 (outputs_of f - 1))) kept
    ∙ ap (λ (c : ℕ). instead g.nodes p (first_flatten g.next ins c)
    ++ (copies g.next f ins ++ flattens base g.next ins 0 (c - 1))) one
    ∙ ap (λ (es : List Entry). instead g.nodes p (first_flatten g.next ins 1) ++ es)
    (append-nil (copies g.next f ins)) in
    let outputs : map r g.outputs ≡ g.outputs = map_same r g.outputs (same g.outputs
    ok.founded.told) in
    let next : base + (outputs_of f - 1) ≡ base = omega arith in
    ap (λ (es : List Entry). record {
      nodes = es;
      outputs = map r g.outputs;
      next = base + (outputs_of f - 1);
    }) nodes
    ∙ ap (λ (cs : List Place). record {
      nodes = (sunk_single g p f ins).nodes;
      outputs = cs;
      next = base + (outputs_of f - 1);
    }) outputs
    ∙ ap (λ (k : ℕ). record {
      nodes = (sunk_single g p f ins).nodes;
      outputs = g.outputs;
      next = k;
    }) next

-- ---- graphs of one output a step

all_hold : (P : Place → Type 0) (c : Place) (cs : List Place) → AllByRecursion P cs
    → among c cs ≡ true → P c
all_hold P c [] a h = absurd (false≢true h)
all_hold P c (d ∷ ds) a h =
    elim (or_cases (same_place c d) (among c ds) h) [
      | inl i ↦ subst P (sym (same_true c d i)) a.0
      | inr i ↦ all_hold P c ds a.1 i
    ]

read_there : (g : Graph) (c : Place) → IsGraphOk g → is_read g c ≡ true → IsThere g.nodes c
read_there g c ok h =
    elim (or_cases (any_node (uses c) g.nodes) (among c g.outputs) h) [
      | inl i ↦ (let r = reader_of g (uses c) ok.founded i in
          all_hold (IsThere g.nodes) c (reads r.node)
          (all_found (λ e. AllByRecursion (IsThere g.nodes) (reads e.node)) g.nodes r.number r.node
          r.at ok.founded.there) (uses_among c r.node r.passes))
      | inr i ↦ all_hold (IsThere g.nodes) c g.outputs ok.founded.told i
    ]

one_most : (f : Forest) → IsOneOutput f → outputs_of f ≤ 1
one_most f one =
    let a : outputs_of f ≡ after_out 0 one.label.out = ap outputs_of one.alone in
    let b = most_one one.label.out in omega arith
  where
    most_one : (o : Option ℕ) → after_out 0 o ≤ 1
    most_one None = omega arith
    most_one (Some j) = omega arith

pub one_output : (g : Graph) (p j : ℕ) (c : Place) (f : Forest) → IsGraphOk g
    → HasSingleOutputs g → node_at g.nodes p ≡ Some (Pdo c f) → is_read g (place p j) ≡ true
    → outputs_of f ≡ 1
one_output g p j c f ok single at h =
    let fine : IsForestOk g p f =
    all_found (λ e. IsNodeOk g e.number e.node) g.nodes p (Pdo c f) at ok.nodes in
    let l : j < outputs_of f = has_below f j fine.order
    (gives_of g.nodes (place p j) p (Pdo c f) refl at (read_there g (place p j) ok h)) in
    let m : outputs_of f ≤ 1 =
    one_most f (all_found (λ e. HasSteps IsOneOutput e.node) g.nodes p (Pdo c f) at single) in
    omega arith
