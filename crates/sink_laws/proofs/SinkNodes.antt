-- After a Pdo has sunk, each node is as it must be.
use Rattle.std.proofs.Common.{◌≡◌, ℕ, ◌+◌, ◌-◌, ◌<◌, ◌≤◌, Bool, true, false, ◌||◌, List, [], ◌∷◌, ◌++◌, Option, Some, None, map, length, zero, suc, refl, sym, ap, ◌∙◌, subst, arith}
use Rattle.std.proofs.lemmas.Bool.{false≢true}
use Rattle.std.specs.List.{AllByRecursion}
use Rattle.graph_laws.specs.of_combine_table.declared.comb.Comb.{Comb}
use Rattle.flume_value.proofs.EachLemmas.{Each-append}
use Rattle.graph_laws.specs.of_exec_graph.Forests.{Forest, numbered}
use Rattle.graph_laws.specs.of_exec_graph.Meaning.{place, node_at, has_out}
use Rattle.graph_laws.specs.of_exec_graph.Readers.{same_place, among, any_node, calls_on, collects, uses, is_read}
use Rattle.graph_laws.specs.of_exec_graph.Wellformed.{IsFounded, IsForestOk, IsLiftedOk, IsNodeOk, comb_at, most_nodes}
use Rattle.graph_laws.specs.of_exec_graph.declared.graph.Place.{Place}
use Rattle.graph_laws.specs.of_exec_graph.declared.graph.Node.{Node}
use Rattle.graph_laws.specs.of_exec_graph.declared.graph.Node.TheVariants.{Source, Flatten, Pdo, Gbk}
use Rattle.graph_laws.specs.of_exec_graph.declared.graph.Entry.{Entry}
use Rattle.graph_laws.specs.of_exec_graph.declared.graph.Graph.{Graph}
use Rattle.graph_laws.proofs.of_exec_graph.Bools.{or_left, or_right}
use Rattle.graph_laws.proofs.of_exec_graph.Entries.{all_found}
use Rattle.graph_laws.proofs.of_exec_graph.Solving.{each_found}
use Rattle.graph_laws.proofs.of_exec_graph.Soundness.{differ_ascends}
use Rattle.graph_laws.specs.Joining.{reread, reread_entry}
use Rattle.graph_laws.proofs.ReadPlaces.{same_self}
use Rattle.graph_laws.proofs.Wellness.{differ_map}
use Rattle.graph_laws.proofs.Reading.{any_here}
use Rattle.sink_laws.specs.Sinking.{copies, copied, flattens, outputs_of, flatten_number, first_flatten, rerouted, sunk_once, CanSink}
use Rattle.sink_laws.proofs.Instead.{Maybe}
use Rattle.sink_laws.proofs.Outs.{has_below}
use Rattle.sink_laws.proofs.Ranges.{length-copied}
use Rattle.sink_laws.proofs.Readership.{all_instead_others, any_none, only_passes}
use Rattle.sink_laws.proofs.Rerouting.{IsOutside, apart_input, among_rerouted, any_sunk, those_sunk, collects_skipped, calls_skipped, read_sunk}
use Rattle.sink_laws.proofs.SinkFounded.{kept_nodes, first_nodes, last_nodes, flatten_at, node_at-sunk_other}
use Rattle.sink_laws.proofs.Unread.{none_passes}

-- What is found of a node by its number.
abbrev pub NodesOk : Graph → Type 0
NodesOk g = AllByRecursion (λ e. IsNodeOk g e.number e.node) g.nodes

pub two_kinds : (g : Graph) (n q : ℕ) (x y : Node) → node_at g.nodes n ≡ Some x
    → node_at g.nodes q ≡ Some y → (x ≡ y → ⊥) → n ≡ q → ⊥
two_kinds g n q x y a b h e = let t : node_at g.nodes n
    ≡ node_at g.nodes q = ap (node_at g.nodes) e in
    let s : x ≡ y = cc in h s

-- ---- the nodes that stood there

outside : (g : Graph) (q j p : ℕ) → (q ≡ p → ⊥) → q < g.next → IsOutside (place q j) p g.next
outside g q j p a b = record { apart = a; below = b }

old_lifted : (g : Graph) (n p : ℕ) (f : Forest) (ins : List Place) (q : ℕ) (c : Place) (o : ℕ)
    (l : Bool) (m : Option Comb) (k : Comb) → IsFounded g → CanSink g n p f ins
    → node_at g.nodes q ≡ Some (Gbk c o l m) → (q ≡ p → ⊥) → q < g.next → IsLiftedOk g q k
    → IsLiftedOk (sunk_once g p f ins) q k
old_lifted g n p f ins q c o l m k ok can at apart below a =
    let base : ℕ = g.next + length ins in
    let d : Place = place q 0 in
    let x : IsOutside d p g.next = outside g q 0 p apart below in
    let not_n : q ≡ n → ⊥ = two_kinds g q n (Gbk c o l m) (Flatten ins) at can.flatten
    (λ e. let bad : ⊥ = cc in bad) in
    let none : AllByRecursion (λ e. collects d e.node ≡ false) g.nodes =
    none_passes (λ (e : Entry). collects d e.node) g.nodes a.uncollected in
    let not_in : AllByRecursion (λ c. same_place d c ≡ false) ins =
    none_passes (same_place d) ins (all_found (λ e. collects d e.node ≡ false) g.nodes n
    (Flatten ins) can.flatten none) in
    let copies_none : (cs : List Place) (i : ℕ)
    → AllByRecursion (λ e. collects d e.node ≡ false) (copies i f cs) = copies_collect d f in
    let reader_is : calls_on d (Pdo (place n 0) f) ≡ true → ⊥ =
    λ e. false≢true (sym (apart_input d n not_n) ∙ e) in
    let reader_apart : a.reader ≡ p → ⊥ =
    λ e. reader_is (only_passes (calls_on d) g.nodes g.nodes a.reader (Pdo (place n 0) f)
    (each_found g.nodes (differ_ascends g.nodes ok.ascends)) a.alone
    (ap (node_at g.nodes) e ∙ can.pdo)) in
    record {
      untold = among_rerouted d p g.next base g.outputs x (omega arith) ∙ a.untold;
      uncollected = any_sunk (collects d) g n p f ins can (collects_skipped d g n p f ins x)
          ∙ (let u : any_node (collects d) g.nodes ≡ false = a.uncollected in
          let v : any_node (collects d) (copies g.next f ins) ≡ false =
          any_none (collects d) (copies g.next f ins) (copies_none ins g.next) in rw (u, v) refl);
      reader = a.reader;
      alone = those_sunk (calls_on d) g n p f ins can (calls_skipped d g n p f ins x not_n) not_in
          ∙ a.alone;
      root = comb_kept g p a.reader f ins k (node_at g.nodes a.reader) refl reader_apart a.root;
    }
  where
    copies_collect : (d : Place) (f : Forest) (cs : List Place) (i : ℕ)
        → AllByRecursion (λ e. collects d e.node ≡ false) (copies i f cs)
    copies_collect d f [] i = tt
    copies_collect d f (c ∷ cs) i = (refl, copies_collect d f cs (i + 1))

    comb_reread : (r : Place → Place) (x : Node) (k : Comb) → comb_at (Some x) ≡ Some k
        → comb_at (Some (reread r x)) ≡ Some k
    comb_reread r (Source s) k h = h
    comb_reread r _ k h = h

    comb_kept : (g : Graph) (p q : ℕ) (f : Forest) (ins : List Place) (k : Comb) (o : Option Node)
        → node_at g.nodes q ≡ o → (q ≡ p → ⊥) → comb_at (node_at g.nodes q) ≡ Some k
        → comb_at (node_at (sunk_once g p f ins).nodes q) ≡ Some k
    comb_kept g p q f ins k None e apart h = let bad : ⊥ = (let z : comb_at None ≡ Some k =
        ap comb_at (sym e) ∙ h in cc) in absurd bad
    comb_kept g p q f ins k (Some x) e apart h =
        ap comb_at (node_at-sunk_other g p q f ins x apart e)
        ∙ comb_reread (rerouted p (g.next + length ins)) x k (ap comb_at (sym e) ∙ h)

old_ok : (g : Graph) (n p : ℕ) (f : Forest) (ins : List Place) (q : ℕ) (x : Node) → IsFounded g
    → CanSink g n p f ins → node_at g.nodes q ≡ Some x → (q ≡ p → ⊥) → q < g.next
    → IsNodeOk g q x
    → IsNodeOk (sunk_once g p f ins) q (reread (rerouted p (g.next + length ins)) x)
old_ok g n p f ins q (Flatten cs) ok can at apart below a =
    let e = map_length (rerouted p (g.next + length ins)) cs in
    (let h = a.0 in omega arith, let h = a.1 in omega arith)
  where
    map_length : (r : Place → Place) (cs : List Place) → length (map r cs) ≡ length cs
    map_length r [] = refl
    map_length r (c ∷ cs) = let i = map_length r cs in cc
old_ok g n p f ins q (Pdo c h) ok can at apart below a = record {
  order = a.order;
  read = λ j i. read_sunk g n p f ins (place q j) can (outside g q j p apart below)
      (two_kinds g q n (Pdo c h) (Flatten ins) at can.flatten (λ e. let bad : ⊥ = cc in bad))
      (a.read j i);
}
old_ok g n p f ins q (Gbk c o l (Some k)) ok can at apart below a =
    old_lifted g n p f ins q c o l (Some k) k ok can at apart below a
old_ok g n p f ins q _ ok can at apart below a = tt

-- ---- the copies and the Flattens

among_copied : (n j i : ℕ) (cs : List Place) → i < length cs
    → among (place (n + i) j) (copied n j cs) ≡ true
among_copied n j i [] h = absurd (omega arith)
among_copied n j zero (c ∷ cs) h =
    let e : n ≡ n + 0 = omega arith in
    subst (λ (a : ℕ). (same_place (place a j) (place n j)
    || among (place a j) (copied (n + 1) j cs)) ≡ true) e
    (or_left (same_place (place n j) (place n j)) (among (place n j) (copied (n + 1) j cs))
    (same_self (place n j)))
among_copied n j (suc i) (c ∷ cs) h =
    let e : (n + 1) + i ≡ n + suc i = omega arith in
    subst (λ (a : ℕ). (same_place (place a j) (place n j)
    || among (place a j) (copied (n + 1) j cs)) ≡ true) e
    (or_right (same_place (place ((n + 1) + i) j) (place n j))
    (among (place ((n + 1) + i) j) (copied (n + 1) j cs))
    (among_copied (n + 1) j i cs (omega arith)))

copies_ok : (h : Graph) (first m i : ℕ) (f : Forest) (ins cs : List Place) → m ≡ first + i
    → i + length cs ≡ length ins → numbered 0 f ≡ f
    → ((j : ℕ) → has_out j f ≡ true → (i : ℕ) → i < length ins
    → is_read h (place (first + i) j) ≡ true)
    → AllByRecursion (λ e. IsNodeOk h e.number e.node) (copies m f cs)
copies_ok h first m i f ins [] e l order r = tt
copies_ok h first m i f ins (c ∷ cs) e l order r = (
  record {
    order = order;
    read = λ j o. subst (λ (a : ℕ). is_read h (place a j) ≡ true) (sym e)
        (r j o i (omega arith));
  },
  copies_ok h first (m + 1) (i + 1) f ins cs (omega arith) (omega arith) order r,
)

flattens_ok : (h : Graph) (m first : ℕ) (ins : List Place) (j r : ℕ) → 0 < length ins
    → length ins ≤ most_nodes
    → AllByRecursion (λ e. IsNodeOk h e.number e.node) (flattens m first ins j r)
flattens_ok h m first ins j zero a b = tt
flattens_ok h m first ins j (suc r) a b = (
  (let e = length-copied first (suc j) ins in (omega arith, omega arith)),
  flattens_ok h (m + 1) first ins (suc j) r a b,
)

first_ok : (h : Graph) (p next : ℕ) (ins : List Place) (k : ℕ) → 0 < length ins
    → length ins ≤ most_nodes → Maybe (λ x. IsNodeOk h p x) (first_flatten next ins k)
first_ok h p next ins zero a b = tt
first_ok h p next ins (suc k) a b =
    let e = length-copied next 0 ins in (omega arith, omega arith)

-- An output of a copy is read by the Flatten of that output.
copy_read : (g : Graph) (n p : ℕ) (f : Forest) (ins : List Place) (j i : ℕ) → IsFounded g
    → numbered 0 f ≡ f → CanSink g n p f ins → has_out j f ≡ true → i < length ins
    → is_read (sunk_once g p f ins) (place (g.next + i) j) ≡ true
copy_read g n p f ins j i ok order can h l =
    let new : Graph = sunk_once g p f ins in
    let c : Place = place (g.next + i) j in
    or_left (any_node (uses c) new.nodes) (among c new.outputs)
    (any_here (uses c) new.nodes (flatten_number p (g.next + length ins) j)
    (Flatten (copied g.next j ins))
    (flatten_at g n p f ins j ok.ascends ok.below can (has_below f j order h))
    (among_copied g.next j i ins l))

pub NodesOk-sunk : (g : Graph) (n p : ℕ) (f : Forest) (ins : List Place) → IsFounded g
    → NodesOk g → CanSink g n p f ins → NodesOk (sunk_once g p f ins)
NodesOk-sunk g n p f ins ok nodes can =
    let base : ℕ = g.next + length ins in
    let r : Place → Place = rerouted p base in
    let new : Graph = sunk_once g p f ins in
    let P : Entry → Type 0 = λ e. IsNodeOk new e.number e.node in
    let at_p : IsForestOk g p f = all_found (λ e. IsNodeOk g e.number e.node) g.nodes p
    (Pdo (place n 0) f) can.pdo nodes in
    let at_n : (0 < length ins) × (length ins ≤ most_nodes) =
    all_found (λ e. IsNodeOk g e.number e.node) g.nodes n (Flatten ins) can.flatten nodes in
    let differ = differ_ascends g.nodes ok.ascends in
    Each-append P (first_nodes g p f ins) (copies g.next f ins ++ last_nodes g f ins)
    (all_instead_others P (kept_nodes g p ins) p (first_flatten g.next ins (outputs_of f))
    (differ_map r g.nodes differ)
    (kept_ok g n p f ins g.nodes ok can (each_found g.nodes differ) ok.below nodes)
    (first_ok new p g.next ins (outputs_of f) at_n.0 at_n.1))
    (Each-append P (copies g.next f ins) (last_nodes g f ins)
    (copies_ok new g.next g.next 0 f ins ins (omega arith) (omega arith) at_p.order
    (λ j h i l. copy_read g n p f ins j i ok at_p.order can h l))
    (flattens_ok new base g.next ins 0 (outputs_of f - 1) at_n.0 at_n.1))
  where
    kept_ok : (g : Graph) (n p : ℕ) (f : Forest) (ins : List Place) (es : List Entry)
        → IsFounded g → CanSink g n p f ins
        → AllByRecursion (λ e. node_at g.nodes e.number ≡ Some e.node) es
        → AllByRecursion (λ e. e.number < g.next) es
        → AllByRecursion (λ e. IsNodeOk g e.number e.node) es
        → AllByRecursion (λ e. (e.number ≡ p → ⊥) → IsNodeOk (sunk_once g p f ins) e.number e.node)
        (map (reread_entry (rerouted p (g.next + length ins))) es)
    kept_ok g n p f ins [] ok can a b c = tt
    kept_ok g n p f ins (e ∷ es) ok can a b c = (
      λ apart. old_ok g n p f ins e.number e.node ok can a.0 apart b.0 c.0,
      kept_ok g n p f ins es ok can a.1 b.1 c.1,
    )
