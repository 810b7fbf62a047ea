-- What the readings say of a group is what lifting asks.
use Rattle.std.proofs.Common.{◌≡◌, ℕ, Bool, true, false, cond, ◌||◌, List, [], ◌∷◌, Option, Some, None, map, refl, sym, ap, ◌∙◌}
use Rattle.std.specs.List.{AllByRecursion}
use Rattle.combine_table.specs.declared.comb.Comb.{Comb}
use Rattle.exec_graph.specs.Meaning.{place, node_at}
use Rattle.exec_graph.specs.Readers.{among, any_node, calls_on, collects, readers, same_place}
use Rattle.exec_graph.specs.Wellformed.{IsGraphOk}
use Rattle.exec_graph.specs.Forests.{Forest}
use Rattle.exec_graph.specs.declared.graph.Place.{Place}
use Rattle.exec_graph.specs.declared.graph.Node.{Node}
use Rattle.exec_graph.specs.declared.graph.Node.TheVariants.{Source, Flatten, Pdo, Gbk, Barrier}
use Rattle.exec_graph.specs.declared.graph.Entry.{Entry}
use Rattle.exec_graph.specs.declared.graph.Graph.{Graph}
use Rattle.exec_graph.proofs.Solving.{each_found}
use Rattle.exec_graph.proofs.Soundness.{differ_ascends}
use Rattle.exec_graph.specs.Wellformed.{comb_at, root_comb}
use Rattle.graph_laws.specs.Lifting.{only_comb, lift_of, marked, marked_entry}
use Rattle.combine_lift.specs.inner.Readings.{both, reader_of, by_places, by_node, by_nodes, reading, combiner}
use Rattle.combine_lift.specs.declared.readings.Reader.{Reader}
use Rattle.combine_lift.specs.declared.readings.Reader.TheVariants.{Other}

-- The reading, where the numbers of the Pdos that read are known, and whether anything else does.
abbrev by_readers : List Entry → Bool → List ℕ → Option Reader
by_readers all true ns = Some Other
by_readers all false [] = None
by_readers all false (q ∷ []) = Some (reader_of (comb_at (node_at all q)))
by_readers all false (q ∷ (p ∷ ns)) = Some Other

other_first : (all : List Entry) (b : Bool) (ns : List ℕ)
    → both (Some Other) (by_readers all b ns) ≡ Some Other
other_first all true ns = refl
other_first all false [] = refl
other_first all false (q ∷ []) = refl
other_first all false (q ∷ (p ∷ ns)) = refl

none_first : (r : Option Reader) → both None r ≡ r
none_first r = refl

caller_first : (all : List Entry) (q : ℕ) (x : Node) (k : Option Comb) (b : Bool) (ns : List ℕ)
    → node_at all q ≡ Some x → comb_at (Some x) ≡ k
    → both (Some (reader_of k)) (by_readers all b ns) ≡ by_readers all b (q ∷ ns)
caller_first all q x k true ns h e = refl
caller_first all q x k false [] h e =
    ap (λ o. Some (reader_of o)) (sym (ap comb_at h ∙ e))
caller_first all q x k false (p ∷ []) h e = refl
caller_first all q x k false (p ∷ (o ∷ ns)) h e = refl

collecting : (all : List Entry) (s b : Bool) (ns : List ℕ)
    → both (cond s (Some Other) None) (by_readers all b ns) ≡ by_readers all (s || b) ns
collecting all true b ns = other_first all b ns
collecting all false b ns = refl

calling : (all : List Entry) (q : ℕ) (c : Place) (f : Forest) (s b : Bool) (ns : List ℕ)
    → node_at all q ≡ Some (Pdo c f)
    → both (cond s (Some (reader_of (root_comb f))) None) (by_readers all b ns)
    ≡ by_readers all b (cond s (q ∷ ns) ns)
calling all q c f true b ns h = caller_first all q (Pdo c f) (root_comb f) b ns h refl
calling all q c f false b ns h = refl

node_first : (all : List Entry) (n q : ℕ) (x : Node) (b : Bool) (ns : List ℕ)
    → node_at all q ≡ Some x
    → both (by_node n x) (by_readers all b ns)
    ≡ by_readers all (collects (place n 0) x || b) (cond (calls_on (place n 0) x) (q ∷ ns) ns)
node_first all n q (Source r) b ns h = refl
node_first all n q (Flatten ins) b ns h = collecting all (among (place n 0) ins) b ns
node_first all n q (Pdo c f) b ns h = calling all q c f (same_place (place n 0) c) b ns h
node_first all n q (Gbk c o l k) b ns h = collecting all (same_place (place n 0) c) b ns
node_first all n q (Barrier ins o l a) b ns h = collecting all (among (place n 0) ins) b ns

nodes_read : (all : List Entry) (n : ℕ) (es : List Entry)
    → AllByRecursion (λ e. node_at all e.number ≡ Some e.node) es
    → by_nodes n es ≡ by_readers all (any_node (collects (place n 0)) es) (readers es (place n 0))
nodes_read all n [] a = refl
nodes_read all n (e ∷ es) a =
    ap (both (by_node n e.node)) (nodes_read all n es a.1)
    ∙ node_first all n e.number e.node (any_node (collects (place n 0)) es)
    (readers es (place n 0)) a.0

combiner_of : (k : Option Comb) → combiner (Some (reader_of k)) ≡ k
combiner_of None = refl
combiner_of (Some k) = refl

told_too : (r : Option Reader) → combiner (both r (Some Other)) ≡ None
told_too None = refl
told_too (Some r) = refl

untold : (r : Option Reader) → both r None ≡ r
untold None = refl
untold (Some r) = refl

combiner_by : (all : List Entry) (b : Bool) (ns : List ℕ)
    → combiner (by_readers all b ns) ≡ cond b None (only_comb all ns)
combiner_by all true ns = refl
combiner_by all false [] = refl
combiner_by all false (q ∷ []) = combiner_of (comb_at (node_at all q))
combiner_by all false (q ∷ (p ∷ ns)) = refl

told_by : (all : List Entry) (t b : Bool) (ns : List ℕ)
    → combiner (both (by_readers all b ns) (cond t (Some Other) None))
    ≡ cond t None (cond b None (only_comb all ns))
told_by all true b ns = told_too (by_readers all b ns)
told_by all false b ns =
    ap combiner (untold (by_readers all b ns)) ∙ combiner_by all b ns

pub combiner_lifts : (g : Graph) (n : ℕ) → IsGraphOk g → combiner (reading n g) ≡ lift_of g n
combiner_lifts g n ok =
    ap (λ r. combiner (both r (by_places n g.outputs)))
    (nodes_read g.nodes n g.nodes (each_found g.nodes (differ_ascends g.nodes ok.founded.ascends)))
    ∙ told_by g.nodes (among (place n 0) g.outputs) (any_node (collects (place n 0)) g.nodes)
    (readers g.nodes (place n 0))

marked_alike : (h i : Option Comb → Option Comb) (x : Node) → ((k : Option Comb) → h k ≡ i k)
    → marked h x ≡ marked i x
marked_alike h i (Gbk c o l k) e = ap (λ m. Gbk c o l m) (e k)
marked_alike h i _ e = refl

-- The nodes with marks that are alike.
pub marked_same : (s t : ℕ → Option Comb → Option Comb)
    → ((n : ℕ) (k : Option Comb) → s n k ≡ t n k)
    → (es : List Entry) → map (marked_entry s) es ≡ map (marked_entry t) es
marked_same s t h [] = refl
marked_same s t h (e ∷ es) =
    let i = marked_same s t h es in
    let j = marked_alike (s e.number) (t e.number) e.node (h e.number) in cc
