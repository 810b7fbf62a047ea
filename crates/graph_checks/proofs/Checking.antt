-- The tests of nodes say what they are to say.
use Rattle.std.proofs.Common.{◌≡◌, ℕ, ◌<◌, ◌≤◌, Bool, true, false, not, ltb, ◌&&◌, List, length, Option, Some, None, refl, sym, ap, ◌∙◌, subst, arith}
use Rattle.std.specs.Prelude.{IsTrue}
use Rattle.std.specs.List.{AllByRecursion as Each, list_all}
use Rattle.std.proofs.lemmas.Bool.{false≢true}
use Rattle.std.proofs.lemmas.Bool.Decides.{nat_tests}
use Rattle.combine_table.specs.declared.comb.Comb.{Comb}
use Rattle.combine_table.specs.declared.comb.Comb.TheVariants as by
use Rattle.combine_table.specs.contracts.comb.CombPartialEq.TheImpl as combs
use Rattle.flume_value.proofs.BoolLemmas.{both_true, and_both}
use Rattle.flume_value.proofs.EachLemmas.{Each-both, Each-weaker, each_passes, all_pass}
use Rattle.graph_checks.specs.declared.callers.Callers.{Callers}
use Rattle.graph_checks.specs.declared.callers.Callers.TheVariants.{One}
use Rattle.exec_graph.specs.declared.graph.Place.{Place}
use Rattle.exec_graph.specs.declared.graph.Node.{Node}
use Rattle.exec_graph.specs.declared.graph.Node.TheVariants.{Flatten, Pdo, Gbk, Barrier}
use Rattle.exec_graph.specs.declared.graph.Entry.{Entry}
use Rattle.exec_graph.specs.declared.graph.Graph.{Graph}
use Rattle.exec_graph.specs.Meaning.{AllDiffer, place}
use Rattle.exec_graph.specs.Readers.{among, any_node, collects, is_held}
use Rattle.exec_graph.specs.Wellformed.{Ascends, HaveObjects, has_objects, is_object_at, IsFounded, IsGraphOk, IsLiftedOk, IsNodeOk, total_size, most_nodes}
use Rattle.graph_checks.specs.inner.Checks.{all_read, called_by, callers_from, flatten_ok, forest_ok, in_order, lifted_ok}
use Rattle.graph_checks.specs.inner.Objects.{is_object_in, objects_in}
use Rattle.exec_graph.specs.Spots.{spots}
use Rattle.exec_graph.specs.Objects.{takes_such}
use Rattle.exec_graph.proofs.Entries.{map_same}
use Rattle.graph_checks.proofs.Combs.{comb_from, comb_to}
use Rattle.graph_checks.proofs.ObjectLemmas.{object_there}
use Rattle.exec_graph.proofs.Bools.{no_or, or_false}
use Rattle.graph_checks.proofs.Founding.{Says, no_such}
use Rattle.graph_checks.proofs.Ordering.{numbered_from, numbered_to, read_from, read_to}
use Rattle.graph_checks.proofs.OnlyReader.{only_from, only_to}
use Rattle.exec_graph.proofs.Soundness.{differ_ascends}

-- ---- flattens
sizes_from : (n : ℕ) → (ltb 0 n && not (ltb most_nodes n)) ≡ true → (0 < n) × (n ≤ most_nodes)
sizes_from n h =
    let p = both_true (ltb 0 n) (not (ltb most_nodes n)) h in
    let low = p.0 in let high = p.1 in
    (grind (arith, nat_tests), grind (arith, nat_tests))

sizes_to : (n : ℕ) → 0 < n → n ≤ most_nodes → (ltb 0 n && not (ltb most_nodes n)) ≡ true
sizes_to n l h = grind (arith, nat_tests)

-- ---- lifted groups
called_from : (k : Comb) (o : Option Callers) → called_by k o ≡ true → o ≡ Some (One (Some k))
called_from k (Some (One (Some root))) h =
    ap (λ (r : Comb). Some (One (Some r))) (comb_from root k h)
called_from k _ h = absurd (false≢true h)

called_to : (k : Comb) (o : Option Callers) → o ≡ Some (One (Some k)) → called_by k o ≡ true
called_to k o h = ap (called_by k) h ∙ comb_to k

not_from : (b : Bool) → not b ≡ true → b ≡ false
not_from true h = absurd (false≢true h)
not_from false h = refl

lifted_from : (g : Graph) (n : ℕ) (k : Comb) → AllDiffer g.nodes
    → (not (is_held g (place n 0)) && called_by k (callers_from None g.nodes (place n 0))) ≡ true
    → IsLiftedOk g n k
lifted_from g n k d h =
    let c : Place = place n 0 in
    let p = both_true (not (is_held g c)) (called_by k (callers_from None g.nodes c)) h in
    let q = or_false (any_node (collects c) g.nodes) (among c g.outputs)
    (not_from (is_held g c) p.0) in
    let o = only_from g.nodes c (Some k) d (called_from k (callers_from None g.nodes c) p.1) in
    record { untold = q.1; uncollected = q.0; reader = o.reader; alone = o.alone; root = o.root }

lifted_to : (g : Graph) (n : ℕ) (k : Comb) → AllDiffer g.nodes → IsLiftedOk g n k
    → (not (is_held g (place n 0)) && called_by k (callers_from None g.nodes (place n 0))) ≡ true
lifted_to g n k d a =
    let c : Place = place n 0 in
    let free : is_held g c ≡ false =
    no_or (any_node (collects c) g.nodes) (among c g.outputs) a.uncollected a.untold in
    and_both (not (is_held g c)) (called_by k (callers_from None g.nodes c)) (ap not free)
    (called_to k (callers_from None g.nodes c) (only_to g.nodes c (Some k) d
    (record { reader = a.reader; alone = a.alone; root = a.root })))

-- ---- objects
abbrev pub objects : List Entry → Bool
objects es = list_all (λ (e : Entry). objects_in es e.node) es

node_objects : (es : List Entry) (x : Node) → Ascends es → objects_in es x ≡ has_objects es x
node_objects es (Barrier ins o l a) up = ap (takes_such a)
    (map_same (is_object_in es) (is_object_at es) (λ c. object_there es c.node up) ins)
node_objects es _ up = refl

objects_from : (es : List Entry) → Ascends es → objects es ≡ true → HaveObjects es
objects_from es up h = Each-weaker (λ (e : Entry). IsTrue (objects_in es e.node))
    (λ e. has_objects es e.node ≡ true) (λ e q. sym (node_objects es e.node up) ∙ q) es
    (each_passes (λ (e : Entry). objects_in es e.node) es h)

objects_to : (es : List Entry) → Ascends es → HaveObjects es → objects es ≡ true
objects_to es up a = all_pass (λ (e : Entry). objects_in es e.node) es
    (Each-weaker (λ (e : Entry). has_objects es e.node ≡ true)
    (λ e. IsTrue (objects_in es e.node)) (λ e q. node_objects es e.node up ∙ q) es a)

-- ---- one node
record Passes (g : Graph) (n : ℕ) (x : Node) : Type 0 where
  pub flatten : flatten_ok x ≡ true
  pub forest : forest_ok g n x ≡ true
  pub lifted : lifted_ok g n x ≡ true

node_from : (g : Graph) (n : ℕ) (x : Node) → AllDiffer g.nodes → Passes g n x → IsNodeOk g n x
node_from g n (Flatten ins) d p = sizes_from (length ins) p.flatten
node_from g n (Pdo c f) d p =
    let q = both_true (in_order 0 (spots f)) (all_read g n (spots f)) p.forest in
    record { order = numbered_from 0 f q.0; read = read_from g n f q.1 }
node_from g n (Gbk c o l (Some k)) d p = lifted_from g n k d p.lifted
node_from g n _ d p = tt

node_to : (g : Graph) (n : ℕ) (x : Node) → AllDiffer g.nodes → IsNodeOk g n x → Passes g n x
node_to g n (Flatten ins) d a =
    record { flatten = sizes_to (length ins) a.0 a.1; forest = refl; lifted = refl }
node_to g n (Pdo c f) d a = record {
  flatten = refl;
  forest = and_both (in_order 0 (spots f)) (all_read g n (spots f)) (numbered_to 0 f a.order)
      (read_to g n f a.read);
  lifted = refl;
}
node_to g n (Gbk c o l (Some k)) d a =
    record { flatten = refl; forest = refl; lifted = lifted_to g n k d a }
node_to g n _ d a = record { flatten = refl; forest = refl; lifted = refl }

-- ---- all nodes
abbrev pub flattens : List Entry → Bool
flattens es = list_all (λ (e : Entry). flatten_ok e.node) es

abbrev pub forests : Graph → Bool
forests g = list_all (λ (e : Entry). forest_ok g e.number e.node) g.nodes

abbrev pub lifts : Graph → Bool
lifts g = list_all (λ (e : Entry). lifted_ok g e.number e.node) g.nodes

passing : (g : Graph) → IsGraphOk g → Each (λ (e : Entry). Passes g e.number e.node) g.nodes
passing g ok =
    Each-weaker (λ (e : Entry). IsNodeOk g e.number e.node)
    (λ (e : Entry). Passes g e.number e.node)
    (λ e a. node_to g e.number e.node (differ_ascends g.nodes ok.founded.ascends) a) g.nodes
    ok.nodes

flattens_to : (g : Graph) → IsGraphOk g → flattens g.nodes ≡ true
flattens_to g ok = all_pass (λ (e : Entry). flatten_ok e.node) g.nodes
    (Each-weaker (λ (e : Entry). Passes g e.number e.node) (λ (e : Entry). IsTrue
    (flatten_ok e.node))
    (λ e p. p.flatten) g.nodes (passing g ok))

forests_to : (g : Graph) → IsGraphOk g → forests g ≡ true
forests_to g ok = all_pass (λ (e : Entry). forest_ok g e.number e.node) g.nodes
    (Each-weaker (λ (e : Entry). Passes g e.number e.node)
    (λ (e : Entry). IsTrue (forest_ok g e.number e.node)) (λ e p. p.forest) g.nodes (passing g ok))

lifts_to : (g : Graph) → IsGraphOk g → lifts g ≡ true
lifts_to g ok = all_pass (λ (e : Entry). lifted_ok g e.number e.node) g.nodes
    (Each-weaker (λ (e : Entry). Passes g e.number e.node)
    (λ (e : Entry). IsTrue (lifted_ok g e.number e.node)) (λ e p. p.lifted) g.nodes (passing g ok))

graph_from : (g : Graph) → IsFounded g → total_size g.nodes ≤ most_nodes → flattens g.nodes ≡ true
    → forests g ≡ true → objects g.nodes ≡ true → lifts g ≡ true → IsGraphOk g
graph_from g founded few a b o c =
    let d : AllDiffer g.nodes = differ_ascends g.nodes founded.ascends in
    let two : Each (λ (e : Entry). IsTrue (forest_ok g e.number e.node)
    × IsTrue (lifted_ok g e.number e.node)) g.nodes =
    Each-both (λ (e : Entry). IsTrue (forest_ok g e.number e.node))
    (λ (e : Entry). IsTrue (lifted_ok g e.number e.node))
    (λ (e : Entry). IsTrue (forest_ok g e.number e.node) × IsTrue (lifted_ok g e.number e.node))
    (λ e p q. (p, q)) g.nodes
    (each_passes (λ (e : Entry). forest_ok g e.number e.node) g.nodes b)
    (each_passes (λ (e : Entry). lifted_ok g e.number e.node) g.nodes c) in
    record {
      founded = founded;
      nodes = Each-both (λ (e : Entry). IsTrue (flatten_ok e.node))
          (λ (e : Entry). IsTrue (forest_ok g e.number e.node)
          × IsTrue (lifted_ok g e.number e.node)) (λ (e : Entry). IsNodeOk g e.number e.node)
          (λ e p q. node_from g e.number e.node d
          (record { flatten = p; forest = q.0; lifted = q.1 })) g.nodes
          (each_passes (λ (e : Entry). flatten_ok e.node) g.nodes a) two;
      objects = objects_from g.nodes founded.ascends o;
      few = few;
    }

-- ---- the test as a whole
pub not_flat : (g : Graph) (ns : List Entry) (b : Bool) → ns ≡ g.nodes → b ≡ flattens ns
    → b ≡ false → Says false (IsGraphOk g)
not_flat g ns b e f h = no_such (IsGraphOk g)
    (λ ok. false≢true (sym h ∙ f ∙ ap flattens e ∙ flattens_to g ok))

pub not_ordered : (g : Graph) (b : Bool) → b ≡ forests g → b ≡ false → Says false (IsGraphOk g)
not_ordered g b f h = no_such (IsGraphOk g) (λ ok. false≢true (sym h ∙ f ∙ forests_to g ok))

pub not_objects : (g : Graph) (ns : List Entry) (b : Bool) → ns ≡ g.nodes → b ≡ objects ns
    → b ≡ false → Says false (IsGraphOk g)
not_objects g ns b e f h = no_such (IsGraphOk g)
    (λ ok. false≢true (sym h ∙ f ∙ ap objects e
    ∙ objects_to g.nodes ok.founded.ascends ok.objects))

pub checked : (g : Graph) (ns : List Entry) (a b c d o e : Bool) → ns ≡ g.nodes
    → Says a (IsFounded g) → a ≡ true → Says b (total_size ns ≤ most_nodes) → b ≡ true
    → c ≡ flattens ns → c ≡ true → d ≡ forests g → d ≡ true → o ≡ objects ns → o ≡ true
    → e ≡ lifts g → Says e (IsGraphOk g)
checked g ns a b c d o e same f at s bt i ct j dt p ot k = (
  λ t. graph_from g (f.0 at)
      (subst (λ (es : List Entry). total_size es ≤ most_nodes) same (s.0 bt))
      (sym (i ∙ ap flattens same) ∙ ct) (sym j ∙ dt) (sym (p ∙ ap objects same) ∙ ot)
      (sym k ∙ t),
  λ ok. k ∙ lifts_to g ok,
)
