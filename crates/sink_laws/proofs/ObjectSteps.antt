-- What reads objects reads objects after a merge and after a step.
use Rattle.std.proofs.Common.{◌≡◌, ℕ, ◌+◌, ◌-◌, Bool, true, false, cond, eqb, List, [], ◌∷◌, length, Some, None, zero, suc, refl, sym, ap, ◌∙◌}
use Rattle.std.specs.List.{AllByRecursion as Each}
use Rattle.std.proofs.lemmas.Bool.{eqb-true, eq-eqb, false≢true}
use Rattle.flume_value.proofs.EachLemmas.{Each-weaker}
use Rattle.graph_laws.specs.of_exec_graph.declared.graph.Place.{Place}
use Rattle.graph_laws.specs.of_exec_graph.declared.graph.Node.{Node}
use Rattle.graph_laws.specs.of_exec_graph.declared.graph.Node.TheVariants.{Flatten, Pdo, Barrier}
use Rattle.graph_laws.specs.of_exec_graph.declared.graph.Entry.{Entry}
use Rattle.graph_laws.specs.of_exec_graph.declared.graph.Graph.{Graph}
use Rattle.graph_laws.specs.of_exec_graph.Forests.{Forest, numbered}
use Rattle.graph_laws.specs.of_exec_graph.Meaning.{AllDiffer, IsThere, node_at, place, reads}
use Rattle.graph_laws.specs.of_exec_graph.Objects.{takes_such}
use Rattle.graph_laws.specs.of_exec_graph.Wellformed.{Ascends, HaveObjects, IsFounded, has_objects, is_object, is_object_at}
use Rattle.graph_laws.proofs.of_exec_graph.Entries.{map_same}
use Rattle.graph_laws.proofs.of_exec_graph.Solving.{gives_found}
use Rattle.graph_laws.proofs.of_exec_graph.Soundness.{differ_ascends}
use Rattle.graph_laws.specs.Joining.{set_node, without}
use Rattle.graph_laws.proofs.Changes.{all_set, all_without}
use Rattle.graph_laws.proofs.NearJoins.{without_lacks}
use Rattle.graph_laws.proofs.ObjectNodes.{kind_set, node_without, object_mapped, objects_reread_there}
use Rattle.graph_laws.proofs.Wellness.{gives_of}
use Rattle.sink_laws.specs.Merging.{dropped, merged_flattens, spliced, CanMerge}
use Rattle.sink_laws.specs.Sinking.{copies, flatten_number, flattens, outputs_of, rerouted, sunk_once, CanSink}
use Rattle.sink_laws.proofs.Outs.{has_below}
use Rattle.sink_laws.proofs.SinkFounded.{all_sunk, flatten_at, node_at-sunk_other}

-- ---- other nodes, of which the objects are the same
node_alike : (old new : List Entry)
    → ((c : Place) → is_object_at new c ≡ is_object_at old c) → (x : Node)
    → has_objects old x ≡ true → has_objects new x ≡ true
node_alike old new h (Barrier ins o l d) a =
    ap (takes_such d) (map_same (is_object_at new) (is_object_at old) h ins) ∙ a
node_alike old new h _ a = a

all_alike : (old new : List Entry)
    → ((c : Place) → is_object_at new c ≡ is_object_at old c) → (es : List Entry)
    → Each (λ e. has_objects old e.node ≡ true) es → Each (λ e. has_objects new e.node ≡ true) es
all_alike old new h es a =
    Each-weaker (λ (e : Entry). has_objects old e.node ≡ true)
    (λ e. has_objects new e.node ≡ true) (λ e b. node_alike old new h e.node b) es a

pub HaveObjects-merged : (g : Graph) (f : ℕ) (ins : List Place) (e : ℕ) (es : List Place)
    → CanMerge g f ins e es → HaveObjects g.nodes → HaveObjects (merged_flattens g f ins e es).nodes
HaveObjects-merged g f ins e es can a =
    let x : Node = Flatten (spliced e es ins) in
    all_alike g.nodes (merged_flattens g f ins e es).nodes
    (λ c. kind_set is_object g.nodes f c.node x (Flatten ins) can.outer refl)
    (set_node g.nodes f x)
    (all_set (λ (d : Entry). has_objects g.nodes d.node ≡ true) g.nodes f x a refl)

-- A number that no node has.
none_at : (es : List Entry) (n : ℕ) → Each (λ e. e.number ≡ n → ⊥) es → node_at es n ≡ None
none_at [] n a = refl
none_at (e ∷ es) n a = by (eqb e.number n) refl (none_at es n a.1)
  where
    by : (b : Bool) → eqb e.number n ≡ b → node_at es n ≡ None
        → cond b (Some e.node) (node_at es n) ≡ None
    by true i j = absurd (a.0 (eqb-true e.number n i))
    by false i j = j

object_dropped : (es : List Entry) (n : ℕ) (ins : List Place) → AllDiffer es
    → node_at es n ≡ Some (Flatten ins) → (m : ℕ)
    → is_object (node_at (without es n) m) ≡ is_object (node_at es m)
object_dropped es n ins d at m = by (eqb m n) refl
  where
    by : (b : Bool) → eqb m n ≡ b → is_object (node_at (without es n) m) ≡ is_object (node_at es m)
    by true i =
        let same : m ≡ n = eqb-true m n i in
        ap is_object (ap (node_at (without es n)) same
        ∙ none_at (without es n) n (without_lacks es n (Flatten ins) d at))
        ∙ sym (ap is_object (ap (node_at es) same ∙ at))
    by false i = ap is_object (node_without es n m (λ e. false≢true (sym i ∙ eq-eqb m n e)))

pub HaveObjects-dropped : (g : Graph) (n : ℕ) (ins : List Place) → Ascends g.nodes
    → node_at g.nodes n ≡ Some (Flatten ins) → HaveObjects g.nodes
    → HaveObjects (dropped g n).nodes
HaveObjects-dropped g n ins up at a =
    all_alike g.nodes (dropped g n).nodes
    (λ c. object_dropped g.nodes n ins (differ_ascends g.nodes up) at c.node)
    (without g.nodes n)
    (all_without (λ (d : Entry). has_objects g.nodes d.node ≡ true) g.nodes n a)

-- ---- a step
copies_objects : (all : List Entry) (n : ℕ) (f : Forest) (cs : List Place)
    → Each (λ e. has_objects all e.node ≡ true) (copies n f cs)
copies_objects all n f [] = tt
copies_objects all n f (c ∷ cs) = (refl, copies_objects all (n + 1) f cs)

flattens_objects : (all : List Entry) (n first : ℕ) (ins : List Place) (j r : ℕ)
    → Each (λ e. has_objects all e.node ≡ true) (flattens n first ins j r)
flattens_objects all n first ins j zero = tt
flattens_objects all n first ins j (suc r) =
    (refl, flattens_objects all (n + 1) first ins (suc j) r)

object_sunk : (g : Graph) (n p : ℕ) (f : Forest) (ins : List Place) → IsFounded g
    → numbered 0 f ≡ f → CanSink g n p f ins → (c : Place) → IsThere g.nodes c
    → is_object_at (sunk_once g p f ins).nodes (rerouted p (g.next + length ins) c)
    ≡ is_object_at g.nodes c
object_sunk g n p f ins ok order can c t = by (eqb c.node p) refl
  where
    by : (b : Bool) → eqb c.node p ≡ b
        → is_object_at (sunk_once g p f ins).nodes
        (cond b (place (flatten_number p (g.next + length ins) c.out) 0) c)
        ≡ is_object_at g.nodes c
    by true i =
        let here : c.node ≡ p = eqb-true c.node p i in
        ap is_object (flatten_at g n p f ins c.out ok.ascends ok.below can
        (has_below f c.out order
        (gives_of g.nodes c p (Pdo (place n 0) f) here can.pdo t)))
        ∙ sym (ap is_object (ap (node_at g.nodes) here ∙ can.pdo))
    by false i =
        let x = gives_found (node_at g.nodes c.node) c.out t in
        ap is_object (node_at-sunk_other g p c.node f ins x.0
        (λ e. false≢true (sym i ∙ eq-eqb c.node p e)) x.1)
        ∙ object_mapped (rerouted p (g.next + length ins)) (Some x.0)
        ∙ sym (ap is_object x.1)

pub HaveObjects-sunk : (g : Graph) (n p : ℕ) (f : Forest) (ins : List Place) → IsFounded g
    → numbered 0 f ≡ f → CanSink g n p f ins → HaveObjects g.nodes
    → HaveObjects (sunk_once g p f ins).nodes
HaveObjects-sunk g n p f ins ok order can a =
    let all : List Entry = (sunk_once g p f ins).nodes in
    let r : Place → Place = rerouted p (g.next + length ins) in
    all_sunk (λ e. has_objects all e.node ≡ true) g p f ins
    (objects_reread_there g.nodes all r g.nodes
    (Each-weaker (λ (e : Entry). Each (IsThere g.nodes) (reads e.node))
    (λ e. Each (λ c. is_object_at all (r c) ≡ is_object_at g.nodes c) (reads e.node))
    (λ e t. Each-weaker (IsThere g.nodes)
    (λ c. is_object_at all (r c) ≡ is_object_at g.nodes c)
    (λ c u. object_sunk g n p f ins ok order can c u) (reads e.node) t) g.nodes ok.there) a)
    (λ _. refl) (copies_objects all g.next f ins)
    (flattens_objects all (g.next + length ins) g.next ins 0 (outputs_of f - 1))
