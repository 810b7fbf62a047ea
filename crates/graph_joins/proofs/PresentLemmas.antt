-- Nodes of which some are taken out.
use Rattle.std.proofs.Common.{◌≡◌, ℕ, ◌<◌, Bool, true, false, cond, eqb, ltb, ◌&&◌, List, [], ◌∷◌, length, map, suc, Option, Some, None, refl, sym, ap, ap₂, ◌∙◌, arith}
use Rattle.std.proofs.lemmas.Bool.{eqb-true, false≢true, lt-ltb}
use Rattle.std.specs.List.{AllByRecursion}
use Rattle.exec_graph.specs.Forests.{Forest}
use Rattle.exec_graph.specs.Meaning.{node_at}
use Rattle.exec_graph.specs.Readers.{same_place}
use Rattle.exec_graph.specs.Wellformed.{Ascends, IsNodeOk}
use Rattle.exec_graph.specs.declared.graph.Entry.{Entry}
use Rattle.exec_graph.specs.declared.graph.Graph.{Graph}
use Rattle.exec_graph.specs.declared.graph.Node.{Node}
use Rattle.exec_graph.specs.declared.graph.Node.TheVariants.{Source, Flatten, Pdo, Gbk, Barrier}
use Rattle.exec_graph.specs.declared.graph.Place.{Place}
use Rattle.exec_graph.proofs.Entries.{all_found, entry}
use Rattle.flatten_sink.specs.of_sink_laws.Chain.{forest_of}
use Rattle.graph_joining.specs.inner.Refits.{graph_of, with_pdo}
use Rattle.graph_joining.specs.inner.Tests.{can_sibling}
use Rattle.graph_joining.proofs.Passes.{pdo_is}
use Rattle.graph_laws.specs.Joining.{reread, set_node, without}
use Rattle.graph_laws.proofs.Wellness.{node_at-set_other}
use Rattle.graph_states.specs.of_graph_names.Names.{named_entry, named_place, with_names}
use Rattle.graph_states.specs.of_graph_rewrites.Rewrites.{input_of}
use Rattle.graph_states.specs.of_pardo_fuse.Readers.{is_pdo}
use Rattle.graph_states.specs.States.{taken_in}
use Rattle.graph_joins.specs.Present.{is_here, present}
use Rattle.graph_joins.specs.inner.Takings.{taken_over}

-- ---- a node by its number

-- what is there of what stands there
abbrev pub alive : Option Node → Option Node
alive None = None
alive (Some x) = cond (is_here x) (Some x) None

gone_on : (e : Entry) (es : List Entry) (n : ℕ) → AllByRecursion (λ d. e.number < d.number) es
    → e.number ≡ n → node_at es n ≡ None
gone_on e es n a i = by (node_at es n) refl
  where
    by : (o : Option Node) → node_at es n ≡ o → o ≡ None
    by None h = refl
    by (Some x) h =
        let far : e.number < n = all_found (λ (d : Entry). e.number < d.number) es n x h a in
        let bad : ⊥ = omega arith in absurd bad

node_present : (es : List Entry) (n : ℕ) → Ascends es
    → node_at (present es) n ≡ alive (node_at es n)
node_present [] n a = refl
node_present (e ∷ es) n a =
    by (is_here e.node) (eqb e.number n) refl refl (node_present es n a.1)
  where
    by : (h i : Bool) → is_here e.node ≡ h → eqb e.number n ≡ i
        → node_at (present es) n ≡ alive (node_at es n)
        → node_at (cond h (e ∷ present es) (present es)) n
        ≡ alive (cond i (Some e.node) (node_at es n))
    by true true h i f =
        ap (λ (b : Bool). cond b (Some e.node) (node_at (present es) n)) i
        ∙ sym (ap (λ (b : Bool). cond b (Some e.node) None) h)
    by true false h i f = ap (λ (b : Bool). cond b (Some e.node) (node_at (present es) n)) i ∙ f
    by false true h i f =
        f ∙ ap alive (gone_on e es n a.0 (eqb-true e.number n i))
        ∙ sym (ap (λ (b : Bool). cond b (Some e.node) None) h)
    by false false h i f = f

-- ---- Pdos stay as they are

-- what is told of a node so that it is told of a Flatten as of none
module _ {X : Type 0} (k : Option Node → X)
    (same : (ins : List Place) → k None ≡ k (Some (Flatten ins))) where
  alive_same : (o : Option Node) → k (alive o) ≡ k o
  alive_same None = refl
  alive_same (Some (Flatten ins)) = by (ltb 0 (length ins))
    where
      by : (b : Bool) → k (cond b (Some (Flatten ins)) None) ≡ k (Some (Flatten ins))
      by true = refl
      by false = same ins
  alive_same (Some _) = refl

  same_present : (es hs : List Entry) (n : ℕ) → Ascends es → present es ≡ hs
      → k (node_at es n) ≡ k (node_at hs n)
  same_present es hs n a e =
      sym (alive_same (node_at es n)) ∙ ap k (sym (node_present es n a))
      ∙ ap (λ (l : List Entry). k (node_at l n)) e

pub pdo_present : (es hs : List Entry) (n : ℕ) → Ascends es → present es ≡ hs
    → is_pdo (node_at es n) ≡ is_pdo (node_at hs n)
pdo_present = same_present is_pdo (λ ins. refl)

pub input_present : (es hs : List Entry) (n : ℕ) → Ascends es → present es ≡ hs
    → input_of (node_at es n) ≡ input_of (node_at hs n)
input_present = same_present input_of (λ ins. refl)

pub forest_present : (es hs : List Entry) (n : ℕ) → Ascends es → present es ≡ hs
    → forest_of (node_at es n) ≡ forest_of (node_at hs n)
forest_present = same_present forest_of (λ ins. refl)

pub sibling_present : (es hs : List Entry) (p q : ℕ) → Ascends es → present es ≡ hs
    → can_sibling es p q ≡ can_sibling hs p q
sibling_present es hs p q a e =
    ap₂ (λ (x y : Bool). ltb p q
    && (x && (y && same_place (input_of (node_at es p)) (input_of (node_at es q)))))
    (pdo_present es hs p a e) (pdo_present es hs q a e)
    ∙ ap₂ (λ (c d : Place). ltb p q
    && (is_pdo (node_at hs p) && (is_pdo (node_at hs q) && same_place c d)))
    (input_present es hs p a e) (input_present es hs q a e)

-- ---- a Pdo is taken out, or another

out_is : (es : List Entry) (q : ℕ) (d : Place) (g : Forest) → node_at es q ≡ Some (Pdo d g)
    → present (set_node es q (Flatten [])) ≡ without (present es) q
out_is [] q d g at = refl
out_is (e ∷ es) q d g at =
    by (is_here e.node) (eqb e.number q) refl refl at (out_is es q d g)
  where
    by : (h i : Bool) → is_here e.node ≡ h → eqb e.number q ≡ i
        → cond i (Some e.node) (node_at es q) ≡ Some (Pdo d g)
        → (node_at es q ≡ Some (Pdo d g)
        → present (set_node es q (Flatten [])) ≡ without (present es) q)
        → present (cond i (entry q (Flatten []) ∷ es) (e ∷ set_node es q (Flatten [])))
        ≡ without (cond h (e ∷ present es) (present es)) q
    by true true h i at f =
        sym (ap (λ (b : Bool). cond b (present es) (e ∷ without (present es) q)) i)
    by true false h i at f =
        ap (λ (b : Bool). cond b (e ∷ present (set_node es q (Flatten [])))
        (present (set_node es q (Flatten [])))) h
        ∙ ap (λ (l : List Entry). e ∷ l) (f at)
        ∙ sym (ap (λ (b : Bool). cond b (present es) (e ∷ without (present es) q)) i)
    by false true h i at f =
        let same : e.node ≡ Pdo d g = cc in
        absurd (false≢true (sym h ∙ ap is_here same))
    by false false h i at f =
        ap (λ (b : Bool). cond b (e ∷ present (set_node es q (Flatten [])))
        (present (set_node es q (Flatten [])))) h
        ∙ f at

set_is : (es : List Entry) (p : ℕ) (c d : Place) (f g : Forest) → node_at es p ≡ Some (Pdo d g)
    → present (set_node es p (Pdo c f)) ≡ set_node (present es) p (Pdo c f)
set_is [] p c d f g at = refl
set_is (e ∷ es) p c d f g at =
    by (is_here e.node) (eqb e.number p) refl refl at (set_is es p c d f g)
  where
    x : Node
    x = Pdo c f

    by : (h i : Bool) → is_here e.node ≡ h → eqb e.number p ≡ i
        → cond i (Some e.node) (node_at es p) ≡ Some (Pdo d g)
        → (node_at es p ≡ Some (Pdo d g)
        → present (set_node es p x) ≡ set_node (present es) p x)
        → present (cond i (entry p x ∷ es) (e ∷ set_node es p x))
        ≡ set_node (cond h (e ∷ present es) (present es)) p x
    by true true h i at r =
        sym (ap (λ (b : Bool). cond b (entry p x ∷ present es) (e ∷ set_node (present es) p x)) i)
    by true false h i at r =
        ap (λ (b : Bool). cond b (e ∷ present (set_node es p x)) (present (set_node es p x))) h
        ∙ ap (λ (l : List Entry). e ∷ l) (r at)
        ∙ sym (ap (λ (b : Bool). cond b (entry p x ∷ present es)
        (e ∷ set_node (present es) p x)) i)
    by false true h i at r =
        let same : e.node ≡ Pdo d g = cc in
        absurd (false≢true (sym h ∙ ap is_here same))
    by false false h i at r =
        ap (λ (b : Bool). cond b (e ∷ present (set_node es p x)) (present (set_node es p x))) h
        ∙ r at

taken_present : (es hs : List Entry) (p q : ℕ) (c : Place) (f : Forest) → Ascends es
    → present es ≡ hs → (p ≡ q → ⊥) → is_pdo (node_at hs p) ≡ true
    → is_pdo (node_at hs q) ≡ true
    → present (taken_over es p q c f) ≡ set_node (without hs q) p (Pdo c f)
taken_present es hs p q c f a e differ at bt =
    let one = pdo_is (node_at es p) (pdo_present es hs p a e ∙ at) in
    let other = pdo_is (node_at es q) (pdo_present es hs q a e ∙ bt) in
    let d = input_of (node_at es p) in
    let g = forest_of (node_at es p) in
    set_is (set_node es q (Flatten [])) p c d f g
    (node_at-set_other es q p (Flatten []) (Pdo d g) differ one)
    ∙ ap (λ (l : List Entry). set_node l p (Pdo c f))
    (out_is es q (input_of (node_at es q)) (forest_of (node_at es q)) other
    ∙ ap (λ (l : List Entry). without l q) e)

abbrev pub shown : List Entry → List Place → ℕ → Graph
shown es os n = graph_of (present es) os n

pub taken_shown : (g : Graph) (es js : List Entry) (os : List Place) (n p q : ℕ) (c : Place)
    (f : Forest) → shown es os n ≡ g → Ascends es → (p ≡ q → ⊥)
    → is_pdo (node_at g.nodes p) ≡ true → is_pdo (node_at g.nodes q) ≡ true
    → js ≡ taken_over es p q c f → shown js os n ≡ taken_in g p q c f
taken_shown g es js os n p q c f e a differ at bt is =
    ap (λ (l : List Entry). shown l os n) is
    ∙ ap (λ (l : List Entry). graph_of l os n)
    (taken_present es g.nodes p q c f a (ap (λ (x : Graph). x.nodes) e) differ at bt)
    ∙ ap (λ (x : Graph). graph_of (set_node (without g.nodes q) p (Pdo c f)) x.outputs x.next) e

pub set_shown : (g : Graph) (es js : List Entry) (os : List Place) (n p : ℕ) (c : Place)
    (f : Forest) → shown es os n ≡ g → Ascends es → is_pdo (node_at g.nodes p) ≡ true
    → js ≡ set_node es p (Pdo c f) → shown js os n ≡ with_pdo g p c f
set_shown g es js os n p c f e a at is =
    let one = pdo_is (node_at es p)
    (pdo_present es g.nodes p a (ap (λ (x : Graph). x.nodes) e) ∙ at) in
    ap (λ (l : List Entry). shown l os n) is
    ∙ ap (λ (l : List Entry). graph_of l os n)
    (set_is es p c (input_of (node_at es p)) f (forest_of (node_at es p)) one)
    ∙ ap (λ (x : Graph). with_pdo x p c f) e

-- ---- nothing is taken out at the beginning

here_named : (g : Graph) (r : Place → Place) (m n : ℕ) (x : Node) → IsNodeOk g n x
    → is_here (reread r (with_names m n x)) ≡ true
here_named g r m n (Source s) ok = refl
here_named g r m n (Flatten []) ok = let bad : 0 < 0 = ok.0 in absurd (omega arith)
here_named g r m n (Flatten (c ∷ cs)) ok = lt-ltb 0 (suc (length (map r cs))) (omega arith)
here_named g r m n (Pdo c f) ok = refl
here_named g r m n (Gbk c o l k) ok = refl
here_named g r m n (Barrier ins o l a) ok = refl

pub present_named : (g : Graph) (all es : List Entry) (m : ℕ)
    → AllByRecursion (λ e. IsNodeOk g e.number e.node) es
    → present (map (named_entry all m) es) ≡ map (named_entry all m) es
present_named g all [] m ok = refl
present_named g all (e ∷ es) m ok =
    let one : Entry = named_entry all m e in
    let rest : List Entry = map (named_entry all m) es in
    ap (λ (b : Bool). cond b (one ∷ present rest) (present rest))
    (here_named g (named_place all m) m e.number e.node ok.0)
    ∙ ap (λ (l : List Entry). one ∷ l) (present_named g all es m ok.1)
