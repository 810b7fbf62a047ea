-- After a merge, each node is as it must be.
use Rattle.std.proofs.Common.{◌≡◌, ℕ, ◌+◌, ◌<◌, ◌≤◌, Bool, true, false, cond, eqb, ◌||◌, List, [], ◌∷◌, ◌++◌, Option, Some, None, length, refl, sym, ap, ◌∙◌, arith, length-append}
use Rattle.std.proofs.lemmas.Bool.{false≢true}
use Rattle.std.proofs.lemmas.List.Folds.{list_any-append}
use Rattle.std.specs.List.{AllByRecursion}
use Rattle.graph_laws.specs.of_combine_table.declared.comb.Comb.{Comb}
use Rattle.graph_laws.specs.of_exec_graph.Meaning.{place, node_at}
use Rattle.graph_laws.specs.of_exec_graph.Readers.{same_place, among, any_node, calls_on, collects, uses, is_read}
use Rattle.graph_laws.specs.of_exec_graph.Wellformed.{IsLiftedOk, IsNodeOk, comb_at, size, total_size, most_nodes}
use Rattle.graph_laws.specs.of_exec_graph.declared.graph.Place.{Place}
use Rattle.graph_laws.specs.of_exec_graph.declared.graph.Node.{Node}
use Rattle.graph_laws.specs.of_exec_graph.declared.graph.Node.TheVariants.{Flatten, Pdo, Gbk}
use Rattle.graph_laws.specs.of_exec_graph.declared.graph.Entry.{Entry}
use Rattle.graph_laws.specs.of_exec_graph.declared.graph.Graph.{Graph}
use Rattle.graph_laws.proofs.of_exec_graph.Bools.{no_or, or_false, or_left, or_right}
use Rattle.graph_laws.proofs.of_exec_graph.Entries.{entry, all_found}
use Rattle.graph_laws.proofs.of_exec_graph.Solving.{each_found}
use Rattle.graph_laws.proofs.of_exec_graph.Soundness.{differ_ascends}
use Rattle.graph_laws.specs.of_exec_graph.Wellformed.{Ascends}
use Rattle.graph_laws.specs.Joining.{set_node}
use Rattle.graph_laws.proofs.Changes.{all_set_others}
use Rattle.graph_laws.proofs.Wellness.{node_at-set_other}
use Rattle.graph_laws.proofs.Reading.{any_set, those_set}
use Rattle.sink_laws.specs.Merging.{spliced, merged_flattens, CanMerge}
use Rattle.sink_laws.proofs.Readership.{any_set_up}
use Rattle.sink_laws.proofs.Rerouting.{apart_input}
use Rattle.sink_laws.proofs.SinkNodes.{NodesOk, two_kinds}
use Rattle.sink_laws.proofs.Unread.{none_passes, same_true}

-- ---- what is among the new inputs

among-append : (c : Place) (xs ys : List Place) → among c (xs ++ ys) ≡ (among c xs || among c ys)
among-append c xs ys = list_any-append (same_place c) xs ys

-- The inputs that are put in place.
pub among_put : (c : Place) (e : ℕ) (es ins : List Place) → among (place e 0) ins ≡ true
    → among c es ≡ true → among c (spliced e es ins) ≡ true
among_put c e es [] h i = absurd (false≢true h)
among_put c e es (d ∷ ins) h i = by (same_place (place e 0) d) h (λ k. among_put c e es ins k i)
  where
    by : (b : Bool) → (b || among (place e 0) ins) ≡ true
        → (among (place e 0) ins ≡ true → among c (spliced e es ins) ≡ true)
        → among c (cond b es (d ∷ []) ++ spliced e es ins) ≡ true
    by true k f = among-append c es (spliced e es ins)
        ∙ or_left (among c es) (among c (spliced e es ins)) i
    by false k f = or_right (same_place c d) (among c (spliced e es ins)) (f k)

-- The inputs that stay.
among_stays : (c : Place) (e : ℕ) (es ins : List Place) → same_place c (place e 0) ≡ false
    → among c ins ≡ true → among c (spliced e es ins) ≡ true
among_stays c e es [] h i = absurd (false≢true i)
among_stays c e es (d ∷ ins) h i =
    by (same_place (place e 0) d) refl i (λ k. among_stays c e es ins h k)
  where
    piece : (b : Bool) → (b || among c ins) ≡ true
        → (among c ins ≡ true → among c (spliced e es ins) ≡ true)
        → (b || among c (spliced e es ins)) ≡ true
    piece true k f = refl
    piece false k f = f k

    by : (b : Bool) → same_place (place e 0) d ≡ b → (same_place c d || among c ins) ≡ true
        → (among c ins ≡ true → among c (spliced e es ins) ≡ true)
        → among c (cond b es (d ∷ []) ++ spliced e es ins) ≡ true
    by true s k f =
        let z : same_place c d ≡ false =
        ap (same_place c) (sym (same_true (place e 0) d s)) ∙ h in
        let l : among c ins ≡ true = rw z at k in
        among-append c es (spliced e es ins)
        ∙ or_right (among c es) (among c (spliced e es ins)) (f l)
    by false s k f = piece (same_place c d) k f

-- Nothing else is put in place.
among_none : (c : Place) (e : ℕ) (es ins : List Place) → among c es ≡ false
    → among c ins ≡ false → among c (spliced e es ins) ≡ false
among_none c e es [] h i = refl
among_none c e es (d ∷ ins) h i =
    let p = or_false (same_place c d) (among c ins) i in
    by (same_place (place e 0) d) p.0 (among_none c e es ins h p.1)
  where
    by : (b : Bool) → same_place c d ≡ false → among c (spliced e es ins) ≡ false
        → among c (cond b es (d ∷ []) ++ spliced e es ins) ≡ false
    by true s k = among-append c es (spliced e es ins)
        ∙ no_or (among c es) (among c (spliced e es ins)) h k
    by false s k = no_or (same_place c d) (among c (spliced e es ins)) s k

spliced_long : (e : ℕ) (es ins : List Place) → 0 < length es → 0 < length ins
    → 0 < length (spliced e es ins)
spliced_long e es [] h i = i
spliced_long e es (c ∷ ins) h i = by (same_place (place e 0) c)
  where
    by : (b : Bool) → 0 < length (cond b es (c ∷ []) ++ spliced e es ins)
    by true = omega (arith, length-append es (spliced e es ins))
    by false = omega arith

-- ---- the nodes

read_merged : (g : Graph) (f : ℕ) (ins : List Place) (e : ℕ) (es : List Place) (c : Place)
    → CanMerge g f ins e es → (c.node ≡ e → ⊥) → is_read g c ≡ true
    → is_read (merged_flattens g f ins e es) c ≡ true
read_merged g f ins e es c can apart h =
    by (any_node (uses c) g.nodes) refl h
  where
    by : (a : Bool) → any_node (uses c) g.nodes ≡ a → (a || among c g.outputs) ≡ true
        → (any_node (uses c) (set_node g.nodes f (Flatten (spliced e es ins)))
        || among c g.outputs) ≡ true
    by true i k = or_left (any_node (uses c) (set_node g.nodes f (Flatten (spliced e es ins))))
        (among c g.outputs)
        (any_set_up (uses c) g.nodes f (Flatten (spliced e es ins)) (Flatten ins) can.outer
        (λ j. among_stays c e es ins (apart_input c e apart) j) i)
    by false i k = or_right
        (any_node (uses c) (set_node g.nodes f (Flatten (spliced e es ins)))) (among c g.outputs) k

lifted_merged : (g : Graph) (f : ℕ) (ins : List Place) (e : ℕ) (es : List Place) (q : ℕ)
    (k : Comb) → CanMerge g f ins e es → IsLiftedOk g q k
    → IsLiftedOk (merged_flattens g f ins e es) q k
lifted_merged g f ins e es q k can a =
    let d : Place = place q 0 in
    let x : Node = Flatten (spliced e es ins) in
    let none : AllByRecursion (λ e. collects d e.node ≡ false) g.nodes =
    none_passes (λ (e : Entry). collects d e.node) g.nodes a.uncollected in
    let not_ins : among d ins ≡ false = all_found (λ e. collects d e.node ≡ false) g.nodes f
    (Flatten ins) can.outer none in
    let not_es : among d es ≡ false = all_found (λ e. collects d e.node ≡ false) g.nodes e
    (Flatten es) can.inner none in
    record {
      untold = a.untold;
      uncollected = any_set (collects d) g.nodes f x (Flatten ins) can.outer
          (among_none d e es ins not_es not_ins ∙ sym not_ins) ∙ a.uncollected;
      reader = a.reader;
      alone = those_set (calls_on d) g.nodes f x (Flatten ins) can.outer refl ∙ a.alone;
      root = comb_set g.nodes f a.reader ins x k (node_at g.nodes a.reader) refl can.outer a.root;
    }
  where
    comb_set : (all : List Entry) (n q : ℕ) (ins : List Place) (x : Node) (k : Comb)
        (o : Option Node) → node_at all q ≡ o → node_at all n ≡ Some (Flatten ins)
        → comb_at (node_at all q) ≡ Some k → comb_at (node_at (set_node all n x) q) ≡ Some k
    comb_set all n q ins x k None i at h =
        let z : comb_at None ≡ Some k = ap comb_at (sym i) ∙ h in let bad : ⊥ = cc in absurd bad
    comb_set all n q ins x k (Some y) i at h =
        ap comb_at (node_at-set_other all n q x y
        (λ j. let s : node_at all q ≡ node_at all n = ap (node_at all) j in
        let z : comb_at (Some (Flatten ins)) ≡ Some k = ap comb_at (sym at ∙ sym s) ∙ h in
        let bad : ⊥ = cc in bad) i) ∙ ap comb_at (sym i) ∙ h

node_merged : (g : Graph) (f : ℕ) (ins : List Place) (e : ℕ) (es : List Place) (q : ℕ) (x : Node)
    → CanMerge g f ins e es → node_at g.nodes q ≡ Some x → IsNodeOk g q x
    → IsNodeOk (merged_flattens g f ins e es) q x
node_merged g f ins e es q (Flatten cs) can at a = a
node_merged g f ins e es q (Pdo c h) can at a = record {
  order = a.order;
  read = λ j i. read_merged g f ins e es (place q j) can
      (two_kinds g q e (Pdo c h) (Flatten es) at can.inner (λ e. let bad : ⊥ = cc in bad))
      (a.read j i);
}
node_merged g f ins e es q (Gbk c o l (Some k)) can at a = lifted_merged g f ins e es q k can a
node_merged g f ins e es q _ can at a = tt

pub NodesOk-merged : (g : Graph) (f : ℕ) (ins : List Place) (e : ℕ) (es : List Place)
    → Ascends g.nodes → CanMerge g f ins e es → NodesOk g → NodesOk (merged_flattens g f ins e es)
NodesOk-merged g f ins e es ascends can a =
    let at_f : (0 < length ins) × (length ins ≤ most_nodes) =
    all_found (λ e. IsNodeOk g e.number e.node) g.nodes f (Flatten ins) can.outer a in
    let at_e : (0 < length es) × (length es ≤ most_nodes) =
    all_found (λ e. IsNodeOk g e.number e.node) g.nodes e (Flatten es) can.inner a in
    let differ = differ_ascends g.nodes ascends in
    all_set_others (λ d. IsNodeOk (merged_flattens g f ins e es) d.number d.node) g.nodes f
    (Flatten (spliced e es ins)) differ
    (others g f ins e es g.nodes can (each_found g.nodes differ) a)
    (spliced_long e es ins at_e.0 at_f.0, can.room)
  where
    others : (g : Graph) (f : ℕ) (ins : List Place) (e : ℕ) (es : List Place) (ds : List Entry)
        → CanMerge g f ins e es
        → AllByRecursion (λ e. node_at g.nodes e.number ≡ Some e.node) ds
        → AllByRecursion (λ e. IsNodeOk g e.number e.node) ds
        → AllByRecursion (λ d. (d.number ≡ f → ⊥)
        → IsNodeOk (merged_flattens g f ins e es) d.number d.node) ds
    others g f ins e es [] can a b = tt
    others g f ins e es (d ∷ ds) can a b = (
      λ _. node_merged g f ins e es d.number d.node can a.0 b.0,
      others g f ins e es ds can a.1 b.1,
    )

pub size-set : (es : List Entry) (n : ℕ) (x y : Node) → node_at es n ≡ Some y → size x ≡ size y
    → total_size (set_node es n x) ≡ total_size es
size-set [] n x y h i = refl
size-set (e ∷ es) n x y h i = by (eqb e.number n) h (λ k. size-set es n x y k i)
  where
    by : (b : Bool) → cond b (Some e.node) (node_at es n) ≡ Some y
        → (node_at es n ≡ Some y → total_size (set_node es n x) ≡ total_size es)
        → total_size (cond b (entry n x ∷ es) (e ∷ set_node es n x)) ≡ total_size (e ∷ es)
    by true k f = let s : e.node ≡ y = cc in
        ap (λ m. m + total_size es) (i ∙ sym (ap size s))
    by false k f = ap (λ m. size e.node + m) (f k)
