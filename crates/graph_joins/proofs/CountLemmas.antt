-- How often is read what is read still.
use Rattle.std.proofs.Common.{◌≡◌, ℕ, ◌+◌, zero, suc, Bool, true, false, cond, eqb, ltb, ◌||◌, List, [], ◌∷◌, Some, refl, sym, ap, ap₂, ◌∙◌, arith}
use Rattle.std.proofs.lemmas.Bool.{lt-ltb}
use Rattle.exec_graph.specs.Forests.{Forest}
use Rattle.exec_graph.specs.Meaning.{node_at, reads}
use Rattle.exec_graph.specs.Readers.{among, any_node, is_read, same_place, uses}
use Rattle.exec_graph.specs.declared.graph.Entry.{Entry}
use Rattle.exec_graph.specs.declared.graph.Graph.{Graph}
use Rattle.exec_graph.specs.declared.graph.Node.{Node}
use Rattle.exec_graph.specs.declared.graph.Node.TheVariants.{Source, Flatten, Pdo, Gbk, Barrier}
use Rattle.exec_graph.specs.declared.graph.Place.{Place}
use Rattle.graph_laws.specs.Joining.{set_node, without}
use Rattle.graph_states.specs.States.{taken_in}
use Rattle.graph_joins.specs.Counts.{one_if, readings, times_read, times_in}

-- ---- it is read where it is read once or more

or_sum : (m n : ℕ) → (ltb 0 m || ltb 0 n) ≡ ltb 0 (m + n)
or_sum zero n = let e : n ≡ 0 + n = omega arith in ap (ltb 0) e
or_sum (suc m) n =
    ap (λ (b : Bool). b || ltb 0 n) (lt-ltb 0 (suc m) (omega arith))
    ∙ sym (lt-ltb 0 (suc m + n) (omega arith))

one_positive : (b : Bool) → b ≡ ltb 0 (one_if b)
one_positive true = refl
one_positive false = refl

among_times : (c : Place) (ds : List Place) → among c ds ≡ ltb 0 (times_read c ds)
among_times c [] = refl
among_times c (d ∷ ds) =
    ap₂ (λ (a b : Bool). a || b) (one_positive (same_place c d)) (among_times c ds)
    ∙ or_sum (one_if (same_place c d)) (times_read c ds)

or_right_false : (b : Bool) → b ≡ (b || false)
or_right_false true = refl
or_right_false false = refl

uses_reads : (c : Place) (x : Node) → uses c x ≡ among c (reads x)
uses_reads c (Source r) = refl
uses_reads c (Flatten ins) = refl
uses_reads c (Pdo d f) = refl
uses_reads c (Gbk d o l k) = or_right_false (same_place c d)
uses_reads c (Barrier ins o l a) = refl

any_times : (c : Place) (es : List Entry) → any_node (uses c) es ≡ ltb 0 (times_in c es)
any_times c [] = refl
any_times c (e ∷ es) =
    ap₂ (λ (a b : Bool). a || b) (uses_reads c e.node ∙ among_times c (reads e.node))
    (any_times c es)
    ∙ or_sum (times_read c (reads e.node)) (times_in c es)

pub read_times : (g : Graph) (c : Place) → is_read g c ≡ ltb 0 (readings g c)
read_times g c =
    ap₂ (λ (a b : Bool). a || b) (any_times c g.nodes) (among_times c g.outputs)
    ∙ or_sum (times_in c g.nodes) (times_read c g.outputs)

-- ---- a node that is gone, and one that is changed

times_without : (c : Place) (es : List Entry) (q : ℕ) (x : Node) → node_at es q ≡ Some x
    → times_in c es ≡ times_read c (reads x) + times_in c (without es q)
times_without c [] q x h = let bad : ⊥ = cc in absurd bad
times_without c (e ∷ es) q x h = by (eqb e.number q) h (times_without c es q x)
  where
    by : (b : Bool) → cond b (Some e.node) (node_at es q) ≡ Some x
        → (node_at es q ≡ Some x
        → times_in c es ≡ times_read c (reads x) + times_in c (without es q))
        → times_read c (reads e.node) + times_in c es
        ≡ times_read c (reads x) + times_in c (cond b es (e ∷ without es q))
    by true i f =
        let same : e.node ≡ x = cc in
        ap (λ (y : Node). times_read c (reads y) + times_in c es) same
    by false i f = let r = f i in omega arith

times_set : (c : Place) (es : List Entry) (p : ℕ) (x y : Node) → node_at es p ≡ Some x
    → reads x ≡ reads y → times_in c (set_node es p y) ≡ times_in c es
times_set c [] p x y h e = refl
times_set c (d ∷ es) p x y h e = by (eqb d.number p) h (times_set c es p x y)
  where
    by : (b : Bool) → cond b (Some d.node) (node_at es p) ≡ Some x
        → (node_at es p ≡ Some x → reads x ≡ reads y
        → times_in c (set_node es p y) ≡ times_in c es)
        → times_in c (cond b (record { number = p; node = y } ∷ es) (d ∷ set_node es p y))
        ≡ times_read c (reads d.node) + times_in c es
    by true i f =
        let same : d.node ≡ x = cc in
        ap (λ (l : List Place). times_read c l + times_in c es) (sym e)
        ∙ ap (λ (z : Node). times_read c (reads z) + times_in c es) (sym same)
    by false i f = ap (λ (n : ℕ). times_read c (reads d.node) + n) (f i e)

-- a Pdo that is taken in reads no more what it read
pub readings_taken : (h : Graph) (p q : ℕ) (c d : Place) (f i new : Forest) (v : Place)
    → node_at (without h.nodes q) p ≡ Some (Pdo c f) → node_at h.nodes q ≡ Some (Pdo d i)
    → readings h v ≡ one_if (same_place v d) + readings (taken_in h p q c new) v
readings_taken h p q c d f i new v at bt =
    let a : times_in v h.nodes ≡ one_if (same_place v d) + 0 + times_in v (without h.nodes q) =
    times_without v h.nodes q (Pdo d i) bt in
    let b : times_in v (set_node (without h.nodes q) p (Pdo c new))
    ≡ times_in v (without h.nodes q) =
    times_set v (without h.nodes q) p (Pdo c f) (Pdo c new) at refl in
    omega arith
