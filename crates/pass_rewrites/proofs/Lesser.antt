-- Where nodes have other numbers, two Pdos that exchange theirs leave them under other numbers
-- again, and so does a kid under the lesser number.
use Rattle.std.proofs.Common.{◌≡◌, ℕ, ◌<◌, Bool, true, false, cond, eqb, ltb, List, [], ◌∷◌, map, Option, Some, None, refl, sym, ap, ap₂, ◌∙◌, subst, arith}
use Rattle.std.specs.List.{AllByRecursion as Each}
use Rattle.std.proofs.lemmas.Bool.{eqb-true, eq-eqb, false≢true}
use Rattle.flume_value.proofs.EachLemmas.{Each-weaker}
use Rattle.exec_graph.specs.Forests.{Forest}
use Rattle.exec_graph.specs.Meaning.{AllDiffer, IsSound, IsThere, node_at, place, reads}
use Rattle.exec_graph.specs.declared.graph.Place.{Place}
use Rattle.exec_graph.specs.declared.graph.Node.{Node}
use Rattle.exec_graph.specs.declared.graph.Node.TheVariants.{Source, Flatten, Pdo, Gbk, Barrier}
use Rattle.exec_graph.specs.declared.graph.Entry.{Entry}
use Rattle.exec_graph.specs.declared.graph.Graph.{Graph}
use Rattle.exec_graph.proofs.Bools.{not_true}
use Rattle.exec_graph.proofs.Entries.{entry}
use Rattle.exec_graph.proofs.Solving.{each_found}
use Rattle.graph_laws.specs.Joining.{reread, reread_entry, set_node}
use Rattle.graph_laws.specs.Kids.{with_kid}
use Rattle.graph_laws.proofs.Wellness.{differ_map, mapped, node_at-map, node_at-set_other, node_at-set_same, reads_lower}
use Rattle.graph_rewrites.specs.Exchange.{exchanged, other_number, swapped}
use Rattle.graph_rewrites.proofs.Numbers.{other_far, other_left, other_right, other_twice}
use Rattle.fuse_chain.specs.of_pardo_fuse.Renumbering.{at_number, entries_in_order, renumbered_entry, renumbered_graph}
use Rattle.fuse_chain.proofs.of_pardo_fuse.Sorting.{order_ascends, order_at, order_differ}
use Rattle.fuse_chain.proofs.KidNumbers.{Holds, differ_numbered, kid_numbered}
use Rattle.fuse_chain.proofs.Renumbers.{IsWithin, order_reread, order_set, same_eqb, set_differ}
use Rattle.pass_rewrites.proofs.Ascending.{StandIn, one_list}

-- ---- numbers that keep all apart
abbrev pub KeepsAll : (ℕ → ℕ) → Type 0
KeepsAll l = (m i : ℕ) → l m ≡ l i → m ≡ i

abbrev Any : ℕ → Type 0
Any n = Unit {0}

far_of : (l : ℕ → ℕ) → KeepsAll l → (n m : ℕ) → Any n → Any m → l n ≡ l m → n ≡ m
far_of l inj n m a b e = inj n m e

any_places : (cs : List Place) → Each (λ (c : Place). Any c.node) cs
any_places [] = tt
any_places (c ∷ cs) = (tt, any_places cs)

any_entries : (l : ℕ → ℕ) (inj : KeepsAll l) (es : List Entry)
    → Each (IsWithin Any l (far_of l inj)) es
any_entries l inj [] = tt
any_entries l inj (e ∷ es) = ((tt, any_places (reads e.node)), any_entries l inj es)

holds_any : (l : ℕ → ℕ) (inj : KeepsAll l) (g : Graph) → AllDiffer g.nodes
    → Holds Any l (far_of l inj) g
holds_any l inj g d = record {
  nodes = any_entries l inj g.nodes;
  told = any_places g.outputs;
  differ = d;
}

moved_differ : (l : ℕ → ℕ) → KeepsAll l → (es : List Entry) → AllDiffer es
    → AllDiffer (map (renumbered_entry l) es)
moved_differ l inj es d = differ_numbered Any l (far_of l inj) es (any_entries l inj es) d

node_moved : (l : ℕ → ℕ) → KeepsAll l → (es : List Entry) (k : ℕ)
    → node_at (map (renumbered_entry l) es) (l k) ≡ mapped (at_number l) (node_at es k)
node_moved l inj [] k = refl
node_moved l inj (e ∷ es) k =
    ap (λ (t : Bool). cond t (Some (reread (at_number l) e.node))
    (node_at (map (renumbered_entry l) es) (l k)))
    (same_eqb Any l (far_of l inj) e.number k tt tt)
    ∙ by (eqb e.number k) (node_moved l inj es k)
  where
    by : (t : Bool)
        → node_at (map (renumbered_entry l) es) (l k) ≡ mapped (at_number l) (node_at es k)
        → cond t (Some (reread (at_number l) e.node)) (node_at (map (renumbered_entry l) es) (l k))
        ≡ mapped (at_number l) (cond t (Some e.node) (node_at es k))
    by true h = refl
    by false h = h

pub node_under : (l : ℕ → ℕ) → KeepsAll l → (g : Graph) → AllDiffer g.nodes → (k : ℕ)
    → node_at (renumbered_graph l g).nodes (l k) ≡ mapped (at_number l) (node_at g.nodes k)
node_under l inj g d k =
    order_at (map (renumbered_entry l) g.nodes) (l k) (moved_differ l inj g.nodes d)
    ∙ node_moved l inj g.nodes k

-- ---- nodes that are the same under each number stand in one order
same_order : (xs ys : List Entry) → AllDiffer xs → AllDiffer ys
    → ((n : ℕ) → node_at xs n ≡ node_at ys n) → entries_in_order xs ≡ entries_in_order ys
same_order xs ys u v same =
    one_list (entries_in_order xs) (entries_in_order ys) (order_ascends xs u) (order_ascends ys v)
    (stand xs ys u v same) (stand ys xs v u (λ n. sym (same n)))
  where
    stand : (xs ys : List Entry) → AllDiffer xs → AllDiffer ys
        → ((n : ℕ) → node_at xs n ≡ node_at ys n)
        → StandIn (entries_in_order xs) (entries_in_order ys)
    stand xs ys u v same =
        Each-weaker (λ (e : Entry). node_at (entries_in_order xs) e.number ≡ Some e.node)
        (λ (e : Entry). node_at (entries_in_order ys) e.number ≡ Some e.node)
        (λ e at. order_at ys e.number v ∙ sym (same e.number) ∙ sym (order_at xs e.number u) ∙ at)
        (entries_in_order xs) (each_found (entries_in_order xs) (order_differ xs u))

none_set : (es : List Entry) (n k : ℕ) (z : Node) → (k ≡ n → ⊥) → node_at es k ≡ None
    → node_at (set_node es n z) k ≡ None
none_set [] n k z far at = refl
none_set (e ∷ es) n k z far at =
    by (eqb e.number n) (eqb e.number k) refl refl at (λ h. none_set es n k z far h)
  where
    by : (r s : Bool) → eqb e.number n ≡ r → eqb e.number k ≡ s
        → cond s (Some e.node) (node_at es k) ≡ None
        → (node_at es k ≡ None → node_at (set_node es n z) k ≡ None)
        → node_at (cond r (entry n z ∷ es) (e ∷ set_node es n z)) k ≡ None
    by r true i j h rest = let no : ⊥ = cc in absurd no
    by true false i j h rest =
        ap (λ (b : Bool). cond b (Some z) (node_at es k))
        (not_true (eqb n k) (λ x. far (sym (eqb-true n k x)))) ∙ h
    by false false i j h rest =
        ap (λ (b : Bool). cond b (Some e.node) (node_at (set_node es n z) k)) j ∙ rest h

-- ---- two that exchange their numbers
module _ (a b : ℕ) (apart : a ≡ b → ⊥) where
  abbrev o : ℕ → ℕ
  o = other_number a b

  abbrev E : Place → Place
  E = exchanged a b

  other_keeps : KeepsAll o
  other_keeps m i e =
      sym (other_twice a b m apart) ∙ ap o e ∙ other_twice a b i apart

  other_eqb : (m i : ℕ) → eqb (o m) (o i) ≡ eqb m i
  other_eqb m i = same_eqb Any o (far_of o other_keeps) m i tt tt

  places_twice : (l : ℕ → ℕ) (cs : List Place)
      → map E (map (at_number l) cs) ≡ map (at_number (λ n. o (l n))) cs
  places_twice l [] = refl
  places_twice l (c ∷ cs) =
      ap (λ (ds : List Place). E (at_number l c) ∷ ds) (places_twice l cs)

  reread_twice : (l : ℕ → ℕ) (z : Node)
      → reread E (reread (at_number l) z) ≡ reread (at_number (λ n. o (l n))) z
  reread_twice l (Source s) = refl
  reread_twice l (Flatten ins) = ap Flatten (places_twice l ins)
  reread_twice l (Pdo c f) = refl
  reread_twice l (Gbk c s k h) = refl
  reread_twice l (Barrier ins s k h) =
      ap (λ (cs : List Place). Barrier cs s k h) (places_twice l ins)

  node_twice : (l : ℕ → ℕ) (es : List Entry) (k : ℕ)
      → node_at (map (renumbered_entry (λ n. o (l n))) es) (o k)
      ≡ mapped E (node_at (map (renumbered_entry l) es) k)
  node_twice l [] k = refl
  node_twice l (e ∷ es) k =
      ap (λ (t : Bool). cond t (Some (reread (at_number (λ n. o (l n))) e.node))
      (node_at (map (renumbered_entry (λ n. o (l n))) es) (o k)))
      (other_eqb (l e.number) k)
      ∙ by (eqb (l e.number) k) (node_twice l es k)
    where
      by : (t : Bool)
          → node_at (map (renumbered_entry (λ n. o (l n))) es) (o k)
          ≡ mapped E (node_at (map (renumbered_entry l) es) k)
          → cond t (Some (reread (at_number (λ n. o (l n))) e.node))
          (node_at (map (renumbered_entry (λ n. o (l n))) es) (o k))
          ≡ mapped E (cond t (Some (reread (at_number l) e.node))
          (node_at (map (renumbered_entry l) es) k))
      by true h = sym (ap (λ (z : Node). Some z) (reread_twice l e.node))
      by false h = h

  -- each node stands under the other number
  both_set : (X : List Entry) (y z : Node) → node_at X a ≡ Some z → node_at X b ≡ Some y
      → (k : ℕ) → node_at (set_node (set_node X a y) b z) (o k) ≡ node_at X k
  both_set X y z at_a at_b k = by (eqb k a) (eqb k b) refl refl
    where
      once : List Entry
      once = set_node X a y

      at_once : node_at once b ≡ Some y
      at_once = node_at-set_other X a b y y (λ e. apart (sym e)) at_b

      others : (q : Option Node) → node_at X k ≡ q → (k ≡ a → ⊥) → (k ≡ b → ⊥)
          → node_at (set_node once b z) k ≡ q
      others (Some w) at x1 x2 =
          node_at-set_other once b k z w x2 (node_at-set_other X a k y w x1 at)
      others None at x1 x2 =
          none_set once b k z x2 (none_set X a k y x1 at)

      by : (r s : Bool) → eqb k a ≡ r → eqb k b ≡ s
          → node_at (set_node once b z) (cond r b (cond s a k)) ≡ node_at X k
      by true s i j =
          node_at-set_same once b z y at_once
          ∙ sym at_a ∙ ap (node_at X) (sym (eqb-true k a i))
      by false true i j =
          node_at-set_other once b a z y apart (node_at-set_same X a y z at_a)
          ∙ sym at_b ∙ ap (node_at X) (sym (eqb-true k b j))
      by false false i j =
          others (node_at X k) refl (λ e. false≢true (sym i ∙ eq-eqb k a e))
          (λ e. false≢true (sym j ∙ eq-eqb k b e))

swap_numbered : (g : Graph) (l : ℕ → ℕ) → KeepsAll l → AllDiffer g.nodes → (p q : ℕ)
    (c d : Place) (f h : Forest) → node_at g.nodes p ≡ Some (Pdo c f)
    → node_at g.nodes q ≡ Some (Pdo d h) → (p ≡ q → ⊥)
    → swapped (renumbered_graph l g) (l p) (l q) (at_number l c) (at_number l d) f h
    ≡ renumbered_graph (λ n. other_number (l p) (l q) (l n)) g
swap_numbered g l inj u p q c d f h at_p at_q differ =
    let a : ℕ = l p in
    let b : ℕ = l q in
    let apart : a ≡ b → ⊥ = λ e. differ (inj p q e) in
    let x : Place → Place = at_number l in
    let m : ℕ → ℕ = λ n. other_number a b (l n) in
    let E : Place → Place = exchanged a b in
    let y : Node = Pdo (x d) h in
    let z : Node = Pdo (x c) f in
    let X : List Entry = map (renumbered_entry l) g.nodes in
    let dX : AllDiffer X = moved_differ l inj g.nodes u in
    let one : List Entry = set_node X a y in
    let two : List Entry = set_node one b z in
    let d_one : AllDiffer one = set_differ X a y dX in
    let d_two : AllDiffer two = set_differ one b z d_one in
    let inj_m : KeepsAll m = λ i k e. inj i k (other_keeps a b apart (l i) (l k) e) in
    let at_a : node_at X a ≡ Some z = node_moved l inj g.nodes p ∙ ap (mapped x) at_p in
    let at_b : node_at X b ≡ Some y = node_moved l inj g.nodes q ∙ ap (mapped x) at_q in
    let last : List Entry = map (reread_entry E) two in
    let nodes : map (reread_entry E) (set_node (set_node (entries_in_order X) a y) b z)
    ≡ entries_in_order (map (renumbered_entry m) g.nodes) =
    ap (map (reread_entry E)) (ap (λ (k : List Entry). set_node k b z) (sym (order_set X a y dX))
    ∙ sym (order_set one b z d_one))
    ∙ sym (order_reread E two)
    ∙ same_order last (map (renumbered_entry m) g.nodes) (differ_map E two d_two)
    (moved_differ m inj_m g.nodes u)
    (λ n. subst (λ (k : ℕ). node_at last k ≡ node_at (map (renumbered_entry m) g.nodes) k)
    (other_twice a b n apart)
    (node_at-map E two (other_number a b (other_number a b n))
    ∙ ap (mapped E) (both_set a b apart X y z at_a at_b (other_number a b n))
    ∙ sym (node_twice a b apart l g.nodes (other_number a b n)))) in
    ap₂ (λ (k : List Entry) (cs : List Place). let r : Graph = record {
      nodes = k;
      outputs = cs;
      next = g.next;
    } in r) nodes (places_twice a b apart l g.outputs)

-- ---- a kid, under the number of either
pub kid_kept : (g : Graph) (l : ℕ → ℕ) → KeepsAll l → AllDiffer g.nodes → (p k q : ℕ) (c : Place)
    (f h : Forest)
    → with_kid (renumbered_graph l g) (l p) k (l q) (at_number l c) f h
    ≡ renumbered_graph l (with_kid g p k q c f h)
kid_kept g l inj u p k q c f h =
    sym (kid_numbered Any l (far_of l inj) g p k q c f h (holds_any l inj g u) tt tt tt)

pub kid_other : (g : Graph) (l : ℕ → ℕ) → KeepsAll l → IsSound g → (p k q : ℕ) (c : Place)
    (f h : Forest) → node_at g.nodes p ≡ Some (Pdo c f)
    → node_at g.nodes q ≡ Some (Pdo (place p k) h)
    → with_kid (swapped (renumbered_graph l g) (l p) (l q) (at_number l c) (place (l p) k) f h)
    (l q) k (l p) (at_number l c) f h
    ≡ renumbered_graph (λ n. other_number (l p) (l q) (l n)) (with_kid g p k q c f h)
kid_other g l inj ok p k q c f h at_p at_q =
    let r : ℕ → ℕ = ok.ranked.0 in
    let c_p : r c.node < r p = reads_lower g p c f r at_p ok.ranked.1 in
    let p_q : r p < r q = reads_lower g q (place p k) h r at_q ok.ranked.1 in
    let differ : p ≡ q → ⊥ = λ e. let s : r p ≡ r q = ap r e in omega arith in
    let not_p : c.node ≡ p → ⊥ = λ e. let s : r c.node ≡ r p = ap r e in omega arith in
    let not_q : c.node ≡ q → ⊥ = λ e. let s : r c.node ≡ r q = ap r e in omega arith in
    let a : ℕ = l p in
    let b : ℕ = l q in
    let apart : a ≡ b → ⊥ = λ e. differ (inj p q e) in
    let m : ℕ → ℕ = λ n. other_number a b (l n) in
    let inj_m : KeepsAll m = λ i j e. inj i j (other_keeps a b apart (l i) (l j) e) in
    let new : Graph = renumbered_graph m g in
    let keeper : m p ≡ b = other_left a b in
    let other : m q ≡ a = other_right a b apart in
    let source : at_number m c ≡ at_number l c =
    ap (λ (n : ℕ). place n c.out)
    (other_far a b (l c.node) (λ e. not_p (inj c.node p e)) (λ e. not_q (inj c.node q e))) in
    ap (λ (x : Graph). with_kid x b k a (at_number l c) f h)
    (swap_numbered g l inj ok.differ p q c (place p k) f h at_p at_q differ)
    ∙ sym (ap₂ (λ (i j : ℕ). with_kid new i k j (at_number m c) f h) keeper other
    ∙ ap (λ (y : Place). with_kid new b k a y f h) source)
    ∙ kid_kept g m inj_m ok.differ p k q c f h
