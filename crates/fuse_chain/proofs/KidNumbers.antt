-- A kid under other numbers: to renumber and then make the kid is to make it and then renumber.
use Rattle.std.proofs.Common.{◌≡◌, ℕ, Bool, true, false, cond, eqb, ◌||◌, List, [], ◌∷◌, map, Option, Some, None, refl, sym, ap, ap₂, ◌∙◌}
use Rattle.std.specs.List.{AllByRecursion as Each}
use Rattle.flume_value.proofs.EachLemmas.{Each-both, Each-weaker}
use Rattle.exec_graph.specs.Forests.{Forest, Bare, Grow, numbered, with_out}
use Rattle.exec_graph.specs.Meaning.{AllDiffer, node_at, place, reads}
use Rattle.exec_graph.specs.Readers.{among, any_node, is_read, uses}
use Rattle.exec_graph.specs.declared.graph.Place.{Place}
use Rattle.exec_graph.specs.declared.graph.Node.{Node}
use Rattle.exec_graph.specs.declared.graph.Node.TheVariants.{Source, Flatten, Pdo, Gbk, Barrier}
use Rattle.exec_graph.specs.declared.graph.Entry.{Entry}
use Rattle.exec_graph.specs.declared.graph.Graph.{Graph}
use Rattle.exec_graph.proofs.Entries.{all_map}
use Rattle.graph_laws.specs.Joining.{as_kid, grafted, joined_into, moved, reread_entry, set_node, without}
use Rattle.graph_laws.specs.Kids.{apart, even, kept_by, moved_out, named_by, number_after, odd, out_kept, refitted, renewed, same_number, with_kid}
use Rattle.graph_laws.proofs.Changes.{all_set, all_without, differ_without}
use Rattle.graph_laws.proofs.Wellness.{differ_map, reads_reread}
use Rattle.pardo_fuse.specs.Renumbering.{at_number, entries_in_order, renumbered_entry, renumbered_graph}
use Rattle.fuse_chain.proofs.Renumbers.{IsWithin, among_numbered, any_numbered, nodes_numbered, order_any, order_reread, order_set, order_without, places_numbered, same_eqb, set_differ, set_numbered, without_numbered}

module _ (N : ℕ → Type 0) (l : ℕ → ℕ)
    (far : (n m : ℕ) → N n → N m → l n ≡ l m → n ≡ m) where
  abbrev x : Place → Place
  x = at_number l

  abbrev R : Graph → Graph
  R = renumbered_graph l

  -- all that stands in a graph and all that is read there is such, and numbers differ
  pub record Holds (g : Graph) : Type 0 where
    pub nodes : Each (IsWithin N l far) g.nodes
    pub told : Each (λ c. N c.node) g.outputs
    pub differ : AllDiffer g.nodes

  abbrev graph_of : List Entry → List Place → ℕ → Graph
  graph_of es cs n = record { nodes = es; outputs = cs; next = n }

  -- ---- what moves
  out_moved : (n : ℕ) (r : ℕ → ℕ) (c : Place) → N n → N c.node
      → x (moved_out n r c) ≡ moved_out (l n) r (x c)
  out_moved n r c a b =
      by (eqb c.node n)
      ∙ sym (ap (λ (t : Bool). cond t (place (l n) (r c.out)) (x c))
      (same_eqb N l far c.node n b a))
    where
      by : (t : Bool)
          → x (cond t (place n (r c.out)) c) ≡ cond t (place (l n) (r c.out)) (x c)
      by true = refl
      by false = refl

  both_moved : (p q : ℕ) (c : Place) → N q → N c.node
      → x (moved p q c) ≡ moved (l p) (l q) (x c)
  both_moved p q c a b =
      by (eqb c.node q)
      ∙ sym (ap (λ (t : Bool). cond t (place (l p) c.out) (x c)) (same_eqb N l far c.node q b a))
    where
      by : (t : Bool) → x (cond t (place p c.out) c) ≡ cond t (place (l p) c.out) (x c)
      by true = refl
      by false = refl

  out_within : (n : ℕ) (r : ℕ → ℕ) (c : Place) → N n → N c.node → N (moved_out n r c).node
  out_within n r c a b = by (eqb c.node n)
    where
      by : (t : Bool) → N (cond t (place n (r c.out)) c).node
      by true = a
      by false = b

  both_within : (p q : ℕ) (c : Place) → N p → N c.node → N (moved p q c).node
  both_within p q c a b = by (eqb c.node q)
    where
      by : (t : Bool) → N (cond t (place p c.out) c).node
      by true = a
      by false = b

  all_within : (r : Place → Place) → ((c : Place) → N c.node → N (r c).node) → (es : List Entry)
      → Each (IsWithin N l far) es → Each (IsWithin N l far) (map (reread_entry r) es)
  all_within r h es w =
      all_map (reread_entry r) (IsWithin N l far) (IsWithin N l far)
      (λ e a. (
        a.0,
        reads_reread (λ (c : Place). N c.node) (λ (c : Place). N c.node) r h e.node a.1,
      ))
      es w

  pub differ_numbered : (es : List Entry) → Each (IsWithin N l far) es → AllDiffer es
      → AllDiffer (map (renumbered_entry l) es)
  differ_numbered [] w u = tt
  differ_numbered (e ∷ es) w u = (
    all_map (renumbered_entry l) (λ d. l d.number ≡ l e.number → ⊥)
        (λ d. d.number ≡ l e.number → ⊥) (λ d h. h) es
        (Each-both (IsWithin N l far) (λ (d : Entry). d.number ≡ e.number → ⊥)
        (λ (d : Entry). l d.number ≡ l e.number → ⊥)
        (λ d a h i. h (far d.number e.number a.0 w.0.0 i)) es w.1 u.0),
    differ_numbered es w.1 u.1,
  )

  -- ---- a Pdo with another forest
  refit_holds : (g : Graph) (n : ℕ) (c : Place) (f : Forest) (r : ℕ → ℕ) → Holds g → N n
      → N c.node → Holds (refitted g n c f r)
  refit_holds g n c f r w a b = record {
    nodes = all_within (moved_out n r) (λ d i. out_within n r d a i) (set_node g.nodes n (Pdo c f))
        (all_set (IsWithin N l far) g.nodes n (Pdo c f) w.nodes (a, (b, tt)));
    told = all_map (moved_out n r) (λ d. N d.node) (λ d. N d.node) (λ d i. out_within n r d a i)
        g.outputs w.told;
    differ = differ_map (moved_out n r) (set_node g.nodes n (Pdo c f))
        (set_differ g.nodes n (Pdo c f) w.differ);
  }

  refit_numbered : (g : Graph) (n : ℕ) (c : Place) (f : Forest) (r : ℕ → ℕ) → Holds g → N n
      → N c.node → R (refitted g n c f r) ≡ refitted (R g) (l n) (x c) f r
  refit_numbered g n c f r w a b =
      let es : List Entry = g.nodes in
      let z : Node = Pdo c f in
      let moves : (d : Place) → N d.node → x (moved_out n r d) ≡ moved_out (l n) r (x d) =
      λ d i. out_moved n r d a i in
      let set : List Entry = set_node es n z in
      let nodes : entries_in_order (map (renumbered_entry l)
      (map (reread_entry (moved_out n r)) set))
      ≡ map (reread_entry (moved_out (l n) r))
      (set_node (entries_in_order (map (renumbered_entry l) es)) (l n) (Pdo (x c) f)) =
      ap entries_in_order (nodes_numbered N l far (moved_out n r) (moved_out (l n) r) set moves
      (all_set (IsWithin N l far) es n z w.nodes (a, (b, tt))))
      ∙ order_reread (moved_out (l n) r) (map (renumbered_entry l) set)
      ∙ ap (λ (k : List Entry). map (reread_entry (moved_out (l n) r)) k)
      (ap entries_in_order (set_numbered N l far es n z w.nodes a)
      ∙ order_set (map (renumbered_entry l) es) (l n) (Pdo (x c) f)
      (differ_numbered es w.nodes w.differ)) in
      ap₂ (λ (k : List Entry) (cs : List Place). graph_of k cs g.next) nodes
      (places_numbered N l far (moved_out n r) (moved_out (l n) r) g.outputs
      (Each-weaker (λ (d : Place). N d.node)
      (λ (d : Place). x (moved_out n r d) ≡ moved_out (l n) r (x d)) moves g.outputs w.told))

  -- ---- one Pdo of two
  joined_holds : (g : Graph) (p q : ℕ) (c : Place) (f : Forest) → Holds g → N p → N c.node
      → Holds (joined_into g p q c f)
  joined_holds g p q c f w a b = record {
    nodes = all_within (moved p q) (λ d i. both_within p q d a i)
        (set_node (without g.nodes q) p (Pdo c f))
        (all_set (IsWithin N l far) (without g.nodes q) p (Pdo c f)
        (all_without (IsWithin N l far) g.nodes q w.nodes) (a, (b, tt)));
    told = all_map (moved p q) (λ d. N d.node) (λ d. N d.node) (λ d i. both_within p q d a i)
        g.outputs w.told;
    differ = differ_map (moved p q) (set_node (without g.nodes q) p (Pdo c f))
        (set_differ (without g.nodes q) p (Pdo c f) (differ_without g.nodes q w.differ));
  }

  joined_numbered : (g : Graph) (p q : ℕ) (c : Place) (f : Forest) → Holds g → N p → N q
      → N c.node → R (joined_into g p q c f) ≡ joined_into (R g) (l p) (l q) (x c) f
  joined_numbered g p q c f w a e b =
      let es : List Entry = g.nodes in
      let z : Node = Pdo c f in
      let left : List Entry = without es q in
      let moves : (d : Place) → N d.node → x (moved p q d) ≡ moved (l p) (l q) (x d) =
      λ d i. both_moved p q d e i in
      let rest : Each (IsWithin N l far) left = all_without (IsWithin N l far) es q w.nodes in
      let set : List Entry = set_node left p z in
      let nodes : entries_in_order (map (renumbered_entry l) (map (reread_entry (moved p q)) set))
      ≡ map (reread_entry (moved (l p) (l q)))
      (set_node (without (entries_in_order (map (renumbered_entry l) es)) (l q)) (l p)
      (Pdo (x c) f)) =
      ap entries_in_order (nodes_numbered N l far (moved p q) (moved (l p) (l q)) set moves
      (all_set (IsWithin N l far) left p z rest (a, (b, tt))))
      ∙ order_reread (moved (l p) (l q)) (map (renumbered_entry l) set)
      ∙ ap (λ (k : List Entry). map (reread_entry (moved (l p) (l q))) k)
      (ap entries_in_order (set_numbered N l far left p z rest a)
      ∙ order_set (map (renumbered_entry l) left) (l p) (Pdo (x c) f)
      (differ_numbered left rest (differ_without es q w.differ))
      ∙ ap (λ (k : List Entry). set_node k (l p) (Pdo (x c) f))
      (ap entries_in_order (without_numbered N l far es q w.nodes e)
      ∙ order_without (map (renumbered_entry l) es) (l q)
      (differ_numbered es w.nodes w.differ))) in
      ap₂ (λ (k : List Entry) (cs : List Place). graph_of k cs g.next) nodes
      (places_numbered N l far (moved p q) (moved (l p) (l q)) g.outputs
      (Each-weaker (λ (d : Place). N d.node)
      (λ (d : Place). x (moved p q d) ≡ moved (l p) (l q) (x d)) moves g.outputs w.told))

  -- ---- what is read of a Pdo, numbered anew
  read_numbered : (g : Graph) (y : Place) → Holds g → N y.node → is_read (R g) (x y) ≡ is_read g y
  read_numbered g y w a =
      ap₂ (λ (s t : Bool). s || t)
      (order_any (uses (x y)) (map (renumbered_entry l) g.nodes)
      ∙ any_numbered N l far y g.nodes a w.nodes)
      (among_numbered N l far y g.outputs a w.told)

  renewed_numbered : (g : Graph) (n : ℕ) (c : Place) (f : Forest) → Holds g → N n → N c.node
      → R (renewed g n c f) ≡ renewed (R g) (l n) (x c) f
  renewed_numbered g n c f w a b =
      let kept : ℕ → Bool = λ j. is_read g (place n j) in
      let same : (λ j. is_read (R g) (place (l n) j)) ≡ kept =
      λ i. λ j. read_numbered g (place n j) w a i in
      let k : Forest = kept_by kept f in
      refit_numbered (refitted g n c k same_number) n c (numbered 0 k) (λ j. number_after 0 k j)
      (refit_holds g n c k same_number w a b) a b
      ∙ ap (λ (h : Graph). refitted h (l n) (x c) (numbered 0 k) (λ j. number_after 0 k j))
      (refit_numbered g n c k same_number w a b)
      ∙ sym (ap (λ (t : ℕ → Bool). let m : Forest = kept_by t f in
      refitted (refitted (R g) (l n) (x c) m same_number) (l n) (x c) (numbered 0 m)
      (λ j. number_after 0 m j)) same)

  -- ---- the kid
  pub kid_numbered : (g : Graph) (p k q : ℕ) (c : Place) (f h : Forest) → Holds g → N p → N q
      → N c.node → R (with_kid g p k q c f h) ≡ with_kid (R g) (l p) k (l q) (x c) f h
  kid_numbered g p k q c f h w a e b =
      let near : Forest = named_by even f in
      let other : Forest = named_by odd h in
      let all : Forest = grafted (even k) other near in
      let d : Place = moved_out p even (place p k) in
      let in_d : N d.node = out_within p even (place p k) a a in
      let first : Graph = refitted g p c near even in
      let hold_first : Holds first = refit_holds g p c near even w a b in
      let second : Graph = refitted first q d other odd in
      let hold_second : Holds second = refit_holds first q d other odd hold_first e in_d in
      let third : Graph = joined_into second p q c all in
      let hold_third : Holds third = joined_holds second p q c all hold_second a b in
      renewed_numbered third p c all hold_third a b
      ∙ ap (λ (y : Graph). renewed y (l p) (x c) all)
      (joined_numbered second p q c all hold_second a e b
      ∙ ap (λ (y : Graph). joined_into y (l p) (l q) (x c) all)
      (refit_numbered first q d other odd hold_first e in_d
      ∙ ap₂ (λ (y : Graph) (s : Place). refitted y (l q) s other odd)
      (refit_numbered g p c near even w a b)
      (out_moved p even (place p k) a a)))
