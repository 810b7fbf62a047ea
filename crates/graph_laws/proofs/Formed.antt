-- A Pdo whose unread outputs are dropped, and whose others are numbered anew, makes a graph
-- well-formed that was so but for its forest.
use Rattle.std.proofs.Common.{◌≡◌, ℕ, Bool, true, false, eqb, Some, inl, refl, sym, ap, ◌∙◌, subst}
use Rattle.std.proofs.lemmas.Bool.{eqb-true, eq-eqb, false≢true}
use Rattle.combine_table.proofs.of_flume_value.EachLemmas.{Each-both}
use Rattle.exec_graph.specs.declared.graph.Place.{Place}
use Rattle.exec_graph.specs.declared.graph.Node.{Node}
use Rattle.exec_graph.specs.declared.graph.Node.TheVariants.{Flatten, Pdo, Gbk}
use Rattle.exec_graph.specs.declared.graph.Entry.{Entry}
use Rattle.exec_graph.specs.declared.graph.Graph.{Graph}
use Rattle.exec_graph.specs.Forests.{Forest, numbered}
use Rattle.exec_graph.specs.Meaning.{IsSound, OutsDiffer, node_at, place}
use Rattle.exec_graph.specs.Readers.{is_read}
use Rattle.exec_graph.specs.Wellformed.{IsForestOk, IsGraphOk, IsNodeOk}
use Rattle.exec_graph.proofs.Solving.{each_found}
use Rattle.graph_laws.specs.Kids.{kept_by, number_after, refitted, renewed, same_number}
use Rattle.graph_laws.proofs.Nearly.{IsNear, NearNode, near_refitted, read_to}
use Rattle.graph_laws.proofs.Roots.{numbered_twice, root_kept, root_numbered, steps_kept, steps_numbered, was_kept, was_number}

node_formed : (g : Graph) (p : ℕ) (c : Place) (f : Forest) (n : ℕ) (x : Node)
    → node_at g.nodes p ≡ Some (Pdo c f) → IsForestOk g p f → NearNode p p g n x
    → node_at g.nodes n ≡ Some x → IsNodeOk g n x
node_formed g p c f n (Flatten ins) at ok a e = a
node_formed g p c f n (Pdo d h) at ok a e = by (eqb n p) refl
  where
    by : (b : Bool) → eqb n p ≡ b → IsForestOk g n h
    by true q =
        let is : n ≡ p = eqb-true n p q in
        let both : Some (Pdo c f) ≡ Some (Pdo d h) =
        sym at ∙ ap (node_at g.nodes) (sym is) ∙ e in
        let same : f ≡ h = cc in
        subst (λ (m : ℕ). IsForestOk g m h) (sym is) (subst (IsForestOk g p) same ok)
    by false q =
        let apart : n ≡ p → ⊥ = λ i. false≢true (sym q ∙ eq-eqb n p i) in a (apart, apart)
node_formed g p c f n (Gbk d o l (Some k)) at ok a e = a
node_formed g p c f n _ at ok a e = tt

pub formed : (g : Graph) (p : ℕ) (c : Place) (f : Forest) → IsSound g
    → node_at g.nodes p ≡ Some (Pdo c f) → IsForestOk g p f → IsNear p p g → IsGraphOk g
formed g p c f ok at forest near = record {
  founded = record {
    ascends = near.ascends;
    below = near.below;
    there = ok.there;
    told = ok.told;
    ranked = ok.ranked;
  };
  nodes = Each-both (λ (e : Entry). NearNode p p g e.number e.node)
      (λ (e : Entry). node_at g.nodes e.number ≡ Some e.node)
      (λ (e : Entry). IsNodeOk g e.number e.node)
      (λ e a at_e. node_formed g p c f e.number e.node at forest a at_e) g.nodes near.nodes
      (each_found g.nodes ok.differ);
  objects = near.objects;
  few = near.few;
}

pub renewed_formed : (g : Graph) (p : ℕ) (c : Place) (f : Forest) → OutsDiffer f
    → node_at g.nodes p ≡ Some (Pdo c f)
    → (let k : Forest = kept_by (λ j. is_read g (place p j)) f in
    let h : Graph = refitted g p c k same_number in
    OutsDiffer k → node_at h.nodes p ≡ Some (Pdo c k)
    → node_at (renewed g p c f).nodes p ≡ Some (Pdo c (numbered 0 k)) → IsSound (renewed g p c f)
    → IsNear p p g → IsGraphOk (renewed g p c f))
renewed_formed g p c f d at dk at_h at_new sound near =
    let keep : ℕ → Bool = λ j. is_read g (place p j) in
    let k : Forest = kept_by keep f in
    let new : Forest = numbered 0 k in
    let h : Graph = refitted g p c k same_number in
    let last : Graph = renewed g p c f in
    let near_h : IsNear p p h = near_refitted p p g p c f k same_number (inl refl)
    (record { at = at; steps = steps_kept keep f; root = root_kept keep f }) near in
    let near_last : IsNear p p last = near_refitted p p h p c k new (number_after 0 k) (inl refl)
    (record { at = at_h; steps = steps_numbered 0 k; root = root_numbered 0 k }) near_h in
    let forest : IsForestOk last p new = record {
      order = numbered_twice 0 k;
      read = λ j o.
          let w = was_number 0 k j dk o in
          let read_g : is_read g (place p w.old) ≡ true = was_kept keep f w.old w.has in
          let read_h : is_read h (place p w.old) ≡ true =
          read_to g p c f k same_number at w.old read_g in
          subst (λ (m : ℕ). is_read last (place p m) ≡ true) w.is
          (read_to h p c k new (number_after 0 k) at_h w.old read_h);
    } in
    formed last p c new sound at_new forest near_last
