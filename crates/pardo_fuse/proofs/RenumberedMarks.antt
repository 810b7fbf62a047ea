-- A graph with marks whose nodes have other numbers: it is as well-formed, and as much is fused.
use Rattle.std.proofs.Common.{◌≡◌, ℕ, ◌≤◌, Bool, true, false, cond, ◌&&◌, Some, refl, sym, ap, ◌∙◌, subst, List}
use Rattle.std.proofs.lemmas.Bool.{false≢true}
use Rattle.flume_value.proofs.EachLemmas.{Each-both, Each-weaker}
use Rattle.exec_graph.specs.Forests.{Forest}
use Rattle.exec_graph.specs.Meaning.{IsThere, node_at, IsSound}
use Rattle.exec_graph.specs.Readers.{among}
use Rattle.exec_graph.specs.Wellformed.{IsBlockedOk, is_lifted}
use Rattle.exec_graph.specs.declared.graph.Place.{Place}
use Rattle.exec_graph.specs.declared.graph.Node.{Node}
use Rattle.exec_graph.specs.declared.graph.Node.TheVariants.{Pdo}
use Rattle.exec_graph.specs.declared.graph.Blocked.{Blocked}
use Rattle.exec_graph.specs.declared.graph.Graph.{Graph}
use Rattle.exec_graph.proofs.Entries.{all_map}
use Rattle.exec_graph.proofs.Solving.{gives_found}
use Rattle.exec_graph.proofs.Soundness.{IsSound-ok}
use Rattle.graph_laws.specs.Joining.{reread}
use Rattle.graph_laws.proofs.Kids.{IsKept}
use Rattle.pardo_fuse.specs.Readers.{is_pdo, is_unmarked}
use Rattle.pardo_fuse.specs.Renumbering.{at_number, renumbered}
use Rattle.pardo_fuse.specs.Wellformed.{IsSettled}
use Rattle.pardo_fuse.proofs.Elsewhere.{KeepsApart, among_from, among_to}
use Rattle.pardo_fuse.proofs.OtherNumbers.{AreApart, former}
use Rattle.pardo_fuse.proofs.Unparting.{lifted_reread, pdo_reread}
use Rattle.pardo_fuse.proofs.Carried.{IsMoved, Was, far, reads_there, there, was}
use Rattle.pardo_fuse.proofs.Renumbered.{is_moved, number_kept}
use Rattle.exec_graph.specs.declared.graph.Entry.{Entry}

-- a Pdo was a Pdo
pdo_from : (r : Place → Place) (z : Node) (c : Place) (f : Forest) → Pdo c f ≡ reread r z
    → (d : Place) × (z ≡ Pdo d f) × (c ≡ r d)
pdo_from r (Pdo d h) c f e =
    let same : f ≡ h = cc in
    let at : c ≡ r d = cc in
    (d, ap (λ (t : Forest). Pdo d t) (sym same), at)
pdo_from r _ c f e = let no : ⊥ = cc in absurd no

same_tests : (a b : Bool) → (a ≡ true → b ≡ true) → (b ≡ true → a ≡ true) → a ≡ b
same_tests true b f h = sym (f refl)
same_tests false true f h = absurd (false≢true (h refl))
same_tests false false f h = refl

module _ (b : Blocked) (l : ℕ → ℕ) (good : IsBlockedOk b) (apart : AreApart l b.graph.nodes)
    (low : (n : ℕ) → l n ≤ n) where
  abbrev g : Graph
  g = b.graph

  abbrev x : Place → Place
  x = at_number l

  abbrev new : Blocked
  new = renumbered l b

  abbrev o : ℕ → ℕ
  o = former l g.nodes

  abbrev es : List Entry
  es = new.graph.nodes

  ok : IsSound g
  ok = IsSound-ok g good.ok

  moves : IsMoved g l o es
  moves = is_moved g l ok apart

  pub graph_kept : IsKept g new.graph
  graph_kept = number_kept g l ok apart low

  pub blocked_kept : IsBlockedOk new
  blocked_kept = record {
    ok = graph_kept.formed good.ok;
    marked = all_map x (IsThere g.nodes) (IsThere new.graph.nodes)
        (there g l o es ok moves) b.marks good.marked;
    unlifted = all_map x (λ c. is_lifted (node_at new.graph.nodes (l c.node)) ≡ false)
        (λ c. is_lifted (node_at new.graph.nodes c.node) ≡ false) (λ c h. h) b.marks
        (Each-both (IsThere g.nodes) (λ (c : Place). is_lifted (node_at g.nodes c.node) ≡ false)
        (λ (c : Place). is_lifted (node_at new.graph.nodes (l c.node)) ≡ false)
        (λ c t h.
        let z = gives_found (node_at g.nodes c.node) c.out t in
        ap is_lifted (moves.at_new c.node z.0 z.1)
        ∙ lifted_reread x z.0 ∙ sym (ap is_lifted z.1) ∙ h) b.marks good.marked good.unlifted);
  }

  -- which outputs may be fused is as before
  among_kept : (y : Place) → IsThere g.nodes y → among (x y) new.marks ≡ among y b.marks
  among_kept y t =
      same_tests (among (x y) new.marks) (among y b.marks)
      (among_from x y b.marks (Each-weaker (IsThere g.nodes) (KeepsApart x y)
      (λ c s. far g l o es ok moves y c t s) b.marks good.marked))
      (among_to x y b.marks)

  unmarked_kept : (y : Place) → IsThere g.nodes y → is_unmarked new (x y) ≡ is_unmarked b y
  unmarked_kept y t =
      let z = gives_found (node_at g.nodes y.node) y.out t in
      let pdo : is_pdo (node_at new.graph.nodes (l y.node)) ≡ is_pdo (node_at g.nodes y.node) =
      ap is_pdo (moves.at_new y.node z.0 z.1)
      ∙ pdo_reread x z.0 ∙ sym (ap is_pdo z.1) in
      λ i. pdo i && cond (among_kept y t i) false true

  -- what a Pdo was
  record WasPdo (n : ℕ) (c : Place) (f : Forest) : Type 0 where
    number : ℕ
    source : Place
    at : node_at g.nodes number ≡ Some (Pdo source f)
    there : IsThere g.nodes source
    is : n ≡ l number
    reads : c ≡ x source

  was_pdo : (n : ℕ) (c : Place) (f : Forest) → node_at new.graph.nodes n ≡ Some (Pdo c f)
      → WasPdo n c f
  was_pdo n c f at =
      let v : Was g l o es ok moves n (Pdo c f) =
      was g l o es ok moves n (Pdo c f) at in
      let p = pdo_from x v.node c f v.same in
      let before : node_at g.nodes v.number ≡ Some (Pdo p.0 f) =
      v.at ∙ ap (λ (z : Node). Some z) p.1 in
      record {
        number = v.number;
        source = p.0;
        at = before;
        there = (reads_there g l o es ok moves v.number (Pdo p.0 f) before).0;
        is = v.is;
        reads = p.2;
      }

  pub settled_kept : IsSettled b → IsSettled new
  settled_kept s = record {
    outer = λ n c f at.
        let v = was_pdo n c f at in
        ap (is_unmarked new) v.reads ∙ unmarked_kept v.source v.there
        ∙ s.outer v.number v.source f v.at;
    apart = λ n q c f h at bt.
        let v = was_pdo n c f at in
        let w = was_pdo q c h bt in
        let same : v.source ≡ w.source =
        far g l o es ok moves v.source w.source v.there w.there
        (sym v.reads ∙ w.reads) in
        v.is
        ∙ ap l (s.apart v.number w.number w.source f h
        (subst (λ (d : Place). node_at g.nodes v.number ≡ Some (Pdo d f)) same v.at) w.at)
        ∙ sym w.is;
  }
