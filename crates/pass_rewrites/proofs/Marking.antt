-- The marks of a fused graph, as a list of rewrites: each is on an output of a Pdo, or of a Gbk
-- that is not lifted.
use Rattle.std.proofs.Common.{◌≡◌, ℕ, Bool, true, false, cond, List, [], ◌∷◌, ◌++◌, Some, None, map, refl, sym, ap, ◌∙◌, subst}
use Rattle.std.proofs.lemmas.Bool.{false≢true}
use Rattle.std.proofs.lemmas.List.{append-nil}
use Rattle.std.specs.List.{AllByRecursion as Each, flat_map}
use Rattle.flume_value.proofs.EachLemmas.{Each-append}
use Rattle.exec_graph.specs.Meaning.{IsThere, node_at, place}
use Rattle.exec_graph.specs.Places.{code}
use Rattle.exec_graph.specs.Wellformed.{IsBlockedOk}
use Rattle.exec_graph.specs.declared.graph.Blocked.{Blocked}
use Rattle.exec_graph.specs.declared.graph.Entry.{Entry}
use Rattle.exec_graph.specs.declared.graph.Graph.{Graph}
use Rattle.exec_graph.specs.declared.graph.Node.{Node}
use Rattle.exec_graph.specs.declared.graph.Node.TheVariants.{Source, Flatten, Pdo, Gbk, Barrier}
use Rattle.exec_graph.specs.declared.graph.Place.{Place}
use Rattle.exec_graph.proofs.Entries.{all_found, all_map}
use Rattle.exec_graph.proofs.Solving.{each_found, gives_found}
use Rattle.exec_graph.proofs.Soundness.{IsSound-ok}
use Rattle.fusion_blocks.specs.Blocks.{CanMark, IsBlocked, MarksLead, takes_mark, unmarked}
use Rattle.fusion_blocks.proofs.Blocking.{blocked_can}
use Rattle.graph_laws.specs.Joining.{reread}
use Rattle.fuse_chain.specs.of_pardo_fuse.Fusing.{finished_entry, forest_over, fused, fused_by_parents, holds_out, joined_by, kept_nodes, kept_of, leads, least_of, moved_to, out_number, with_numbers}
use Rattle.fuse_chain.specs.of_pardo_fuse.Renumbering.{at_number}
use Rattle.fuse_chain.specs.of_pardo_fuse.Readers.{Cut, cut_of}
use Rattle.fuse_chain.specs.of_pardo_fuse.Wellformed.{IsFusible}
use Rattle.fuse_chain.proofs.of_pardo_fuse.Fused.{IsBlockedOk-parents, at_fused, there_fused}
use Rattle.pass_rewrites.specs.Passes.{ByRewrites}
use Rattle.pass_rewrites.proofs.Sinking.{marks_list}

-- ---- the nodes that are left are of their former kinds

holds_takes : (j : ℕ) (x : Node) → holds_out j x ≡ true → takes_mark (Some x) ≡ true
holds_takes j (Pdo c f) h = refl
holds_takes j _ h = absurd (false≢true h)

takes_finished : (r : Place → Place) (x : Node)
    → takes_mark (Some (reread r (with_numbers x))) ≡ takes_mark (Some x)
takes_finished r (Gbk c o l None) = refl
takes_finished r (Gbk c o l (Some k)) = refl
takes_finished r _ = refl

module _ (b : Cut) where
  abbrev es : List Entry
  es = b.graph.nodes

  -- it takes a mark exactly where the former node of its number did
  abbrev pub IsOfKind : Entry → Type 0
  IsOfKind h = takes_mark (Some h.node) ≡ takes_mark (node_at es h.number)

  of_kind : (n : ℕ) (x : Node) → node_at es n ≡ Some x → Each IsOfKind (kept_of b n x)
  of_kind n (Source r) at = (sym (ap takes_mark at), tt)
  of_kind n (Flatten ins) at = (sym (ap takes_mark at), tt)
  of_kind n (Pdo c f) at =
      elim (leads b n c) as (λ t. Each IsOfKind
      (cond t (record { number = n; node = Pdo c (forest_over b c) } ∷ []) []))
      [ true ↦ (sym (ap takes_mark at), tt) | false ↦ tt ]
  of_kind n (Gbk c o l k) at = (sym (ap takes_mark at), tt)
  of_kind n (Barrier ins o l a) at = (sym (ap takes_mark at), tt)

  kinds_from : (ds : List Entry) → Each (λ e. node_at es e.number ≡ Some e.node) ds
      → Each IsOfKind (flat_map (λ e. kept_of b e.number e.node) ds)
  kinds_from [] a = tt
  kinds_from (e ∷ ds) a =
      Each-append IsOfKind (kept_of b e.number e.node)
      (flat_map (λ (d : Entry). kept_of b d.number d.node) ds)
      (of_kind e.number e.node a.0) (kinds_from ds a.1)

  -- what takes a mark does so where it is now
  moved_takes : (hs : List Entry) (c : Place) → Each IsOfKind hs
      → takes_mark (node_at es c.node) ≡ true
      → takes_mark (node_at es (moved_to hs c).node) ≡ true
  moved_takes [] c a t = t
  moved_takes (h ∷ hs) c a t =
      by (holds_out (code c) h.node) refl (moved_takes hs c a.1 t)
    where
      by : (s : Bool) → holds_out (code c) h.node ≡ s
          → takes_mark (node_at es (moved_to hs c).node) ≡ true
          → takes_mark (node_at es (cond s (place h.number (out_number (code c) h.node))
          (moved_to hs c)).node) ≡ true
      by true i f = sym a.0 ∙ holds_takes (code c) h.node i
      by false i f = f

  kinds_finished : (r : Place → Place) (hs : List Entry) → Each IsOfKind hs
      → Each IsOfKind (map (finished_entry r) hs)
  kinds_finished r hs a =
      all_map (finished_entry r) IsOfKind IsOfKind (λ h k. takes_finished r h.node ∙ k) hs a

  -- so it can be marked where it is there
  mark_there : (r : Place → Place) (hs : List Entry) (c : Place) (g : Graph)
      → g.nodes ≡ map (finished_entry r) hs → Each IsOfKind hs
      → takes_mark (node_at es c.node) ≡ true → IsThere g.nodes c → CanMark g c
  mark_there r hs c g is a t there =
      let x = gives_found (node_at g.nodes c.node) c.out there in
      let kind : takes_mark (Some x.0) ≡ takes_mark (node_at es c.node) =
      all_found IsOfKind (map (finished_entry r) hs) c.node x.0
      (ap (λ (l : List Entry). node_at l c.node) (sym is) ∙ x.1) (kinds_finished r hs a) in
      record { there = there; kind = ap takes_mark x.1 ∙ kind ∙ t }

-- ---- marks one after another

lead_marks : (cs ms : List Place) (g : Graph) → Each (CanMark g) cs
    → MarksLead cs (record { graph = g; marks = ms }) (record { graph = g; marks = ms ++ cs })
lead_marks [] ms g a =
    ap (λ (l : List Place). let x : Blocked = record { graph = g; marks = l } in x)
    (sym (append-nil ms))
lead_marks (c ∷ cs) ms g a = (
  a.0,
  subst (λ (l : List Place). MarksLead cs (record { graph = g; marks = ms ++ c ∷ [] })
      (record { graph = g; marks = l })) (append_more ms c cs)
      (lead_marks cs (ms ++ c ∷ []) g a.1),
)
  where
    append_more : (xs : List Place) (y : Place) (ys : List Place)
        → (xs ++ y ∷ []) ++ ys ≡ xs ++ y ∷ ys
    append_more [] y ys = refl
    append_more (x ∷ xs) y ys = ap (λ (l : List Place). x ∷ l) (append_more xs y ys)

all_marks : (b : Blocked) → Each (CanMark b.graph) b.marks → ByRewrites 3 (unmarked b.graph) b
all_marks b a = marks_list b.marks (unmarked b.graph) b (lead_marks b.marks [] b.graph a)

moved_can : (b : Cut) (r : Place → Place) (hs : List Entry) (g : Graph) (cs : List Place)
    → g.nodes ≡ map (finished_entry r) hs → r ≡ moved_to hs → Each (IsOfKind b) hs
    → Each (λ c. takes_mark (node_at b.graph.nodes c.node) ≡ true) cs
    → Each (IsThere g.nodes) (map r cs) → Each (CanMark g) (map r cs)
moved_can b r hs g [] is same a t there = tt
moved_can b r hs g (c ∷ cs) is same a t there = (
  mark_there b r hs (r c) g is a
      (ap (λ (m : Place → Place). takes_mark (node_at b.graph.nodes (m c).node)) same
      ∙ moved_takes b hs c a t.0) there.0,
  moved_can b r hs g cs is same a t.1 there.1,
)

kinds_of : (g : Graph) (cs : List Place) → Each (CanMark g) cs
    → Each (λ c. takes_mark (node_at g.nodes c.node) ≡ true) cs
kinds_of g [] a = tt
kinds_of g (c ∷ cs) a = (a.0.kind, kinds_of g cs a.1)

marks_parents : (b : Blocked) → IsFusible b → Each (CanMark b.graph) b.marks
    → Each (CanMark (fused_by_parents b).graph) (fused_by_parents b).marks
unfolding joined_by
marks_parents b fu a =
    let cut : Cut = cut_of b in
    let hs : List Entry = kept_nodes cut in
    let ok : IsBlockedOk (fused_by_parents b) = IsBlockedOk-parents b fu in
    moved_can cut (moved_to hs) hs (fused_by_parents b).graph b.marks refl refl
    (kinds_from cut b.graph.nodes
    (each_found b.graph.nodes (IsSound-ok b.graph fu.ok.ok).differ))
    (kinds_of b.graph b.marks a) ok.marked

takes_reread : (r : Place → Place) (x : Node)
    → takes_mark (Some (reread r x)) ≡ takes_mark (Some x)
takes_reread r (Gbk c o l None) = refl
takes_reread r (Gbk c o l (Some k)) = refl
takes_reread r _ = refl

-- under the least numbers
mark_least : (b : Blocked) → IsFusible b → (c : Place) → CanMark (fused_by_parents b).graph c
    → CanMark (fused b).graph (at_number (least_of (cut_of b)) c)
mark_least b fu c a =
    let g : Graph = (fused_by_parents b).graph in
    let z = gives_found (node_at g.nodes c.node) c.out a.there in
    record {
      there = there_fused b fu c a.there;
      kind = ap takes_mark (at_fused b fu c.node z.0 z.1)
          ∙ takes_reread (at_number (least_of (cut_of b))) z.0
          ∙ sym (ap takes_mark z.1) ∙ a.kind;
    }

marks_can : (b : Blocked) → IsFusible b → Each (CanMark b.graph) b.marks
    → Each (CanMark (fused b).graph) (fused b).marks
marks_can b fu a =
    all_map (at_number (least_of (cut_of b))) (CanMark (fused_by_parents b).graph)
    (CanMark (fused b).graph) (mark_least b fu) (fused_by_parents b).marks
    (marks_parents b fu a)

pub fused_list : (b : Blocked) (scales : List ℕ) → IsFusible b → IsBlocked scales b
    → ByRewrites 3 (unmarked (fused b).graph) (fused b)
fused_list b scales fu blocked =
    all_marks (fused b) (marks_can b fu (blocked_can scales b fu.ok.ok blocked))
