-- Which outputs are kept, who leads, and which kids an output has, where each has a Pdo of its own.
use Rattle.std.proofs.Common.{◌≡◌, ℕ, Bool, true, false, cond, eqb, ◌||◌, ◌&&◌, List, [], ◌∷◌, ◌++◌, map, Option, Some, None, refl, sym, ap, ◌∙◌}
use Rattle.std.proofs.lemmas.Bool.{false≢true}
use Rattle.std.specs.List.{AllByRecursion}
use Rattle.exec_graph.specs.Forests.{Label, Forest, Bare, Grow}
use Rattle.exec_graph.specs.Meaning.{node_at, reads, place, has_out, gives_at, IsThere}
use Rattle.exec_graph.specs.Readers.{among, any_node, calls_on, collects, is_read, readers, same_place}
use Rattle.exec_graph.specs.declared.graph.Place.{Place}
use Rattle.exec_graph.specs.declared.graph.Node.{Node}
use Rattle.exec_graph.specs.declared.graph.Node.TheVariants.{Pdo}
use Rattle.exec_graph.specs.declared.graph.Entry.{Entry}
use Rattle.exec_graph.specs.declared.graph.Graph.{Graph}
use Rattle.exec_graph.specs.declared.graph.Blocked.{Blocked}
use Rattle.exec_graph.proofs.Rooted.{read_either}
use Rattle.graph_laws.specs.Joining.{reread}
use Rattle.graph_laws.specs.Single.{HasSteps, IsOneStep}
use Rattle.pardo_fuse.specs.Readers.{cut_of, is_inner, is_kept, is_outer, is_pdo, is_unmarked}
use Rattle.pardo_fuse.specs.Parting.{part_number, parts, parts_of_node, part_place, parted_nodes, parted_graph, parted}
use Rattle.pardo_fuse.specs.Fusing.{is_first, kids_on, leads, step_in}
use Rattle.pardo_fuse.proofs.Finding.{any_append}
use Rattle.pardo_fuse.proofs.Parting.{EachLabel, IsRow, all_parts, first_number, label_both, labels_has, row_of}
use Rattle.pardo_fuse.proofs.Unparting.{CanPart, kind_part, part_label, pdo_reread, step_at_node}
use Rattle.pardo_fuse.proofs.Sites.{all_sites, among_by, any_alike, any_no, calls_by, calls_never, calls_same, collects_all, collects_by, collects_never, collects_same, found_all, missed, never, no_node, none_any, outputs_of, readers_none, readers_part, same_parts, Tells}

-- ---- what is kept

pub filled : (f : Forest) → IsOneStep f → f ≡ Bare → ⊥
filled f s e = let bad : ⊥ = let q = sym s.alone ∙ e in cc in bad

parts_missed : (q : Place) (k n : ℕ) (d : Place) (f : Forest) → same_place q d ≡ false
    → any_node (calls_on q) (parts k n d f) ≡ false
parts_missed q k n d Bare e = refl
parts_missed q k n d (Grow l kids rest) e = rw (e, parts_missed q k n d rest e) refl

parts_called : (q : Place) (k n : ℕ) (d : Place) (f : Forest) → (f ≡ Bare → ⊥) → (b : Bool)
    → same_place q d ≡ b → any_node (calls_on q) (parts k n d f) ≡ b
parts_called q k n d f z false e = parts_missed q k n d f e
parts_called q k n d Bare z true e = absurd (z refl)
parts_called q k n d (Grow l kids rest) z true e = rw e refl

node_calls : (g : Graph) (q : Place) (t : Place → Bool) → Tells g q t → (n : ℕ) (x : Node)
    → HasSteps IsOneStep x → AllByRecursion (IsThere g.nodes) (reads x)
    → any_node (calls_on q) (parts_of_node g.next n (reread (part_place g) x)) ≡ calls_by t x
node_calls g q t h n (Pdo d f) s a =
    parts_called q g.next n (part_place g d) f (filled f s) (t d) (h d a.0)
node_calls g q t h n _ s a = refl

calls_all : (g : Graph) (q : Place) (t : Place → Bool) → Tells g q t → (es : List Entry)
    → AllByRecursion (λ (e : Entry). HasSteps IsOneStep e.node) es
    → AllByRecursion (λ (e : Entry). AllByRecursion (IsThere g.nodes) (reads e.node)) es
    → any_node (calls_on q) (all_parts g.next (part_place g) es) ≡ any_node (calls_by t) es
calls_all g q t h [] s a = refl
calls_all g q t h (e ∷ es) s a =
    any_append (calls_on q) (parts_of_node g.next e.number (reread (part_place g) e.node))
    (all_parts g.next (part_place g) es)
    ∙ ap (λ (b : Bool). b || any_node (calls_on q) (all_parts g.next (part_place g) es))
    (node_calls g q t h e.number e.node s.0 a.0)
    ∙ ap (λ (b : Bool). calls_by t e.node || b) (calls_all g q t h es s.1 a.1)

collects_part : (g : Graph) → CanPart g → (c : Place) → IsThere g.nodes c
    → any_node (collects (part_place g c)) (parted_nodes g) ≡ any_node (collects c) g.nodes
collects_part g can c t =
    collects_all g (part_place g c) (same_place c)
    (λ d u. same_parts g can c d t u) g.nodes can.ok.there
    ∙ any_alike (collects_by (same_place c)) (collects c) (collects_same c) g.nodes

calls_part : (g : Graph) → CanPart g → (c : Place) → IsThere g.nodes c
    → any_node (calls_on (part_place g c)) (parted_nodes g) ≡ any_node (calls_on c) g.nodes
calls_part g can c t =
    calls_all g (part_place g c) (same_place c) (λ d u. same_parts g can c d t u) g.nodes can.steps
    can.ok.there
    ∙ any_alike (calls_by (same_place c)) (calls_on c) (calls_same c) g.nodes

among_part : (g : Graph) → CanPart g → (c : Place) → IsThere g.nodes c → (ds : List Place)
    → AllByRecursion (IsThere g.nodes) ds
    → among (part_place g c) (map (part_place g) ds) ≡ among c ds
among_part g can c t ds a =
    among_by g (part_place g c) (same_place c) (λ d u. same_parts g can c d t u) ds a

-- A Pdo's outputs are a Pdo's.
pub pdo_part : (g : Graph) → CanPart g → (c : Place) → IsThere g.nodes c
    → is_pdo (node_at (parted_nodes g) (part_place g c).node) ≡ is_pdo (node_at g.nodes c.node)
pdo_part = kind_part is_pdo pdo_reread (λ c d f h. refl)

-- The graph can be parted, and what is marked is there.
pub record CanMark (a : Blocked) : Type 0 where
  pub can : CanPart a.graph
  pub marked : AllByRecursion (IsThere a.graph.nodes) a.marks

pub unmarked_part : (a : Blocked) → CanMark a → (c : Place) → IsThere a.graph.nodes c
    → is_unmarked (parted a) (part_place a.graph c) ≡ is_unmarked a c
unmarked_part a m c t =
    rw (pdo_part a.graph m.can c t, among_part a.graph m.can c t a.marks m.marked) refl

pub kept_part : (a : Blocked) → CanMark a → (c : Place) → IsThere a.graph.nodes c
    → is_kept (cut_of (parted a)) (part_place a.graph c) ≡ is_kept (cut_of a) c
kept_part a m c t =
    rw (
      collects_part a.graph m.can c t,
      among_part a.graph m.can c t a.graph.outputs m.can.ok.told,
      calls_part a.graph m.can c t,
      unmarked_part a m c t,
    ) refl

and_none : (b : Bool) → (b && false) ≡ false
and_none true = refl
and_none false = refl

-- What is of no former collection is read by nothing.
record IsUnread (g : Graph) (q : Place) : Type 0 where
  collected : any_node (collects q) (parted_nodes g) ≡ false
  told : among q (map (part_place g) g.outputs) ≡ false
  called : any_node (calls_on q) (parted_nodes g) ≡ false

unread : (g : Graph) → CanPart g → (q : Place) → Tells g q never → IsUnread g q
unread g can q h = record {
  collected = collects_all g q never h g.nodes can.ok.there
      ∙ any_alike (collects_by never) no_node collects_never g.nodes ∙ any_no g.nodes;
  told = among_by g q never h g.outputs can.ok.told ∙ none_any g.outputs;
  called = calls_all g q never h g.nodes can.steps can.ok.there
      ∙ any_alike (calls_by never) no_node calls_never g.nodes ∙ any_no g.nodes;
}

pub kept_none : (a : Blocked) → CanMark a → (q : Place) → Tells a.graph q never
    → is_kept (cut_of (parted a)) q ≡ false
kept_none a m q h =
    let u = unread a.graph m.can q h in
    rw (u.collected, u.told, u.called) (and_none (is_outer (cut_of (parted a)) q))

-- Nor is it read.
pub read_none : (a : Blocked) → CanMark a → (q : Place) → Tells a.graph q never
    → is_read (parted_graph a.graph) q ≡ false
read_none a m q h =
    let u = unread a.graph m.can q h in
    sym (read_either (parted_graph a.graph) q) ∙ rw (u.collected, u.told, u.called) refl

-- ---- who leads

first_sites : (g : Graph) → CanPart g → (n : ℕ) → (ns : List ℕ)
    → AllByRecursion (λ m. (c : Place) × (f : Forest) × (node_at g.nodes m ≡ Some (Pdo c f))) ns
    → is_first n (all_sites g ns) ≡ is_first n ns
first_sites g can n [] a = refl
first_sites g can n (m ∷ ns) a =
    let f : Forest = a.0.1 in
    let at : node_at g.nodes m ≡ Some (Pdo a.0.0 f) = a.0.2 in
    let s = step_at_node g can m a.0.0 f at in
    ap (λ (o : Option Node). is_first n (outputs_of g.next m (step_in o) ++ all_sites g ns)) at
    ∙ by f (row_of f s) (filled f s)
  where
    by : (f : Forest) → IsRow 0 f → (f ≡ Bare → ⊥)
        → is_first n (outputs_of g.next m f ++ all_sites g ns) ≡ eqb n m
    by Bare r z = absurd (z refl)
    by (Grow l kids rest) r z = ap (eqb n) (ap (part_number g.next m) r.0 ∙ first_number g.next m)

abbrev pub IsPdoAt : Graph → ℕ → Type 0
IsPdoAt g m = (c : Place) × (f : Forest) × (node_at g.nodes m ≡ Some (Pdo c f))

reader_pdo : (g : Graph) (d : Place) (m : ℕ) (x : Node) → node_at g.nodes m ≡ Some x
    → calls_on d x ≡ true → IsPdoAt g m
reader_pdo g d m (Pdo c f) at h = (c, f, at)
reader_pdo g d m _ at h = absurd (false≢true h)

pub readers_pdos : (g : Graph) (d : Place) (es : List Entry)
    → AllByRecursion (λ (e : Entry). node_at g.nodes e.number ≡ Some e.node) es
    → AllByRecursion (IsPdoAt g) (readers es d)
readers_pdos g d [] a = tt
readers_pdos g d (e ∷ es) a = by (readers_pdos g d es a.1) (calls_on d e.node) refl
  where
    by : AllByRecursion (IsPdoAt g) (readers es d) → (t : Bool) → calls_on d e.node ≡ t
        → AllByRecursion (IsPdoAt g) (cond t (e.number ∷ readers es d) (readers es d))
    by i true h = (reader_pdo g d e.number e.node a.0 h, i)
    by i false h = i

pub leads_part : (a : Blocked) → CanMark a → (n : ℕ) (c : Place) → IsThere a.graph.nodes c
    → leads (cut_of (parted a)) n (part_place a.graph c) ≡ leads (cut_of a) n c
leads_part a m n c t =
    let g : Graph = a.graph in
    ap (λ (b : Bool). cond b false (is_first n (readers (parted_nodes g) (part_place g c))))
    (unmarked_part a m c t)
    ∙ ap (λ (l : List ℕ). cond (is_unmarked a c) false (is_first n l)) (readers_part g m.can c t)
    ∙ ap (cond (is_unmarked a c) false)
    (first_sites g m.can n (readers g.nodes c) (readers_pdos g c g.nodes (found_all g m.can)))

-- ---- the kids on an output

pub kids_part : (a : Blocked) → CanMark a → (n : ℕ) (c : Place) (f : Forest)
    → node_at a.graph.nodes n ≡ Some (Pdo c f)
    → EachLabel (λ l. cond
    (is_inner (cut_of (parted a)) (place (part_number a.graph.next n l.at) 0))
    (readers (parted_nodes a.graph) (place (part_number a.graph.next n l.at) 0)) []
    ≡ all_sites a.graph (kids_on (cut_of a) n l.out)) f
kids_part a m n c f at =
    let g : Graph = a.graph in
    let q : Label → Place = λ l. place (part_number g.next n l.at) 0 in
    label_both (λ l. l.out ≡ None → (d : Place) → IsThere g.nodes d
    → same_place (q l) (part_place g d) ≡ false)
    (λ l. (j : ℕ) → l.out ≡ Some j → (part_place g (place n j) ≡ q l) × IsThere g.nodes (place n j))
    (λ l. cond (is_inner (cut_of (parted a)) (q l)) (readers (parted_nodes g) (q l)) []
    ≡ all_sites g (kids_on (cut_of a) n l.out))
    (λ l none some. by l.out (q l) (λ e d t. none e d t) (λ j e. some j e))
    f (missed g m.can n c f at)
    (label_both (λ l. (j : ℕ) → l.out ≡ Some j → part_place g (place n j) ≡ q l)
    (λ l. (j : ℕ) → l.out ≡ Some j → has_out j f ≡ true)
    (λ l. (j : ℕ) → l.out ≡ Some j → (part_place g (place n j) ≡ q l) × IsThere g.nodes (place n j))
    (λ l e h j i. (e j i, ap (λ (o : Option Node). gives_at o j) at ∙ h j i)) f
    (part_label g m.can n c f at) (labels_has f))
  where
    g : Graph
    g = a.graph

    choose : (b : Bool) (l : List ℕ) → l ≡ [] → cond b l [] ≡ []
    choose true l e = e
    choose false l e = refl

    by : (o : Option ℕ) (q : Place)
        → (o ≡ None → (d : Place) → IsThere g.nodes d → same_place q (part_place g d) ≡ false)
        → ((j : ℕ) → o ≡ Some j → (part_place g (place n j) ≡ q) × IsThere g.nodes (place n j))
        → cond (is_inner (cut_of (parted a)) q) (readers (parted_nodes g) q) []
        ≡ all_sites g (kids_on (cut_of a) n o)
    by None q none some =
        choose (is_unmarked (parted a) q) (readers (parted_nodes g) q)
        (readers_none g m.can q (λ d t. none refl d t))
    by (Some j) q none some =
        let e = (some j refl).0 in
        let t = (some j refl).1 in
        ap (λ (x : Place). cond (is_unmarked (parted a) x) (readers (parted_nodes g) x) []) (sym e)
        ∙ ap (λ (b : Bool). cond b (readers (parted_nodes g) (part_place g (place n j))) [])
        (unmarked_part a m (place n j) t)
        ∙ ap (λ (l : List ℕ). cond (is_unmarked a (place n j)) l [])
        (readers_part g m.can (place n j) t)
        ∙ under (is_unmarked a (place n j))
      where
        under : (b : Bool) → cond b (all_sites g (readers g.nodes (place n j))) []
            ≡ all_sites g (cond b (readers g.nodes (place n j)) [])
        under true = refl
        under false = refl
