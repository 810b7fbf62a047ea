-- A graph whose steps have their outputs apart means what the graph means, and has its types.
use Rattle.std.proofs.Common.{◌≡◌, ℕ, List, [], ◌∷◌, ◌++◌, map, Option, Some, None, refl, sym, ap, ◌∙◌, subst, append-nil, suc}
use Rattle.std.proofs.lemmas.List.Concat.{flat_map-append}
use Rattle.std.specs.List.{flat_map, AllByRecursion}
use Rattle.flume_value.specs.Bag.{bag_of}
use Rattle.flume_value.proofs.EachLemmas.{Each-weaker}
use Rattle.flume_types.specs.declared.types.Ty.{Ty}
use Rattle.exec_graph.specs.of_flume_collection.Collection.{Collection}
use Rattle.exec_graph.specs.of_flume_collection.Traps.{trap_set}
use Rattle.exec_graph.specs.World.{World}
use Rattle.exec_graph.specs.Forests.{Label, Forest, Bare, Grow, new_label, new_out}
use Rattle.exec_graph.specs.Meaning.{through, place, node_at, reads, total, step_own, step_traps, own, traps, IsGivenToKept, FitsForest, Holds, IsThere, KeepsMeaning}
use Rattle.exec_graph.specs.Typing.{ActTyped, Signatures, StepTyped, OutTyped, ForestTyped, NodeTyped, KeepsTypes}
use Rattle.exec_graph.specs.declared.graph.Place.{Place}
use Rattle.exec_graph.specs.declared.graph.Node.{Node}
use Rattle.exec_graph.specs.declared.graph.Node.TheVariants.{Source, Flatten, Pdo, Gbk, Barrier}
use Rattle.exec_graph.specs.declared.graph.Entry.{Entry}
use Rattle.exec_graph.specs.declared.graph.Graph.{Graph}
use Rattle.exec_graph.proofs.Entries.{all_found}
use Rattle.exec_graph.proofs.Solving.{each_found}
use Rattle.graph_laws.proofs.Joining.{map_reread, holds_reread}
use Rattle.graph_laws.proofs.Numbering.{label_old}
use Rattle.graph_laws.proofs.TypedGraphs.{types_reread}
use Rattle.graph_laws.specs.Joining.{reread}
use Rattle.pardo_fuse.specs.Parting.{part_number, sole_output, parts, parts_of_node, part_place, parted_nodes, parted_graph}
use Rattle.pardo_fuse.proofs.Meaning.{IsSum, own_sum, traps_sum}
use Rattle.pardo_fuse.proofs.Parting.{EachLabel, IsRow, all_parts, label_both, parts_each, row_of}
use Rattle.pardo_fuse.proofs.Unparting.{CanPart, back, back_label, back_same, each_part, is_parted, step_at_node}

-- ---- what is said of former collections

abbrev before : {X : Type 0} → Graph → (Place → X) → Place → X
before g m c = m (back g c)

before_part : {X : Type 0} (g : Graph) (m : Place → X) → CanPart g → (cs : List Place)
    → AllByRecursion (IsThere g.nodes) cs
    → AllByRecursion (λ c. before g m (part_place g c) ≡ m c) cs
before_part g m can cs a = Each-weaker (IsThere g.nodes) (λ c. before g m (part_place g c) ≡ m c)
    (λ c t. ap m (is_parted g can c t).back) cs a

pub there_node : (g : Graph) → CanPart g → (n : ℕ) (x : Node) → node_at g.nodes n ≡ Some x
    → AllByRecursion (IsThere g.nodes) (reads x)
there_node g can n x at = all_found (λ (e : Entry). AllByRecursion (IsThere g.nodes) (reads e.node))
    g.nodes n x at can.ok.there

-- what the Pdo n read is read by its parts
before_read : {X : Type 0} (g : Graph) (m : Place → X) (can : CanPart g) (n : ℕ) (c : Place)
    (f : Forest) → node_at g.nodes n ≡ Some (Pdo c f) → before g m (part_place g c) ≡ m c
before_read g m can n c f at = ap m (is_parted g can c (there_node g can n (Pdo c f) at).0).back

-- what holds of the Pdo of each output holds of all parts
parts_hold : (g : Graph) → CanPart g → (n : ℕ) (c : Place) (f : Forest)
    → node_at g.nodes n ≡ Some (Pdo c f) → (P : Entry → Type 0) (Q : Label → Type 0)
    → ((l : Label) → back g (place (part_number g.next n l.at) 0) ≡ place n (label_old l.out)
    → Q l
    → P (record {
      number = part_number g.next n l.at;
      node = Pdo (part_place g c) (sole_output l);
    }))
    → EachLabel Q f → AllByRecursion P (parts_of_node g.next n (reread (part_place g) (Pdo c f)))
parts_hold g can n c f at P Q holds a =
    let q : Label → ℕ = λ l. part_number g.next n l.at in
    parts_each P g.next n (part_place g c) f
    (label_both (λ l. back g (place (q l) 0) ≡ place n (label_old l.out)) Q
    (λ l. P (record { number = q l; node = Pdo (part_place g c) (sole_output l) })) holds f
    (back_label g can n c f at) a)

-- ---- each node holds

fits_labels : (w : World) (m : Place → Collection) (n : ℕ) (v : Collection) (f : Forest)
    → FitsForest w m n v f → EachLabel (λ l. IsGivenToKept m n l.out (through w l v)) f
fits_labels w m n v Bare a = tt
fits_labels w m n v (Grow l kids rest) a = (a.0, fits_labels w m n v rest a.2)

kept_sole : (m k : Place → Collection) (n q : ℕ) (o : Option ℕ) (u : Collection)
    → k (place q 0) ≡ m (place n (label_old o)) → IsGivenToKept m n o u
    → IsGivenToKept k q (new_out 0 o) u
kept_sole m k n q None u e h = tt
kept_sole m k n q (Some j) u e h = e ∙ h

node_holds : (w : World) (g : Graph) (m : Place → Collection) → CanPart g → (n : ℕ) (x : Node)
    → node_at g.nodes n ≡ Some x → Holds w m n x
    → AllByRecursion (λ (h : Entry). Holds w (before g m) h.number h.node)
    (parts_of_node g.next n (reread (part_place g) x))
node_holds w g m can n (Source r) at h = (
  holds_reread w (before g m) m (part_place g) n (Source r) tt
      (λ j. ap m (back_same g can n j (Source r) at refl)) h,
  tt,
)
node_holds w g m can n (Flatten ins) at h = (
  holds_reread w (before g m) m (part_place g) n (Flatten ins)
      (before_part g m can ins (there_node g can n (Flatten ins) at))
      (λ j. ap m (back_same g can n j (Flatten ins) at refl)) h,
  tt,
)
node_holds w g m can n (Pdo c f) at h =
    parts_hold g can n c f at (λ (e : Entry). Holds w (before g m) e.number e.node)
    (λ l. IsGivenToKept m n l.out (through w l (m c)))
    (λ l b a. (
      kept_sole m (before g m) n (part_number g.next n l.at) l.out
          (through w l (before g m (part_place g c))) (ap m b)
          (subst (λ (v : Collection). IsGivenToKept m n l.out (through w l v))
          (sym (before_read g m can n c f at)) a),
      tt,
      tt,
    )) (fits_labels w m n (m c) f h)
node_holds w g m can n (Gbk c o l b) at h = (
  holds_reread w (before g m) m (part_place g) n (Gbk c o l b)
      (before_part g m can (c ∷ []) (there_node g can n (Gbk c o l b) at))
      (λ j. ap m (back_same g can n j (Gbk c o l b) at refl)) h,
  tt,
)
node_holds w g m can n (Barrier ins o l a) at h = (
  holds_reread w (before g m) m (part_place g) n (Barrier ins o l a)
      (before_part g m can ins (there_node g can n (Barrier ins o l a) at))
      (λ j. ap m (back_same g can n j (Barrier ins o l a) at refl)) h,
  tt,
)

-- ---- what the nodes add up to

row_total : {Y : Type 0} (w : World) (part : (Place → Collection) → Node → List Y)
    (p : Collection → Label → List Y) → IsSum w part p → (m : Place → Collection) (d : Place)
    (v : Collection) → m d ≡ v → (k n i : ℕ) (f : Forest) → IsRow i f
    → flat_map (λ (h : Entry). part m h.node) (parts k n d f) ≡ total w p v f
row_total w part p is m d v e k n i Bare r = refl
row_total {Y = Y} w part p is m d v e k n i (Grow l kids rest) r =
    ap (λ (xs : List Y). xs ++ flat_map (λ (h : Entry). part m h.node) (parts k n d rest))
    (is.steps m d (sole_output l) ∙ append-nil (p (m d) (new_label 0 l))
    ∙ is.numbered (m d) (new_out 0 l.out) l ∙ ap (λ (u : Collection). p u l) e)
    ∙ ap (λ (xs : List Y). p v l ++ xs) (row_total w part p is m d v e k n (suc i) rest r.2)
    ∙ ap (λ (x : Forest). p v l ++ (total w p (through w l v) x ++ total w p v rest)) (sym r.1)

node_sum : {Y : Type 0} (w : World) (part : (Place → Collection) → Node → List Y)
    (p : Collection → Label → List Y) → IsSum w part p → (g : Graph) (m : Place → Collection)
    → CanPart g → (n : ℕ) (x : Node) → node_at g.nodes n ≡ Some x
    → flat_map (λ (h : Entry). part (before g m) h.node)
    (parts_of_node g.next n (reread (part_place g) x))
    ≡ part m x
node_sum w part p is g m can n (Source r) at =
    append-nil (part (before g m) (Source r)) ∙ is.moved (before g m) m (part_place g) (Source r) tt
node_sum w part p is g m can n (Flatten ins) at =
    append-nil (part (before g m) (reread (part_place g) (Flatten ins)))
    ∙ is.moved (before g m) m (part_place g) (Flatten ins)
    (before_part g m can ins (there_node g can n (Flatten ins) at))
node_sum w part p is g m can n (Pdo c f) at =
    row_total w part p is (before g m) (part_place g c) (m c)
    (ap m (is_parted g can c (there_node g can n (Pdo c f) at).0).back) g.next n 0 f
    (row_of f (step_at_node g can n c f at))
    ∙ sym (is.steps m c f)
node_sum w part p is g m can n (Gbk c o l b) at =
    append-nil (part (before g m) (reread (part_place g) (Gbk c o l b)))
    ∙ is.moved (before g m) m (part_place g) (Gbk c o l b)
    (before_part g m can (c ∷ []) (there_node g can n (Gbk c o l b) at))
node_sum w part p is g m can n (Barrier ins o l a) at =
    append-nil (part (before g m) (reread (part_place g) (Barrier ins o l a)))
    ∙ is.moved (before g m) m (part_place g) (Barrier ins o l a)
    (before_part g m can ins (there_node g can n (Barrier ins o l a) at))

sum_parts : {Y : Type 0} (F G : Entry → List Y) (k : ℕ) (r : Place → Place) (es : List Entry)
    → AllByRecursion (λ e. flat_map F (parts_of_node k e.number (reread r e.node)) ≡ G e) es
    → flat_map F (all_parts k r es) ≡ flat_map G es
sum_parts F G k r [] a = refl
sum_parts {Y = Y} F G k r (e ∷ es) a =
    flat_map-append F (parts_of_node k e.number (reread r e.node)) (all_parts k r es)
    ∙ ap (λ (xs : List Y). xs ++ flat_map F (all_parts k r es)) a.0
    ∙ ap (λ (xs : List Y). G e ++ xs) (sum_parts F G k r es a.1)

all_sum : {Y : Type 0} (w : World) (part : (Place → Collection) → Node → List Y)
    (p : Collection → Label → List Y) → IsSum w part p → (g : Graph) (m : Place → Collection)
    → CanPart g
    → flat_map (λ (h : Entry). part (before g m) h.node) (parted_nodes g)
    ≡ flat_map (λ (e : Entry). part m e.node) g.nodes
all_sum w part p is g m can =
    sum_parts (λ (h : Entry). part (before g m) h.node) (λ (e : Entry). part m e.node) g.next
    (part_place g) g.nodes
    (Each-weaker (λ (e : Entry). node_at g.nodes e.number ≡ Some e.node)
    (λ (e : Entry). flat_map (λ (h : Entry). part (before g m) h.node)
    (parts_of_node g.next e.number (reread (part_place g) e.node)) ≡ part m e.node)
    (λ e at. node_sum w part p is g m can e.number e.node at) g.nodes
    (each_found g.nodes can.ok.differ))

pub KeepsMeaning-parted : (g : Graph) → CanPart g → KeepsMeaning g (parted_graph g)
KeepsMeaning-parted g can w m meets = (
  before g m,
  each_part (λ (h : Entry). Holds w (before g m) h.number h.node) g can.ok.differ
      (λ n x at. node_holds w g m can n x at
      (all_found (λ (e : Entry). Holds w m e.number e.node) g.nodes n x at meets)),
  record {
    outputs = sym (map_reread (before g m) m (part_place g) g.outputs
        (before_part g m can g.outputs can.ok.told));
    own = λ i. ap bag_of
        (sym (all_sum w (λ m x. own w m i x) (step_own w i) (own_sum w i) g m can));
    traps = ap trap_set (sym (all_sum w (λ m x. traps w m x) (step_traps w) (traps_sum w) g m can));
  },
)

-- ---- types

typed_labels : (s : Signatures) (types : Place → Ty) (n : ℕ) (t : Ty) (f : Forest)
    → ForestTyped s types n t f
    → EachLabel (λ l. (u : Ty) × StepTyped s l.does l.at t u × OutTyped types n l.out u) f
typed_labels s types n t Bare a = tt
typed_labels s types n t (Grow l kids rest) a = (
  (a.0.0, a.0.1, a.0.2),
  typed_labels s types n t rest a.1,
)

typed_sole : (types new : Place → Ty) (n q : ℕ) (o : Option ℕ) (u : Ty)
    → new (place q 0) ≡ types (place n (label_old o)) → OutTyped types n o u
    → OutTyped new q (new_out 0 o) u
typed_sole types new n q None u e h = tt
typed_sole types new n q (Some j) u e h = e ∙ h

inputs_typed : (g : Graph) (types : Place → Ty) → CanPart g → (t u : Ty) → u ≡ t → (cs : List Place)
    → AllByRecursion (IsThere g.nodes) cs → AllByRecursion (λ c. types c ≡ t) cs
    → AllByRecursion (λ c. before g types c ≡ u) (map (part_place g) cs)
inputs_typed g types can t u e [] a b = tt
inputs_typed g types can t u e (c ∷ cs) a b = (
  ap types (is_parted g can c a.0).back ∙ b.0 ∙ sym e,
  inputs_typed g types can t u e cs a.1 b.1,
)

node_typed : (s : Signatures) (g : Graph) (types : Place → Ty) → CanPart g → (n : ℕ) (x : Node)
    → node_at g.nodes n ≡ Some x → NodeTyped s types n x
    → AllByRecursion (λ (h : Entry). NodeTyped s (before g types) h.number h.node)
    (parts_of_node g.next n (reread (part_place g) x))
node_typed s g types can n (Source r) at h = (
  ap types (back_same g can n 0 (Source r) at refl) ∙ h,
  tt,
)
node_typed s g types can n (Flatten ins) at h = (
  inputs_typed g types can (types (place n 0)) (before g types (place n 0))
      (ap types (back_same g can n 0 (Flatten ins) at refl)) ins
      (there_node g can n (Flatten ins) at) h,
  tt,
)
node_typed s g types can n (Pdo c f) at h =
    parts_hold g can n c f at (λ (e : Entry). NodeTyped s (before g types) e.number e.node)
    (λ l. (u : Ty) × StepTyped s l.does l.at (types c) u × OutTyped types n l.out u)
    (λ l b a. subst (λ (t : Ty).
    ForestTyped s (before g types) (part_number g.next n l.at) t (sole_output l))
    (sym (before_read g types can n c f at)) (
      (
        a.0,
        a.1,
        typed_sole types (before g types) n (part_number g.next n l.at) l.out a.0
            (ap types b) a.2,
        tt,
      ),
      tt,
    )) (typed_labels s types n (types c) f h)
node_typed s g types can n (Gbk c o l b) at h = (
  record {
    key = h.key;
    value = h.value;
    takes = ap types (is_parted g can c (there_node g can n (Gbk c o l b) at).0).back ∙ h.takes;
    gives = ap types (back_same g can n 0 (Gbk c o l b) at refl) ∙ h.gives;
  },
  tt,
)
node_typed s g types can n (Barrier ins o l d) at h = (
  subst (ActTyped s d (map (before g types) (map (part_place g) ins)))
      (sym (ap types (back_same g can n 0 (Barrier ins o l d) at refl)))
      (subst (λ (ts : List Ty). ActTyped s d ts (types (place n 0)))
      (sym (types_reread (before g types) types (part_place g) ins
      (before_part g types can ins (there_node g can n (Barrier ins o l d) at)))) h),
  tt,
)

pub KeepsTypes-parted : (g : Graph) → CanPart g → KeepsTypes g (parted_graph g)
KeepsTypes-parted g can s (types, fits) = (
  before g types,
  each_part (λ (h : Entry). NodeTyped s (before g types) h.number h.node) g can.ok.differ
      (λ n x at. node_typed s g types can n x at
      (all_found (λ (e : Entry). NodeTyped s types e.number e.node) g.nodes n x at fits)),
)
