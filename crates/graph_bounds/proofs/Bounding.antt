-- The labels of a fused graph are those of the Pdos that are fused, and so are its sources.
use Rattle.std.proofs.Common.{◌≡◌, ℕ, ◌+◌, ◌<◌, ◌≤◌, ◌^◌, ◌⊎◌, Bool, true, false, cond, List, [], ◌∷◌, map, length, Option, Some, None, zero, suc, refl, sym, ap, ◌∙◌, inl, inr, arith}
use Rattle.std.specs.List.{AllByRecursion, flat_map}
use Rattle.flume_value.proofs.EachLemmas.{Each-append, Each-both}
use Rattle.sink_laws.specs.of_exec_graph.Forests.{Forest, Bare, Grow, next_after, after_out, numbered}
use Rattle.sink_laws.specs.of_exec_graph.Meaning.{node_at}
use Rattle.sink_laws.specs.of_exec_graph.Readers.{readers}
use Rattle.sink_laws.specs.of_exec_graph.declared.graph.Input.{Input}
use Rattle.sink_laws.specs.of_exec_graph.declared.graph.Act.{Act}
use Rattle.sink_laws.specs.of_exec_graph.declared.graph.Place.{Place}
use Rattle.sink_laws.specs.of_exec_graph.declared.graph.Node.{Node}
use Rattle.sink_laws.specs.of_exec_graph.declared.graph.Node.TheVariants.{Source, Flatten, Pdo, Gbk, Barrier}
use Rattle.sink_laws.specs.of_exec_graph.declared.graph.Entry.{Entry}
use Rattle.sink_laws.specs.of_exec_graph.declared.graph.Graph.{Graph}
use Rattle.sink_laws.specs.of_exec_graph.declared.graph.Blocked.{Blocked}
use Rattle.sink_laws.specs.of_exec_graph.ObjectFree.{IsNodeFree, IsObjectFree}
use Rattle.sink_laws.proofs.of_exec_graph.Entries.{all_found, all_map}
use Rattle.sink_laws.specs.of_graph_laws.Joining.{reread}
use Rattle.sink_laws.specs.of_graph_laws.Lifting.{lifted}
use Rattle.sink_laws.specs.Chain.{IsSunk}
use Rattle.pardo_fuse.specs.Fusing.{finished_entry, forest_over, fused, fused_by_parents, hanging, hung, trees_in_turn, joined_by, kept_nodes, kept_of, kids_on, leads, least_of, moved_to, step_in, with_numbers}
use Rattle.pardo_fuse.specs.Renumbering.{at_number, entries_in_order, renumbered_entry}
use Rattle.pardo_fuse.proofs.Sorting.{order_all}
use Rattle.pardo_fuse.proofs.Parting.{IsRow, row_of}
use Rattle.pardo_fuse.specs.Readers.{Cut, cut_of}
use Rattle.sink_laws.specs.of_graph_laws.Single.{HasSteps, IsOneStep, most_outputs, width}
use Rattle.pardo_fuse.specs.Wellformed.{IsFusible}
use Rattle.plan_rules.specs.Fitting.{HasFewOutputs, HasSourcesBelow, IsInBounds, IsNarrow, IsSourceBelow, SourcesAgree}
use Rattle.graph_bounds.specs.Sources.{AreOfKinds, HasKinds, BringSuch, BringsSuch, OfSource}
use Rattle.graph_bounds.proofs.Sourcing.{node_reread, such_lifted, such_sunk}

pub numbered_few : (m s : ℕ) (f : Forest) → HasFewOutputs m f → HasFewOutputs m (numbered s f)
numbered_few m s Bare h = tt
numbered_few m s (Grow l kids rest) h = (
  h.0,
  numbered_few 0 (after_out s l.out) kids h.1,
  numbered_few (l.at + 1) (next_after (after_out s l.out) kids) rest h.2,
)

-- ---- trees

-- a step of a Pdo, with few outputs
abbrev AreFew : List Entry → Type 0
AreFew es = AllByRecursion (λ (e : Entry). HasSteps (λ f. IsRow 0 f × (width f ≤ 8)) e.node) es

-- outputs from place i on; what stands before them has as many
hung_few : (b : Cut) (n i m : ℕ) (over : Option ℕ → Forest) (f rest : Forest) → IsRow i f
    → i + width f ≤ 8 → (i ≡ 0) ⊎ (m ≡ i) → ((o : Option ℕ) → HasFewOutputs 0 (over o))
    → ((q : ℕ) → HasFewOutputs q rest) → HasFewOutputs m (hung b n over f rest)
hung_few b n i m over Bare rest r w c h g = g m
hung_few b n i m over (Grow l kids more) rest r w c h g = (
  by c,
  h l.out,
  hung_few b n (suc i) (l.at + 1) over more rest r.2 (omega arith)
      (inr (let e = r.0 in omega arith)) h g,
)
  where
    by : (i ≡ 0) ⊎ (m ≡ i) → (l.at ≡ 0) ⊎ ((l.at ≡ m) × (m < 8))
    by (inl z) = inl (r.0 ∙ z)
    by (inr z) = inr (r.0 ∙ sym z, omega arith)

step_few : (es : List Entry) (n : ℕ) (o : Option Node) → AreFew es → node_at es n ≡ o
    → IsRow 0 (step_in o) × (width (step_in o) ≤ 8)
step_few es n None a h = (tt, omega arith)
step_few es n (Some (Source r)) a h = (tt, omega arith)
step_few es n (Some (Flatten ins)) a h = (tt, omega arith)
step_few es n (Some (Gbk c o l k)) a h = (tt, omega arith)
step_few es n (Some (Barrier ins o l d)) a h = (tt, omega arith)
step_few es n (Some (Pdo c f)) a h =
    all_found (λ (e : Entry). HasSteps (λ f. IsRow 0 f × (width f ≤ 8)) e.node) es n (Pdo c f) h a

turn_few : (b : Cut) (over : ℕ → Option ℕ → Forest) → AreFew b.graph.nodes
    → ((n : ℕ) (o : Option ℕ) → HasFewOutputs 0 (over n o)) → (ns : List ℕ) (m : ℕ)
    → HasFewOutputs m
    (trees_in_turn (λ n rest. hung b n (over n) (step_in (node_at b.graph.nodes n)) rest) ns)
turn_few b over a h [] m = tt
turn_few b over a h (n ∷ ns) m =
    let s = step_few b.graph.nodes n (node_at b.graph.nodes n) a refl in
    let w = s.1 in
    hung_few b n 0 m (over n) (step_in (node_at b.graph.nodes n))
    (trees_in_turn (λ n rest. hung b n (over n) (step_in (node_at b.graph.nodes n)) rest) ns)
    s.0 (omega arith) (inl refl) (h n) (turn_few b over a h ns)

trees_few : (b : Cut) (k : ℕ) (ns : List ℕ) (m : ℕ) → AreFew b.graph.nodes
    → HasFewOutputs m (hanging b k ns)
unfolding hanging
trees_few b zero ns m a = tt
trees_few b (suc k) ns m a =
    turn_few b (λ n o. hanging b k (kids_on b n o)) a
    (λ n o. trees_few b k (kids_on b n o) 0 a) ns m

-- ---- nodes that are left

abbrev IsLeft : (Input ⊎ Act → Type 0) → Node → Type 0
IsLeft n (Source r) = n (inl r)
IsLeft n (Flatten ins) = Unit {0}
IsLeft n (Pdo c f) = HasFewOutputs 0 f
IsLeft n (Gbk c o l k) = Unit {0}
IsLeft n (Barrier ins o l a) = n (inr a)

left_good : (b : Cut) (n : Input ⊎ Act → Type 0) (k : ℕ) (x : Node) → AreFew b.graph.nodes
    → BringsSuch n x
    → AllByRecursion (λ e. IsLeft n e.node) (kept_of b k x)
left_good b n k (Source r) a h = (h, tt)
left_good b n k (Flatten ins) a h = (tt, tt)
left_good b n k (Gbk c o l m) a h = (tt, tt)
left_good b n k (Barrier ins i l d) a h = (h, tt)
left_good b n k (Pdo c f) a h =
    elim (leads b k c) as (λ s. AllByRecursion (λ (e : Entry). IsLeft n e.node) (cond s (record {
      number = k;
      node = Pdo c (forest_over b c);
    } ∷ []) [])) [
      | true ↦ (trees_few b (length b.graph.nodes) (readers b.graph.nodes c) 0 a, tt)
      | false ↦ tt
    ]

all_left : (b : Cut) (n : Input ⊎ Act → Type 0) (es : List Entry) → AreFew b.graph.nodes
    → AllByRecursion (λ e. BringsSuch n e.node) es
    → AllByRecursion (λ e. IsLeft n e.node) (flat_map (λ e. kept_of b e.number e.node) es)
all_left b n [] a h = tt
all_left b n (e ∷ es) a h =
    Each-append (λ e. IsLeft n e.node) (kept_of b e.number e.node)
    (flat_map (λ e. kept_of b e.number e.node) es)
    (left_good b n e.number e.node a h.0) (all_left b n es a h.1)

-- ---- the fused nodes

node_below : (r : Place → Place) (n : Input ⊎ Act → Type 0) (x : Node) → IsLeft n x
    → BringsSuch n (reread r (with_numbers x))
node_below r n (Source s) h = h
node_below r n (Flatten ins) h = tt
node_below r n (Pdo c f) h = tt
node_below r n (Gbk c o l k) h = tt
node_below r n (Barrier ins o l a) h = h

node_narrow : (r : Place → Place) (n : Input ⊎ Act → Type 0) (x : Node) → IsLeft n x
    → IsNarrow (reread r (with_numbers x))
node_narrow r n (Source s) h = tt
node_narrow r n (Flatten ins) h = tt
node_narrow r n (Pdo c f) h = numbered_few 0 0 f h
node_narrow r n (Gbk c o l k) h = tt
node_narrow r n (Barrier ins o l a) h = tt

all_below : (r : Place → Place) (n : Input ⊎ Act → Type 0) (hs : List Entry)
    → AllByRecursion (λ e. IsLeft n e.node) hs
    → AllByRecursion (λ e. BringsSuch n e.node) (map (finished_entry r) hs)
all_below r n [] a = tt
all_below r n (h ∷ hs) a = (node_below r n h.node a.0, all_below r n hs a.1)

all_narrow : (r : Place → Place) (n : Input ⊎ Act → Type 0) (hs : List Entry)
    → AllByRecursion (λ e. IsLeft n e.node) hs
    → AllByRecursion (λ e. IsNarrow e.node) (map (finished_entry r) hs)
all_narrow r n [] a = tt
all_narrow r n (h ∷ hs) a = (node_narrow r n h.node a.0, all_narrow r n hs a.1)

few : (b : Blocked) → IsFusible b → AreFew b.graph.nodes
few b fu = Each-both (λ (e : Entry). HasSteps IsOneStep e.node)
    (λ (e : Entry). HasSteps (λ f. width f ≤ most_outputs) e.node)
    (λ (e : Entry). HasSteps (λ f. IsRow 0 f × (width f ≤ 8)) e.node)
    (λ e s w. by e.node s w) b.graph.nodes fu.unfused fu.narrow
  where
    by : (x : Node) → HasSteps IsOneStep x → HasSteps (λ f. width f ≤ most_outputs) x
        → HasSteps (λ f. IsRow 0 f × (width f ≤ 8)) x
    by (Source r) s w = tt
    by (Flatten ins) s w = tt
    by (Pdo c f) s w = (row_of f s, w)
    by (Gbk c o l k) s w = tt
    by (Barrier ins o l a) s w = tt

such_parents : (n : Input ⊎ Act → Type 0) (b : Blocked) → IsFusible b → BringSuch n b.graph.nodes
    → BringSuch n (fused_by_parents b).graph.nodes
unfolding joined_by
such_parents n b can h =
    let hs : List Entry = kept_nodes (cut_of b) in
    all_below (moved_to hs) n hs (all_left (cut_of b) n b.graph.nodes (few b can) h)

narrow_parents : (n : Input ⊎ Act → Type 0) (b : Blocked) → IsFusible b
    → BringSuch n b.graph.nodes
    → AllByRecursion (λ e. IsNarrow e.node) (fused_by_parents b).graph.nodes
unfolding joined_by
narrow_parents n b can h =
    let hs : List Entry = kept_nodes (cut_of b) in
    all_narrow (moved_to hs) n hs (all_left (cut_of b) n b.graph.nodes (few b can) h)

-- ---- under other numbers

narrow_reread : (r : Place → Place) (x : Node) → IsNarrow x → IsNarrow (reread r x)
narrow_reread r (Source s) h = h
narrow_reread r _ h = h

-- what holds of nodes, whatever they read, holds of them under other numbers
all_renumbered : (P : Node → Type 0) → ((r : Place → Place) (x : Node) → P x → P (reread r x))
    → (l : ℕ → ℕ) (es : List Entry) → AllByRecursion (λ e. P e.node) es
    → AllByRecursion (λ e. P e.node) (entries_in_order (map (renumbered_entry l) es))
all_renumbered P still l es a =
    order_all (λ e. P e.node) (map (renumbered_entry l) es)
    (all_map (renumbered_entry l) (λ e. P e.node) (λ e. P e.node)
    (λ e h. still (at_number l) e.node h) es a)

such_fused : (n : Input ⊎ Act → Type 0) (b : Blocked) → IsFusible b → BringSuch n b.graph.nodes
    → BringSuch n (fused b).graph.nodes
such_fused n b can h =
    all_renumbered (BringsSuch n) (node_reread n) (least_of (cut_of b))
    (fused_by_parents b).graph.nodes (such_parents n b can h)

narrow_fused : (n : Input ⊎ Act → Type 0) (b : Blocked) → IsFusible b → BringSuch n b.graph.nodes
    → AllByRecursion (λ e. IsNarrow e.node) (fused b).graph.nodes
narrow_fused n b can h =
    all_renumbered IsNarrow narrow_reread (least_of (cut_of b))
    (fused_by_parents b).graph.nodes (narrow_parents n b can h)

-- ---- the bounds
pub such_below : (n : ℕ) (es : List Entry) → AllByRecursion (λ e. IsSourceBelow n e.node) es
    → BringSuch (OfSource (λ r. r.number < n)) es
such_below n [] h = tt
such_below n (e ∷ es) h = (node_such n e.node h.0, such_below n es h.1)
  where
    node_such : (n : ℕ) (x : Node) → IsSourceBelow n x → BringsSuch (OfSource (λ r. r.number < n)) x
    node_such n (Source s) i = i
    node_such n (Flatten ins) i = tt
    node_such n (Pdo c f) i = tt
    node_such n (Gbk c o l k) i = tt
    node_such n (Barrier ins o l a) i = tt

pub below_such : (n : ℕ) (es : List Entry) → BringSuch (OfSource (λ r. r.number < n)) es
    → AllByRecursion (λ e. IsSourceBelow n e.node) es
below_such n [] h = tt
below_such n (e ∷ es) h = (such_node n e.node h.0, below_such n es h.1)
  where
    such_node : (n : ℕ) (x : Node) → BringsSuch (OfSource (λ r. r.number < n)) x → IsSourceBelow n x
    such_node n (Source s) i = i
    such_node n _ i = tt

pub sources_sunk : (n : ℕ) (g h : Graph) → IsSunk g h → HasSourcesBelow n g
    → HasSourcesBelow n h
sources_sunk n g h k s =
    below_such n h.nodes (such_sunk (OfSource (λ r. r.number < n)) g h k (such_below n g.nodes s))

pub sources_lifted : (n : ℕ) (g : Graph) → HasSourcesBelow n g → HasSourcesBelow n (lifted g)
sources_lifted n g h =
    below_such n (lifted g).nodes
    (such_lifted (OfSource (λ r. r.number < n)) g (such_below n g.nodes h))

pub sources_fused : (n : ℕ) (b : Blocked) → IsFusible b → HasSourcesBelow n b.graph
    → HasSourcesBelow n (fused b).graph
sources_fused n b can h =
    below_such n (fused b).graph.nodes
    (such_fused (OfSource (λ r. r.number < n)) b can (such_below n b.graph.nodes h))

-- sources of one number are of one kind
pub kinds_agree : (kind : ℕ → Bool) (g : Graph) → HasKinds kind g → SourcesAgree g.nodes
kinds_agree kind g h n m r s a b e =
    let P : Input ⊎ Act → Type 0 = OfSource (λ r. r.is_object ≡ kind r.number) in
    all_found (λ e. BringsSuch P e.node) g.nodes n (Source r) a h
    ∙ ap kind e
    ∙ sym (all_found (λ e. BringsSuch P e.node) g.nodes m (Source s) b h)

pub kinds_fused : (kind : ℕ → Bool) (b : Blocked) → IsFusible b → HasKinds kind b.graph
    → HasKinds kind (fused b).graph
kinds_fused kind b can h = such_fused (OfSource (λ r. r.is_object ≡ kind r.number)) b can h

pub kinds_sunk : (kind : ℕ → Bool) (g h : Graph) → IsSunk g h → HasKinds kind g → HasKinds kind h
kinds_sunk kind g h k s = such_sunk (OfSource (λ r. r.is_object ≡ kind r.number)) g h k s

pub kinds_lifted : (kind : ℕ → Bool) (g : Graph) → HasKinds kind g → HasKinds kind (lifted g)
kinds_lifted kind g h = such_lifted (OfSource (λ r. r.is_object ≡ kind r.number)) g h

-- ---- graphs without objects

-- no source is an object, and there is no act
abbrev pub IsFree : Input ⊎ Act → Type 0
IsFree (inl r) = r.is_object ≡ false
IsFree (inr a) = ⊥

pub free_such : (es : List Entry) → AllByRecursion (λ e. IsNodeFree e.node) es → BringSuch IsFree es
free_such [] h = tt
free_such (e ∷ es) h = (node_such e.node h.0, free_such es h.1)
  where
    node_such : (x : Node) → IsNodeFree x → BringsSuch IsFree x
    node_such (Source s) i = i
    node_such (Flatten ins) i = tt
    node_such (Pdo c f) i = tt
    node_such (Gbk c o l k) i = tt
    node_such (Barrier ins o l a) i = i

pub such_free : (es : List Entry) → BringSuch IsFree es → AllByRecursion (λ e. IsNodeFree e.node) es
such_free [] h = tt
such_free (e ∷ es) h = (such_node e.node h.0, such_free es h.1)
  where
    such_node : (x : Node) → BringsSuch IsFree x → IsNodeFree x
    such_node (Source s) i = i
    such_node (Barrier ins o l a) i = i
    such_node _ i = tt

pub free_sunk : (g h : Graph) → IsSunk g h → IsObjectFree g → IsObjectFree h
free_sunk g h k s = such_free h.nodes (such_sunk IsFree g h k (free_such g.nodes s))

pub free_lifted : (g : Graph) → IsObjectFree g → IsObjectFree (lifted g)
free_lifted g h = such_free (lifted g).nodes (such_lifted IsFree g (free_such g.nodes h))

pub free_fused : (b : Blocked) → IsFusible b → IsObjectFree b.graph → IsObjectFree (fused b).graph
free_fused b can h =
    such_free (fused b).graph.nodes (such_fused IsFree b can (free_such b.graph.nodes h))

-- where no source is an object, no number is that of one
free_kinds : (es : List Entry) → AllByRecursion (λ e. IsNodeFree e.node) es
    → BringSuch (OfSource (λ r. r.is_object ≡ false)) es
free_kinds [] h = tt
free_kinds (e ∷ es) h = (node_kind e.node h.0, free_kinds es h.1)
  where
    node_kind : (x : Node) → IsNodeFree x → BringsSuch (OfSource (λ r. r.is_object ≡ false)) x
    node_kind (Source s) i = i
    node_kind (Flatten ins) i = tt
    node_kind (Pdo c f) i = tt
    node_kind (Gbk c o l k) i = tt
    node_kind (Barrier ins o l a) i = tt

pub kinds_free : (g : Graph) → IsObjectFree g → AreOfKinds g
kinds_free g h = ((λ n. false), free_kinds g.nodes h)

pub bounds_fused : (n : ℕ) (kind : ℕ → Bool) (b : Blocked) → IsFusible b
    → HasSourcesBelow n b.graph → HasKinds kind b.graph → (fused b).graph.next < 2 ^ 32
    → IsInBounds n (fused b).graph
bounds_fused n kind b can h k few = record {
  below = sources_fused n b can h;
  agree = kinds_agree kind (fused b).graph (kinds_fused kind b can k);
  numbers = few;
  narrow = narrow_fused (OfSource (λ r. r.number < n)) b can (such_below n b.graph.nodes h);
}
