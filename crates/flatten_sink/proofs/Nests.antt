-- A step on a Pdo that no Flatten reads leaves no Flattens to merge.
use Rattle.std.proofs.Common.{◌≡◌, ℕ, ◌+◌, ◌-◌, ◌<◌, ◌≤◌, ◌⊎◌, Bool, true, false, cond, eqb, List, [], ◌∷◌, length, Option, Some, None, zero, suc, inl, inr, refl, sym, ap, ◌∙◌, subst, arith}
use Rattle.std.proofs.lemmas.Bool.{eq-eqb, false≢true}
use Rattle.std.specs.List.{list_any, AllByRecursion}
use Rattle.flume_value.proofs.EachLemmas.{Each-both}
use Rattle.exec_graph.specs.Forests.{Forest}
use Rattle.exec_graph.specs.Meaning.{place, node_at, reads, IsThere}
use Rattle.exec_graph.specs.Readers.{among, any_node, is_read, same_place}
use Rattle.exec_graph.specs.Wellformed.{IsGraphOk, most_nodes}
use Rattle.exec_graph.specs.declared.graph.Place.{Place}
use Rattle.exec_graph.specs.declared.graph.Node.{Node}
use Rattle.exec_graph.specs.declared.graph.Node.TheVariants.{Flatten}
use Rattle.exec_graph.specs.declared.graph.Entry.{Entry}
use Rattle.exec_graph.specs.declared.graph.Graph.{Graph}
use Rattle.exec_graph.proofs.Bools.{or_cases}
use Rattle.exec_graph.proofs.Entries.{all_found, all_map}
use Rattle.exec_graph.proofs.Solving.{each_found}
use Rattle.exec_graph.proofs.Soundness.{differ_ascends}
use Rattle.sink_laws.specs.of_graph_laws.Joining.{reread, reread_entry}
use Rattle.sink_laws.specs.Chain.{after_call, forest_of, ins_of, next_nest, CanSinkPdo, CanNest}
use Rattle.sink_laws.specs.Merging.{dropped, spliced, CanMerge}
use Rattle.sink_laws.specs.Sinking.{copied, copies, flattens, outputs_of, rerouted, sunk_once, CanSink}
use Rattle.sink_laws.specs.declared.pair.Pair.{Pair}
use Rattle.sink_laws.proofs.of_graph_laws.Changes.{all_without}
use Rattle.sink_laws.proofs.Choosing.{next_nest_can}
use Rattle.sink_laws.proofs.Nexts.{no_nest_left}
use Rattle.sink_laws.proofs.SinkFounded.{all_sunk, p_below}
use Rattle.sink_laws.proofs.SinkMeaning.{there_below}
use Rattle.sink_laws.proofs.Unread.{none_passes, same_true}
use Rattle.flatten_sink.specs.inner.Places.{gathers}
use Rattle.flatten_sink.proofs.Unread.{unread}

among_each : (P : Place → Type 0) (c : Place) (cs : List Place) → among c cs ≡ true
    → AllByRecursion P cs → P c
among_each P c [] h a = absurd (false≢true h)
among_each P c (d ∷ ds) h a =
    elim (or_cases (same_place c d) (among c ds) h) [
      | inl i ↦ subst P (sym (same_true c d i)) a.0
      | inr i ↦ among_each P c ds i a.1
    ]

-- ---- what the Flattens are after the step

-- A Flatten of copies, which have the numbers from low on.
record IsNew (p low base n : ℕ) (ins : List Place) : Type 0 where
  number : (n ≡ p) ⊎ (base ≤ n)
  copies : AllByRecursion (λ c. (low ≤ c.node) × (c.node < base)) ins

-- A Flatten stood there before, or is new.
abbrev IsKnown : Graph → ℕ → ℕ → ℕ → Node → Type 0
IsKnown g p base n (Flatten ins) =
    (node_at g.nodes n ≡ Some (Flatten ins)) ⊎ IsNew p g.next base n ins
IsKnown g p base n _ = Unit {0}

abbrev IsKnownEntry : Graph → ℕ → ℕ → Entry → Type 0
IsKnownEntry g p base e = IsKnown g p base e.number e.node

kept_known : (g : Graph) (p base n : ℕ) (x : Node) → node_at g.nodes n ≡ Some x
    → gathers p x ≡ false → IsKnown g p base n (reread (rerouted p base) x)
kept_known g p base n (Flatten ins) h t =
    inl (h ∙ ap (λ (l : List Place). Some (Flatten l)) (sym (unread p base ins t)))
kept_known g p base n _ h t = tt

copied_new : (low high n j : ℕ) (cs : List Place) → low ≤ n → n + length cs ≤ high
    → AllByRecursion (λ c. (low ≤ c.node) × (c.node < high)) (copied n j cs)
copied_new low high n j [] h l = tt
copied_new low high n j (c ∷ cs) h l = (
  (h, omega arith),
  copied_new low high (n + 1) j cs (omega arith) (omega arith),
)

copies_known : (g : Graph) (p base n : ℕ) (f : Forest) (cs : List Place)
    → AllByRecursion (IsKnownEntry g p base) (copies n f cs)
copies_known g p base n f [] = tt
copies_known g p base n f (c ∷ cs) = (tt, copies_known g p base (n + 1) f cs)

flattens_known : (g : Graph) (p base n : ℕ) (ins : List Place) (j r : ℕ) → base ≤ n
    → g.next + length ins ≤ base
    → AllByRecursion (IsKnownEntry g p base) (flattens n g.next ins j r)
flattens_known g p base n ins j zero h l = tt
flattens_known g p base n ins j (suc r) h l = (
  inr (record {
    number = inr h;
    copies = copied_new g.next base g.next (suc j) ins (omega arith) l;
  }),
  flattens_known g p base (n + 1) ins (suc j) r (omega arith) l,
)

all_known : (g : Graph) (n p : ℕ) (f : Forest) (ins : List Place) → IsGraphOk g
    → CanSink g n p f ins → any_node (gathers p) g.nodes ≡ false
    → AllByRecursion (IsKnownEntry g p (g.next + length ins)) (sunk_once g p f ins).nodes
all_known g n p f ins ok can none =
    let base : ℕ = g.next + length ins in
    let r : Place → Place = rerouted p base in
    all_sunk (IsKnownEntry g p base) g p f ins
    (all_map (reread_entry r) (λ (e : Entry). IsKnown g p base e.number (reread r e.node))
    (IsKnownEntry g p base) (λ e h. h) g.nodes
    (Each-both (λ (e : Entry). node_at g.nodes e.number ≡ Some e.node)
    (λ (e : Entry). gathers p e.node ≡ false)
    (λ (e : Entry). IsKnown g p base e.number (reread r e.node))
    (λ e h t. kept_known g p base e.number e.node h t) g.nodes
    (each_found g.nodes (differ_ascends g.nodes ok.founded.ascends))
    (none_passes (λ (e : Entry). gathers p e.node) g.nodes none)))
    (λ _. inr (record {
      number = inl refl;
      copies = copied_new g.next base g.next 0 ins (omega arith) (omega arith);
    }))
    (copies_known g p base g.next f ins)
    (flattens_known g p base base ins 0 (outputs_of f - 1) (omega arith) (omega arith))

-- ---- no copy is a Flatten

abbrev IsNoFlatten : Node → Type 0
IsNoFlatten (Flatten ins) = ⊥
IsNoFlatten _ = Unit {0}

abbrev IsApart : ℕ → ℕ → Entry → Type 0
IsApart low high e = low ≤ e.number → e.number < high → IsNoFlatten e.node

copies_apart : (low high n : ℕ) (f : Forest) (cs : List Place)
    → AllByRecursion (IsApart low high) (copies n f cs)
copies_apart low high n f [] = tt
copies_apart low high n f (c ∷ cs) = (λ a b. tt, copies_apart low high (n + 1) f cs)

flattens_apart : (low high n first : ℕ) (ins : List Place) (j r : ℕ) → high ≤ n
    → AllByRecursion (IsApart low high) (flattens n first ins j r)
flattens_apart low high n first ins j zero h = tt
flattens_apart low high n first ins j (suc r) h = (
  λ a b. absurd (omega arith),
  flattens_apart low high (n + 1) first ins (suc j) r (omega arith),
)

all_apart : (g : Graph) (n p : ℕ) (f : Forest) (ins : List Place) → IsGraphOk g
    → CanSink g n p f ins
    → AllByRecursion (IsApart g.next (g.next + length ins)) (sunk_once g p f ins).nodes
all_apart g n p f ins ok can =
    let base : ℕ = g.next + length ins in
    let low : p < g.next = p_below g n p f ins ok.founded.below can in
    all_sunk (IsApart g.next base) g p f ins
    (all_map (reread_entry (rerouted p base)) (λ (e : Entry). e.number < g.next)
    (IsApart g.next base) (λ e l a b. absurd (omega arith)) g.nodes ok.founded.below)
    (λ _ a b. absurd (omega arith)) (copies_apart g.next base g.next f ins)
    (flattens_apart g.next base base g.next ins 0 (outputs_of f - 1) (omega arith))

all_tidied : (P : Entry → Type 0) (h : Graph) (n : ℕ) (b : Bool) → AllByRecursion P h.nodes
    → AllByRecursion P (cond b h (dropped h n)).nodes
all_tidied P h n true a = a
all_tidied P h n false a = all_without P h.nodes n a

-- ---- what could be merged could be before

can_before : (g : Graph) (x : Pair) (ins es : List Place)
    → node_at g.nodes x.flatten ≡ Some (Flatten ins)
    → node_at g.nodes x.other ≡ Some (Flatten es) → among (place x.other 0) ins ≡ true
    → length (spliced x.other es ins) ≤ most_nodes → CanNest g x
can_before g x ins es a b n r =
    let p : ins_of (node_at g.nodes x.flatten) ≡ ins = ap ins_of a in
    let q : ins_of (node_at g.nodes x.other) ≡ es = ap ins_of b in
    subst (λ (l : List Place). CanMerge g x.flatten l x.other (ins_of (node_at g.nodes x.other)))
    (sym p) (subst (λ (l : List Place). CanMerge g x.flatten ins x.other l) (sym q)
    (record { outer = a; inner = b; nested = n; room = r }))

-- An input of a Flatten that stood before is no new one.
not_new : (g : Graph) (p base n q : ℕ) (ins es : List Place) → IsGraphOk g → g.next ≤ base
    → any_node (gathers p) g.nodes ≡ false → node_at g.nodes n ≡ Some (Flatten ins)
    → among (place q 0) ins ≡ true → IsNew p g.next base q es → ⊥
not_new g p base n q ins es ok l none at near new =
    let old : AllByRecursion (IsThere g.nodes) ins =
    all_found (λ e. AllByRecursion (IsThere g.nodes) (reads e.node)) g.nodes n (Flatten ins) at
    ok.founded.there in
    let low : q < g.next = there_below g (place q 0) ok.founded.below
    (among_each (IsThere g.nodes) (place q 0) ins near old) in
    let free : list_any (λ (c : Place). eqb c.node p) ins ≡ false =
    all_found (λ e. gathers p e.node ≡ false) g.nodes n (Flatten ins) at
    (none_passes (λ (e : Entry). gathers p e.node) g.nodes none) in
    let apart : eqb q p ≡ false =
    among_each (λ (c : Place). eqb c.node p ≡ false) (place q 0) ins near
    (none_passes (λ (c : Place). eqb c.node p) ins free) in
    elim new.number [
      | inl e ↦ false≢true (sym apart ∙ eq-eqb q p e)
      | inr h ↦ absurd (omega arith)
    ]

no_nest_by : (g : Graph) (p base : ℕ) (x : Pair) (ins es : List Place) → IsGraphOk g
    → g.next ≤ base → next_nest g.nodes ≡ None → any_node (gathers p) g.nodes ≡ false
    → among (place x.other 0) ins ≡ true → length (spliced x.other es ins) ≤ most_nodes
    → (g.next ≤ x.other → x.other < base → ⊥)
    → (node_at g.nodes x.flatten ≡ Some (Flatten ins)) ⊎ IsNew p g.next base x.flatten ins
    → (node_at g.nodes x.other ≡ Some (Flatten es)) ⊎ IsNew p g.next base x.other es → ⊥
no_nest_by g p base x ins es ok l e none near room apart (inl a) (inl b) =
    no_nest_left g e x (can_before g x ins es a b near room)
no_nest_by g p base x ins es ok l e none near room apart (inl a) (inr new) =
    not_new g p base x.flatten x.other ins es ok l none a near new
no_nest_by g p base x ins es ok l e none near room apart (inr new) b =
    let in_copies : (g.next ≤ x.other) × (x.other < base) =
    among_each (λ (c : Place). (g.next ≤ c.node) × (c.node < base)) (place x.other 0) ins near
    new.copies in apart in_copies.0 in_copies.1

no_nest : (g : Graph) (c x : Pair) → IsGraphOk g → CanSinkPdo g c → next_nest g.nodes ≡ None
    → any_node (gathers c.other) g.nodes ≡ false → CanNest (after_call g c) x → ⊥
no_nest g c x ok can e none nest =
    let f : Forest = forest_of (node_at g.nodes c.other) in
    let ins : List Place = ins_of (node_at g.nodes c.flatten) in
    let base : ℕ = g.next + length ins in
    let s : Graph = sunk_once g c.other f ins in
    let h : Graph = after_call g c in
    let known = all_tidied (IsKnownEntry g c.other base) s c.flatten
    (is_read s (place c.flatten 0)) (all_known g c.flatten c.other f ins ok can none) in
    let apart = all_tidied (IsApart g.next base) s c.flatten (is_read s (place c.flatten 0))
    (all_apart g c.flatten c.other f ins ok can) in
    no_nest_by g c.other base x (ins_of (node_at h.nodes x.flatten))
    (ins_of (node_at h.nodes x.other)) ok (omega arith) e none nest.nested nest.room
    (all_found (IsApart g.next base) h.nodes x.other
    (Flatten (ins_of (node_at h.nodes x.other))) nest.inner apart)
    (all_found (IsKnownEntry g c.other base) h.nodes x.flatten
    (Flatten (ins_of (node_at h.nodes x.flatten))) nest.outer known)
    (all_found (IsKnownEntry g c.other base) h.nodes x.other
    (Flatten (ins_of (node_at h.nodes x.other))) nest.inner known)

pub none_after : (g : Graph) (c : Pair) → IsGraphOk g → IsGraphOk (after_call g c) → CanSinkPdo g c
    → next_nest g.nodes ≡ None → any_node (gathers c.other) g.nodes ≡ false
    → next_nest (after_call g c).nodes ≡ None
none_after g c ok after can e none = by (next_nest (after_call g c).nodes) refl
  where
    by : (o : Option Pair) → next_nest (after_call g c).nodes ≡ o
        → next_nest (after_call g c).nodes ≡ None
    by None i = i
    by (Some x) i =
        absurd (no_nest g c x ok can e none (next_nest_can (after_call g c) after x i))
