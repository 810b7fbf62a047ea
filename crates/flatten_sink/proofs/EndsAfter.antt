-- The ends that are still known after a step are those of the graph after it.
use Rattle.std.proofs.Common.{◌≡◌, ℕ, ◌+◌, ◌-◌, ◌<◌, ◌≤◌, Bool, true, false, cond, eqb, ltb, List, [], ◌∷◌, length, Option, Some, None, zero, suc, refl, sym, ap, ◌∙◌, subst, arith}
use Rattle.std.proofs.lemmas.Bool.{eq-eqb, eqb-true, le-ltb}
use Rattle.std.specs.List.{AllByRecursion}
use Rattle.flume_value.proofs.EachLemmas.{Each-weaker}
use Rattle.exec_graph.specs.Forests.{Forest}
use Rattle.exec_graph.specs.Meaning.{place, node_at}
use Rattle.exec_graph.specs.Readers.{is_read}
use Rattle.exec_graph.specs.declared.graph.Place.{Place}
use Rattle.exec_graph.specs.declared.graph.Entry.{Entry}
use Rattle.exec_graph.specs.declared.graph.Graph.{Graph}
use Rattle.exec_graph.proofs.Entries.{all_map}
use Rattle.sink_laws.specs.of_graph_laws.Joining.{reread_entry}
use Rattle.sink_laws.specs.Chain.{after_call, forest_of, ins_of}
use Rattle.sink_laws.specs.Merging.{dropped}
use Rattle.sink_laws.specs.Sinking.{copied, copies, flatten_number, flattens, outputs_of, rerouted, sunk_once}
use Rattle.sink_laws.specs.declared.pair.Pair.{Pair}
use Rattle.sink_laws.proofs.of_graph_laws.Changes.{all_without}
use Rattle.sink_laws.proofs.of_graph_laws.Wellness.{reads_reread}
use Rattle.sink_laws.proofs.SinkFounded.{all_sunk}
use Rattle.flatten_sink.specs.inner.Ends.{AreEnds, AreWithin, IsWithin, known, unless_among}

-- ---- what is forgotten

none_by : (cs : List Place) (n : ℕ) (b : Bool) → unless_among cs n None ≡ None
    → unless_among cs n (cond b None None) ≡ None
none_by cs n true h = h
none_by cs n false h = h

none_left : (cs : List Place) (n : ℕ) → unless_among cs n None ≡ None
none_left [] n = refl
none_left (c ∷ cs) n = none_by cs n (eqb n c.node) (none_left cs n)

some_by : (o : Option ℕ) (k : ℕ) (b : Bool) → cond b None o ≡ Some k → o ≡ Some k
some_by o k true e = let bad : ⊥ = cc in absurd bad
some_by o k false e = e

some_left : (cs : List Place) (n : ℕ) (o : Option ℕ) (k : ℕ) → unless_among cs n o ≡ Some k
    → o ≡ Some k
some_left [] n o k e = e
some_left (c ∷ cs) n o k e =
    some_by o k (eqb n c.node) (some_left cs n (cond (eqb n c.node) None o) k e)

all_left : (cs : List Place) (o : ℕ → Option ℕ)
    → AllByRecursion (λ (c : Place). unless_among cs c.node (o c.node) ≡ None) cs
all_left [] o = tt
all_left (c ∷ cs) o = (
  subst (λ (b : Bool). unless_among cs c.node (cond b None (o c.node)) ≡ None)
      (sym (eq-eqb c.node c.node refl)) (none_left cs c.node),
  all_left cs (λ n. cond (eqb n c.node) None (o n)),
)

-- ---- along a step

abbrev IsUpto : (ℕ → Option ℕ) → ℕ → Place → Type 0
IsUpto ends n c = (k : ℕ) → ends c.node ≡ Some k → n < k

unknown : (ends : ℕ → Option ℕ) (n : ℕ) (c : Place) → ends c.node ≡ None → IsUpto ends n c
unknown ends n c h k e = let bad : ⊥ = cc in absurd bad

copied_within : (ends : ℕ → Option ℕ) (n m j : ℕ) (cs : List Place)
    → ((i : ℕ) → m ≤ i → ends i ≡ None) → AllByRecursion (IsUpto ends n) (copied m j cs)
copied_within ends n m j [] h = tt
copied_within ends n m j (c ∷ cs) h = (
  unknown ends n (place m j) (h m (omega arith)),
  copied_within ends n (m + 1) j cs (λ i l. h i (omega arith)),
)

copies_within : (ends : ℕ → Option ℕ) (n : ℕ) (f : Forest) (cs : List Place)
    → AllByRecursion (λ (c : Place). ends c.node ≡ None) cs
    → AllByRecursion (λ (e : Entry). IsWithin ends e.number e.node) (copies n f cs)
copies_within ends n f [] a = tt
copies_within ends n f (c ∷ cs) a =
    ((unknown ends n c a.0, tt), copies_within ends (n + 1) f cs a.1)

flattens_within : (ends : ℕ → Option ℕ) (n first : ℕ) (ins : List Place) (j r : ℕ)
    → ((i : ℕ) → first ≤ i → ends i ≡ None)
    → AllByRecursion (λ (e : Entry). IsWithin ends e.number e.node) (flattens n first ins j r)
flattens_within ends n first ins j zero h = tt
flattens_within ends n first ins j (suc r) h =
    (copied_within ends n first (suc j) ins h, flattens_within ends (n + 1) first ins (suc j) r h)

rerouted_within : (old ends : ℕ → Option ℕ) (n p base : ℕ) (c : Place) (b : Bool)
    → eqb c.node p ≡ b → ((i k : ℕ) → ends i ≡ Some k → old i ≡ Some k)
    → ((i : ℕ) → base ≤ i → ends i ≡ None) → IsUpto old n c
    → IsUpto ends n (cond b (place (flatten_number p base c.out) 0) c)
rerouted_within old ends n p base c false i less fresh h = λ k e. h k (less c.node k e)
rerouted_within old ends n p base c true i less fresh h = by c.out
  where
    by : (j : ℕ) → IsUpto ends n (place (flatten_number p base j) 0)
    by zero = λ k e.
        h k (subst (λ (m : ℕ). old m ≡ Some k) (sym (eqb-true c.node p i)) (less p k e))
    by (suc j) = unknown ends n (place (base + j) 0) (fresh (base + j) (omega arith))

sunk_within : (g : Graph) (p : ℕ) (f : Forest) (ins : List Place) (old ends : ℕ → Option ℕ)
    → ((i k : ℕ) → ends i ≡ Some k → old i ≡ Some k)
    → ((i : ℕ) → g.next ≤ i → ends i ≡ None)
    → AllByRecursion (λ (c : Place). ends c.node ≡ None) ins → AreWithin old g.nodes
    → AreWithin ends (sunk_once g p f ins).nodes
sunk_within g p f ins old ends less fresh gone a =
    let base : ℕ = g.next + length ins in
    let r : Place → Place = rerouted p base in
    all_sunk (λ (e : Entry). IsWithin ends e.number e.node) g p f ins
    (all_map (reread_entry r) (λ (e : Entry). IsWithin old e.number e.node)
    (λ (e : Entry). IsWithin ends e.number e.node)
    (λ e h. reads_reread (IsUpto old e.number) (IsUpto ends e.number) r
    (λ c u. rerouted_within old ends e.number p base c (eqb c.node p) refl less
    (λ i l. fresh i (omega arith)) u) e.node h) g.nodes a)
    (λ _. copied_within ends p g.next 0 ins fresh) (copies_within ends g.next f ins gone)
    (flattens_within ends base g.next ins 0 (outputs_of f - 1) fresh)

tidied_within : (ends : ℕ → Option ℕ) (h : Graph) (n : ℕ) (b : Bool) → AreWithin ends h.nodes
    → AreWithin ends (cond b h (dropped h n)).nodes
tidied_within ends h n true a = a
tidied_within ends h n false a =
    all_without (λ (e : Entry). IsWithin ends e.number e.node) h.nodes n a

tidied_next : (h : Graph) (n k : ℕ) (b : Bool) → k ≤ h.next → k ≤ (cond b h (dropped h n)).next
tidied_next h n k true l = l
tidied_next h n k false l = l

-- ---- the graph after the step

less_by : (a b : Option ℕ) (k : ℕ) (t : Bool) → (a ≡ Some k → b ≡ Some k)
    → cond t a None ≡ Some k → cond t b None ≡ Some k
less_by a b k true h e = h e
less_by a b k false h e = let bad : ⊥ = cc in absurd bad

gone_by : (a : Option ℕ) (t : Bool) → a ≡ None → cond t a None ≡ None
gone_by a true h = h
gone_by a false h = refl

pub ends_after : (g h : Graph) (c : Pair) (first : ℕ) (old new : ℕ → Option ℕ)
    → AreEnds g first old
    → ((n : ℕ) → new n ≡ unless_among (ins_of (node_at g.nodes c.flatten)) n (old n))
    → h ≡ after_call g c → AreEnds h first new
ends_after g h c first old new a e i =
    let f : Forest = forest_of (node_at g.nodes c.other) in
    let ins : List Place = ins_of (node_at g.nodes c.flatten) in
    let s : Graph = sunk_once g c.other f ins in
    let low : first ≤ g.next = a.low in
    let b : Bool = is_read s (place c.flatten 0) in
    let within : AreWithin (known first new) s.nodes =
    sunk_within g c.other f ins (known first old) (known first new)
    (λ n k. less_by (new n) (old n) k (ltb n first)
    (λ j. some_left ins n (old n) k (sym (e n) ∙ j)))
    (λ n l. ap (λ (t : Bool). cond t (new n) None) (le-ltb n first (omega arith)))
    (Each-weaker (λ (d : Place). unless_among ins d.node (old d.node) ≡ None)
    (λ (d : Place). known first new d.node ≡ None)
    (λ d j. gone_by (new d.node) (ltb d.node first) (e d.node ∙ j)) ins (all_left ins old))
    a.within in
    subst (λ (x : Graph). AreEnds x first new) (sym i) (record {
      low = tidied_next s c.flatten first b (omega arith);
      within = tidied_within (known first new) s c.flatten b within;
    })
