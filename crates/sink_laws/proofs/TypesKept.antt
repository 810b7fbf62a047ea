-- Merges and steps keep types, and make no other steps.
use Rattle.std.proofs.Common.{◌≡◌, ℕ, ◌+◌, ◌-◌, ◌<◌, ◌≤◌, Bool, true, false, cond, ltb, eqb, List, [], ◌∷◌, Some, map, length, zero, suc, refl, sym, ap, ◌∙◌, subst, arith}
use Rattle.std.proofs.lemmas.Bool.{eqb-true, lt-ltb, le-ltb}
use Rattle.std.specs.List.{AllByRecursion}
use Rattle.flume_value.proofs.EachLemmas.{Each-weaker}
use Rattle.graph_laws.specs.of_flume_types.declared.types.Ty.{Ty}
use Rattle.graph_laws.specs.of_exec_graph.Forests.{Forest}
use Rattle.graph_laws.specs.of_exec_graph.Meaning.{place, node_at, reads, IsThere}
use Rattle.graph_laws.specs.of_exec_graph.Readers.{is_read}
use Rattle.graph_laws.specs.of_exec_graph.Typing.{Signatures, ForestTyped, NodeTyped, IsTyped}
use Rattle.graph_laws.specs.of_exec_graph.declared.graph.Place.{Place}
use Rattle.graph_laws.specs.of_exec_graph.declared.graph.Node.{Node}
use Rattle.graph_laws.specs.of_exec_graph.declared.graph.Node.TheVariants.{Flatten, Pdo}
use Rattle.graph_laws.specs.of_exec_graph.declared.graph.Entry.{Entry}
use Rattle.graph_laws.specs.of_exec_graph.declared.graph.Graph.{Graph}
use Rattle.graph_laws.specs.of_exec_graph.Wellformed.{IsGraphOk}
use Rattle.graph_laws.proofs.of_exec_graph.Entries.{all_found, all_map}
use Rattle.graph_laws.proofs.of_exec_graph.Solving.{each_found}
use Rattle.graph_laws.proofs.of_exec_graph.Soundness.{differ_ascends}
use Rattle.graph_laws.specs.Joining.{reread, reread_entry}
use Rattle.graph_laws.specs.Single.{AllSteps, HasSteps}
use Rattle.graph_laws.proofs.TypedForests.{typed_moved}
use Rattle.graph_laws.proofs.TypedGraphs.{typed_at}
use Rattle.graph_laws.proofs.Changes.{all_set, all_without}
use Rattle.sink_laws.specs.Kept.{IsOfPdo, KeepsSteps}
use Rattle.sink_laws.specs.Merging.{spliced, merged_flattens, dropped, tidied, merge_step, CanMerge}
use Rattle.sink_laws.specs.Sinking.{copies, copied, flattens, outputs_of, flatten_number, rerouted, sunk_once, sink_step, CanSink}
use Rattle.sink_laws.proofs.MergeMeaning.{all_spliced}
use Rattle.sink_laws.proofs.SinkFounded.{all_sunk, p_below}
use Rattle.sink_laws.proofs.SinkMeaning.{there_below}

-- ---- types after a step

abbrev pub new_types : (Place → Ty) → ℕ → ℕ → ℕ → Place → Ty
new_types types next base p c =
    cond (ltb c.node next) (types c)
    (cond (ltb c.node base) (types (place p c.out)) (types (place p (suc (c.node - base)))))

type_old : (types : Place → Ty) (next base p : ℕ) (c : Place) → c.node < next
    → new_types types next base p c ≡ types c
type_old types next base p c h = rw (lt-ltb c.node next h) refl

type_copy : (types : Place → Ty) (next base p n j : ℕ) → next ≤ n → n < base
    → new_types types next base p (place n j) ≡ types (place p j)
type_copy types next base p n j h l = rw (le-ltb n next h, lt-ltb n base l) refl

type_flatten : (types : Place → Ty) (next base p j : ℕ) → next ≤ base
    → new_types types next base p (place (base + j) 0) ≡ types (place p (suc j))
type_flatten types next base p j h =
    let e : (base + j) - base ≡ j = omega arith in
    rw (le-ltb (base + j) next (omega arith), le-ltb (base + j) base (omega arith), e) refl

type_number : (types : Place → Ty) (next base p j : ℕ) → next ≤ base → p < next
    → new_types types next base p (place (flatten_number p base j) 0) ≡ types (place p j)
type_number types next base p zero h l = type_old types next base p (place p 0) l
type_number types next base p (suc j) h l = type_flatten types next base p j h

type_by : (types : Place → Ty) (next base p : ℕ) (c : Place) (b : Bool) → eqb c.node p ≡ b
    → next ≤ base → p < next → c.node < next
    → new_types types next base p (cond b (place (flatten_number p base c.out) 0) c) ≡ types c
type_by types next base p c true i h l k =
    type_number types next base p c.out h l
    ∙ ap (λ (n : ℕ). types (place n c.out)) (sym (eqb-true c.node p i))
type_by types next base p c false i h l k = type_old types next base p c k

-- ---- nodes that read elsewhere

kept_typed : (s : Signatures) (types more : Place → Ty) (r : Place → Place) (es : List Entry)
    → AllByRecursion (λ e. AllByRecursion (λ c. more (r c) ≡ types c) (reads e.node)) es
    → AllByRecursion (λ e. (j : ℕ) → more (place e.number j) ≡ types (place e.number j)) es
    → AllByRecursion (λ e. NodeTyped s types e.number e.node) es
    → AllByRecursion (λ e. NodeTyped s more e.number e.node) (map (reread_entry r) es)
kept_typed s types more r [] a b h = tt
kept_typed s types more r (e ∷ es) a b h = (
  typed_at s types more r e.number e.number e.node a.0 b.0 h.0,
  kept_typed s types more r es a.1 b.1 h.1,
)

copied_typed : (types : Place → Ty) (next base p m j : ℕ) (u : Ty) (cs : List Place) → next ≤ m
    → m + length cs ≤ base → types (place p j) ≡ u
    → AllByRecursion (λ c. new_types types next base p c ≡ u) (copied m j cs)
copied_typed types next base p m j u [] h l e = tt
copied_typed types next base p m j u (c ∷ cs) h l e = (
  type_copy types next base p m j h (omega arith) ∙ e,
  copied_typed types next base p (m + 1) j u cs (omega arith) (omega arith) e,
)

copies_typed : (s : Signatures) (types : Place → Ty) (next base p m : ℕ) (f : Forest) (t : Ty)
    (cs : List Place) → next ≤ m → m + length cs ≤ base → ForestTyped s types p t f
    → AllByRecursion (λ c. types c ≡ t) cs → AllByRecursion (λ c. c.node < next) cs
    → AllByRecursion (λ e. NodeTyped s (new_types types next base p) e.number e.node)
    (copies m f cs)
copies_typed s types next base p m f t [] h l a b c = tt
copies_typed s types next base p m f t (d ∷ ds) h l a b c = (
  subst (λ (u : Ty). ForestTyped s (new_types types next base p) m u f)
      (sym (type_old types next base p d c.0 ∙ b.0))
      (typed_moved s types (new_types types next base p) p m t f
      (λ j _. type_copy types next base p m j h (omega arith)) a),
  copies_typed s types next base p (m + 1) f t ds (omega arith) (omega arith) a b.1 c.1,
)

flattens_typed : (s : Signatures) (types : Place → Ty) (next base p m : ℕ) (ins : List Place)
    (j r : ℕ) → next + length ins ≤ base → m ≡ base + j
    → AllByRecursion (λ e. NodeTyped s (new_types types next base p) e.number e.node)
    (flattens m next ins j r)
flattens_typed s types next base p m ins j zero h e = tt
flattens_typed s types next base p m ins j (suc r) h e = (
  copied_typed types next base p next (suc j) (new_types types next base p (place m 0)) ins
      (omega arith) h
      (sym (ap (λ (n : ℕ). new_types types next base p (place n 0)) e
      ∙ type_flatten types next base p j (omega arith))),
  flattens_typed s types next base p (m + 1) ins (suc j) r h (omega arith),
)

pub IsTyped-sunk : (s : Signatures) (g : Graph) (n p : ℕ) (f : Forest) (ins : List Place)
    → AllByRecursion (λ e. e.number < g.next) g.nodes
    → AllByRecursion (λ e. AllByRecursion (IsThere g.nodes) (reads e.node)) g.nodes
    → CanSink g n p f ins → IsTyped s g → IsTyped s (sunk_once g p f ins)
IsTyped-sunk s g n p f ins below there can typed =
    let types : Place → Ty = typed.0 in
    let base : ℕ = g.next + length ins in
    let more : Place → Ty = new_types types g.next base p in
    let r : Place → Place = rerouted p base in
    let l : p < g.next = p_below g n p f ins below can in
    let low : (cs : List Place) → AllByRecursion (IsThere g.nodes) cs
    → AllByRecursion (λ c. c.node < g.next) cs =
    λ cs a. Each-weaker (IsThere g.nodes) (λ c. c.node < g.next) (λ c t. there_below g c below t)
    cs a in
    let at_n : AllByRecursion (λ c. types c ≡ types (place n 0)) ins =
    all_found (λ e. NodeTyped s types e.number e.node) g.nodes n (Flatten ins) can.flatten
    typed.1 in
    let at_p : ForestTyped s types p (types (place n 0)) f =
    all_found (λ e. NodeTyped s types e.number e.node) g.nodes p (Pdo (place n 0) f) can.pdo
    typed.1 in (
      more,
      all_sunk (λ e. NodeTyped s more e.number e.node) g p f ins
          (kept_typed s types more r g.nodes
          (Each-weaker (λ (e : Entry). AllByRecursion (IsThere g.nodes) (reads e.node))
          (λ e. AllByRecursion (λ c. more (r c) ≡ types c) (reads e.node))
          (λ e a. Each-weaker (λ (c : Place). c.node < g.next) (λ c. more (r c) ≡ types c)
          (λ c k. type_by types g.next base p c (eqb c.node p) refl (omega arith) l k)
          (reads e.node) (low (reads e.node) a)) g.nodes there)
          (Each-weaker (λ (e : Entry). e.number < g.next)
          (λ (e : Entry). (j : ℕ) → more (place e.number j) ≡ types (place e.number j))
          (λ e k j. type_old types g.next base p (place e.number j) k) g.nodes below) typed.1)
          (λ _. copied_typed types g.next base p g.next 0 (more (place p 0)) ins (omega arith)
          (omega arith) (sym (type_old types g.next base p (place p 0) l)))
          (copies_typed s types g.next base p g.next f (types (place n 0)) ins (omega arith)
          (omega arith) at_p at_n
          (low ins (all_found (λ e. AllByRecursion (IsThere g.nodes) (reads e.node)) g.nodes n
          (Flatten ins) can.flatten there)))
          (flattens_typed s types g.next base p base ins 0 (outputs_of f - 1) (omega arith)
          (omega arith)),
    )

pub IsTyped-merged : (s : Signatures) (g : Graph) (f : ℕ) (ins : List Place) (e : ℕ)
    (es : List Place) → CanMerge g f ins e es → IsTyped s g
    → IsTyped s (merged_flattens g f ins e es)
IsTyped-merged s g f ins e es can typed =
    let types : Place → Ty = typed.0 in
    let at_f : AllByRecursion (λ c. types c ≡ types (place f 0)) ins =
    all_found (λ e. NodeTyped s types e.number e.node) g.nodes f (Flatten ins) can.outer
    typed.1 in
    let at_e : AllByRecursion (λ c. types c ≡ types (place e 0)) es =
    all_found (λ e. NodeTyped s types e.number e.node) g.nodes e (Flatten es) can.inner
    typed.1 in (
      types,
      all_set (λ e. NodeTyped s types e.number e.node) g.nodes f (Flatten (spliced e es ins))
          typed.1
          (all_spliced (λ c. types c ≡ types (place f 0)) e es ins
          (Each-weaker (λ (c : Place). types c ≡ types (place f 0))
          (λ (c : Place). (types c ≡ types (place f 0))
          × (c ≡ place e 0 → AllByRecursion (λ (d : Place). types d ≡ types (place f 0)) es))
          (λ c t. (
            t,
            λ i. Each-weaker (λ (d : Place). types d ≡ types (place e 0))
                (λ (d : Place). types d ≡ types (place f 0)) (λ d u. u ∙ sym (ap types i) ∙ t) es
                at_e,
          ))
          ins at_f)),
    )

typed_by : (s : Signatures) (g : Graph) (n : ℕ) (b : Bool) → IsTyped s g
    → IsTyped s (cond b g (dropped g n))
typed_by s g n true typed = typed
typed_by s g n false typed =
    (typed.0, all_without (λ e. NodeTyped s typed.0 e.number e.node) g.nodes n typed.1)

pub IsTyped-tidied : (s : Signatures) (g : Graph) (n : ℕ) → IsTyped s g → IsTyped s (tidied g n)
IsTyped-tidied s g n typed = typed_by s g n (is_read g (place n 0)) typed

-- ---- what holds of the steps of each Pdo

module _ (P : Forest → Type 0) where
  steps_reread : (r : Place → Place) (x : Node) → HasSteps P x → HasSteps P (reread r x)
  steps_reread r (Pdo c f) h = h
  steps_reread r _ h = tt

  copies_steps : (n : ℕ) (f : Forest) (cs : List Place) → P f
      → AllByRecursion (λ e. HasSteps P e.node) (copies n f cs)
  copies_steps n f [] h = tt
  copies_steps n f (c ∷ cs) h = (h, copies_steps (n + 1) f cs h)

  flattens_steps : (n first : ℕ) (ins : List Place) (j r : ℕ)
      → AllByRecursion (λ e. HasSteps P e.node) (flattens n first ins j r)
  flattens_steps n first ins j zero = tt
  flattens_steps n first ins j (suc r) = (tt, flattens_steps (n + 1) first ins (suc j) r)

  steps_by : (g : Graph) (n : ℕ) (b : Bool) → AllSteps P g → AllSteps P (cond b g (dropped g n))
  steps_by g n true u = u
  steps_by g n false u = all_without (λ e. HasSteps P e.node) g.nodes n u

  AllSteps-tidied : (g : Graph) (n : ℕ) → AllSteps P g → AllSteps P (tidied g n)
  AllSteps-tidied g n u = steps_by g n (is_read g (place n 0)) u

  pub AllSteps-sink_step : (g : Graph) (n p : ℕ) (f : Forest) (ins : List Place)
      → CanSink g n p f ins → AllSteps P g → AllSteps P (sink_step g n p f ins)
  AllSteps-sink_step g n p f ins can u =
      AllSteps-tidied (sunk_once g p f ins) n
      (all_sunk (λ e. HasSteps P e.node) g p f ins
      (all_map (reread_entry (rerouted p (g.next + length ins))) (λ (e : Entry). HasSteps P e.node)
      (λ (e : Entry). HasSteps P e.node)
      (λ e h. steps_reread (rerouted p (g.next + length ins)) e.node h) g.nodes u) (λ _. tt)
      (copies_steps g.next f ins
      (all_found (λ e. HasSteps P e.node) g.nodes p (Pdo (place n 0) f) can.pdo u))
      (flattens_steps (g.next + length ins) g.next ins 0 (outputs_of f - 1)))

  pub AllSteps-merge_step : (g : Graph) (f : ℕ) (ins : List Place) (e : ℕ) (es : List Place)
      → AllSteps P g → AllSteps P (merge_step g f ins e es)
  AllSteps-merge_step g f ins e es u =
      AllSteps-tidied (merged_flattens g f ins e es) e
      (all_set (λ e. HasSteps P e.node) g.nodes f (Flatten (spliced e es ins)) u tt)

-- ---- the steps are those of former Pdos

own_steps : (g : Graph) (n : ℕ) (x : Node) → node_at g.nodes n ≡ Some x → HasSteps (IsOfPdo g) x
own_steps g n (Pdo c f) at = record { number = n; input = c; at = at }
own_steps g n _ at = tt

pub KeepsSteps-self : (g : Graph) → IsGraphOk g → KeepsSteps g g
KeepsSteps-self g ok =
    Each-weaker (λ (e : Entry). node_at g.nodes e.number ≡ Some e.node)
    (λ e. HasSteps (IsOfPdo g) e.node) (λ e at. own_steps g e.number e.node at) g.nodes
    (each_found g.nodes (differ_ascends g.nodes ok.founded.ascends))

module _ (P : Forest → Type 0) where
  node_steps : (g : Graph) (x : Node) → AllSteps P g → HasSteps (IsOfPdo g) x → HasSteps P x
  node_steps g (Pdo c f) a h =
      all_found (λ e. HasSteps P e.node) g.nodes h.number (Pdo h.input f) h.at a
  node_steps g _ a h = tt

  pub AllSteps-kept : (g h : Graph) → KeepsSteps g h → AllSteps P g → AllSteps P h
  AllSteps-kept g h k a =
      Each-weaker (λ (e : Entry). HasSteps (IsOfPdo g) e.node) (λ e. HasSteps P e.node)
      (λ e s. node_steps g e.node a s) h.nodes k
