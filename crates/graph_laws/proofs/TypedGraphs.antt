-- Types that fit a graph fit it after a rewrite of its Pdos.
use Rattle.std.proofs.Common.{◌≡◌, ℕ, eqb, List, [], ◌∷◌, map, Some, refl, sym, ◌∙◌, subst}
use Rattle.std.specs.List.{AllByRecursion}
use Rattle.exec_graph.specs.of_flume_types.declared.types.Ty.{Ty}
use Rattle.combine_table.proofs.of_flume_value.EachLemmas.{Each-both, Each-weaker}
use Rattle.exec_graph.specs.Forests.{Forest}
use Rattle.exec_graph.specs.Meaning.{place, node_at, reads, IsThere, IsSound}
use Rattle.exec_graph.specs.Typing.{ActTyped, Signatures, ForestTyped, KeepsTypes, NodeTyped}
use Rattle.exec_graph.specs.declared.graph.Place.{Place}
use Rattle.exec_graph.specs.declared.graph.Node.{Node}
use Rattle.exec_graph.specs.declared.graph.Node.TheVariants.{Source, Flatten, Pdo, Gbk, Barrier}
use Rattle.exec_graph.specs.declared.graph.Entry.{Entry}
use Rattle.exec_graph.specs.declared.graph.Graph.{Graph}
use Rattle.exec_graph.proofs.Entries.{entry, all_map, all_found}
use Rattle.graph_laws.specs.Joining.{set_node, without, moved, reread, reread_entry, joined_into, CanJoin}
use Rattle.graph_laws.specs.Kids.{moved_out, refitted}
use Rattle.graph_laws.proofs.Changes.{all_without, all_set_others, differ_without}
use Rattle.graph_laws.proofs.Joining.{joined_values, taken_over, elsewhere, own_stays, moved_same}
use Rattle.graph_laws.proofs.Refitting.{IsRefit, values, at_new, beyond, moved_by}
use Rattle.graph_laws.proofs.TypedForests.{typed_moved}

flat_typed : (types new : Place → Ty) (r : Place → Place) (t u : Ty) (cs : List Place) → u ≡ t
    → AllByRecursion (λ c. new (r c) ≡ types c) cs → AllByRecursion (λ c. types c ≡ t) cs
    → AllByRecursion (λ c. new c ≡ u) (map r cs)
flat_typed types new r t u [] e a b = tt
flat_typed types new r t u (c ∷ cs) e a b =
    (a.0 ∙ b.0 ∙ sym e, flat_typed types new r t u cs e a.1 b.1)

pub types_reread : (new types : Place → Ty) (r : Place → Place) (cs : List Place)
    → AllByRecursion (λ c. new (r c) ≡ types c) cs → map new (map r cs) ≡ map types cs
types_reread new types r [] a = refl
types_reread new types r (c ∷ cs) a =
    let i = types_reread new types r cs a.1 in let j : new (r c) ≡ types c = a.0 in cc

-- a node of another number that reads elsewhere collections of the same types
pub typed_at : (s : Signatures) (types new : Place → Ty) (r : Place → Place) (n i : ℕ) (x : Node)
    → AllByRecursion (λ c. new (r c) ≡ types c) (reads x)
    → ((j : ℕ) → new (place i j) ≡ types (place n j)) → NodeTyped s types n x
    → NodeTyped s new i (reread r x)
typed_at s types new r n i (Source z) a o h = o 0 ∙ h
typed_at s types new r n i (Flatten ins) a o h =
    flat_typed types new r (types (place n 0)) (new (place i 0)) ins (o 0) a h
typed_at s types new r n i (Pdo c f) a o h =
    subst (λ (t : Ty). ForestTyped s new i t f) (sym a.0)
    (typed_moved s types new n i (types c) f (λ j _. o j) h)
typed_at s types new r n i (Gbk c z l k) a o h = record {
  key = h.key;
  value = h.value;
  takes = a.0 ∙ h.takes;
  gives = o 0 ∙ h.gives;
}
typed_at s types new r n i (Barrier ins z l d) a o h =
    subst (ActTyped s d (map new (map r ins))) (sym (o 0))
    (subst (λ (ts : List Ty). ActTyped s d ts (types (place n 0)))
    (sym (types_reread new types r ins a)) h)

pub KeepsTypes-refitted : (g : Graph) (n : ℕ) (c : Place) (f new : Forest) (r : ℕ → ℕ)
    → IsSound g → node_at g.nodes n ≡ Some (Pdo c f) → IsRefit n f new r
    → KeepsTypes g (refitted g n c new r)
KeepsTypes-refitted g n c f new r ok at refit s (types, fits) =
    let k : Place → Ty = values types n refit.back in
    let mv : Place → Place = moved_out n r in
    let z : Node = Pdo c new in
    let R : Entry → Type 0 = λ e. AllByRecursion (λ x. k (mv x) ≡ types x) (reads e.node) in
    let reads_all : AllByRecursion R g.nodes =
    Each-weaker (λ (e : Entry). AllByRecursion (IsThere g.nodes) (reads e.node)) R
    (λ e a. Each-weaker (IsThere g.nodes) (λ x. k (mv x) ≡ types x)
    (λ x t. moved_by g types n c f new r refit at x (eqb x.node n) refl t) (reads e.node) a)
    g.nodes ok.there in
    let reads_n : R (entry n (Pdo c f)) = all_found R g.nodes n (Pdo c f) at reads_all in
    let at_n : ForestTyped s types n (types c) f =
    all_found (λ e. NodeTyped s types e.number e.node) g.nodes n (Pdo c f) at fits in
    let H : Entry → Type 0 = λ e. NodeTyped s k e.number (reread mv e.node) in
    let others : AllByRecursion (λ e. (e.number ≡ n → ⊥) → H e) g.nodes =
    Each-both (λ (e : Entry). NodeTyped s types e.number e.node) R
    (λ e. (e.number ≡ n → ⊥) → H e)
    (λ e a b apart. typed_at s types k mv e.number e.number e.node b
    (λ i. beyond types n refit.back (place e.number i) (eqb e.number n) refl apart) a) g.nodes fits
    reads_all in
    let here : H (entry n z) = subst (λ (t : Ty). ForestTyped s k n t new) (sym reads_n.0)
    (refit.typed s types k (types c) (λ j e. at_new types n f new r refit j e) at_n) in (
      k,
      all_map (reread_entry mv) H (λ e. NodeTyped s k e.number e.node) (λ e a. a)
          (set_node g.nodes n z) (all_set_others H g.nodes n z ok.differ others here),
    )

-- the joined forest is typed where both that it is made of are
abbrev pub JoinsTyped : ℕ → ℕ → Place → Place → Forest → Forest → Forest → Type 0
JoinsTyped p q c d f h new =
    (s : Signatures) (types : Place → Ty)
    → ForestTyped s (joined_values types p q h) p (types c) f
    → ForestTyped s (joined_values types p q h) p (types d) h
    → ForestTyped s (joined_values types p q h) p (types c) new

pub KeepsTypes-joined : (g : Graph) (p q : ℕ) (c d : Place) (f h new : Forest) → IsSound g
    → CanJoin g p q c d f h → JoinsTyped p q c d f h new → KeepsTypes g (joined_into g p q c new)
KeepsTypes-joined g p q c d f h new ok can joins s (types, fits) =
    let k : Place → Ty = joined_values types p q h in
    let r : Place → Place = moved p q in
    let z : Node = Pdo c new in
    let set : List Entry = set_node (without g.nodes q) p z in
    let R : Entry → Type 0 = λ e. AllByRecursion (λ x. k (r x) ≡ types x) (reads e.node) in
    let reads_all : AllByRecursion R g.nodes =
    Each-weaker (λ (e : Entry). AllByRecursion (IsThere g.nodes) (reads e.node)) R
    (λ e a. Each-weaker (IsThere g.nodes) (λ x. k (r x) ≡ types x)
    (λ x t. moved_same g types p q c d f h can x t) (reads e.node) a) g.nodes ok.there in
    let reads_p : R (entry p (Pdo c f)) = all_found R g.nodes p (Pdo c f) can.keeper reads_all in
    let reads_left : AllByRecursion R (without g.nodes q) = all_without R g.nodes q reads_all in
    let N : Entry → Type 0 = λ e. NodeTyped s types e.number e.node in
    let at_p : ForestTyped s types p (types c) f =
    all_found N g.nodes p (Pdo c f) can.keeper fits in
    let at_q : ForestTyped s types q (types d) h =
    all_found N g.nodes q (Pdo d h) can.other fits in
    let k_p : ForestTyped s k p (types c) f = typed_moved s types k p p (types c) f
    (λ i e. own_stays g types p q c d f h can i e) at_p in
    let k_q : ForestTyped s k p (types d) h = typed_moved s types k q p (types d) h
    (λ i e. taken_over types p q i h e) at_q in
    let H : Entry → Type 0 = λ e. NodeTyped s k e.number (reread r e.node) in
    let others : AllByRecursion (λ e. (e.number ≡ p → ⊥) → H e) (without g.nodes q) =
    Each-both N R (λ e. (e.number ≡ p → ⊥) → H e)
    (λ e a b apart. typed_at s types k r e.number e.number e.node b
    (λ i. elsewhere types p q h (place e.number i) (eqb e.number p) refl
    (λ i. absurd (apart i))) a)
    (without g.nodes q) (all_without N g.nodes q fits) reads_left in
    let here : H (entry p z) = subst (λ (t : Ty). ForestTyped s k p t new) (sym reads_p.0)
    (joins s types k_p k_q) in (
      k,
      all_map (reread_entry r) H (λ e. NodeTyped s k e.number e.node) (λ e a. a) set
          (all_set_others H (without g.nodes q) p z (differ_without g.nodes q ok.differ) others
          here),
    )
