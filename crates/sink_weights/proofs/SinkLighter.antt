-- A step makes the script outputs and what nothing reads lighter.
use Rattle.std.proofs.Common.{◌≡◌, ℕ, ◌+◌, ◌-◌, ◌<◌, ◌≤◌, Bool, true, false, eqb, List, [], ◌∷◌, ◌++◌, None, length, zero, suc, refl, sym, ap, ◌∙◌, subst, arith, inl, inr}
use Rattle.std.proofs.lemmas.Bool.{eqb-true, eq-eqb, false≢true}
use Rattle.std.specs.List.{AllByRecursion}
use Rattle.flume_value.proofs.EachLemmas.{Each-weaker}
use Rattle.sink_laws.specs.of_exec_graph.Forests.{Forest}
use Rattle.sink_laws.specs.of_exec_graph.Meaning.{place, reads, IsThere}
use Rattle.sink_laws.specs.of_exec_graph.Readers.{any_node}
use Rattle.sink_laws.specs.of_exec_graph.Wellformed.{IsGraphOk}
use Rattle.sink_laws.specs.of_exec_graph.declared.graph.Place.{Place}
use Rattle.sink_laws.specs.of_exec_graph.declared.graph.Node.TheVariants.{Flatten, Pdo}
use Rattle.sink_laws.specs.of_exec_graph.declared.graph.Entry.{Entry}
use Rattle.sink_laws.specs.of_exec_graph.declared.graph.Graph.{Graph}
use Rattle.sink_laws.proofs.of_exec_graph.Bools.{not_true, or_cases}
use Rattle.sink_laws.proofs.of_exec_graph.Entries.{all_found, all_map}
use Rattle.sink_laws.proofs.of_exec_graph.Soundness.{differ_ascends}
use Rattle.sink_laws.specs.of_graph_laws.Joining.{reread_entry, without}
use Rattle.sink_laws.proofs.of_graph_laws.Wellness.{differ_map, gives_of}
use Rattle.sink_laws.specs.Sinking.{copies, copied, flattens, first_flatten, instead, outputs_of, rerouted, sunk_once, sink_step, CanSink}
use Rattle.sink_laws.proofs.Outs.{has_below, has_from}
use Rattle.sink_laws.proofs.Readership.{all_instead_others}
use Rattle.sink_laws.proofs.SinkFounded.{ascends_sunk, first_nodes, kept_nodes, last_nodes, kept_at}
use Rattle.sink_weights.specs.Weights.{weights_at, weight, is_of, is_node_read, unread_weight, total_weight}
use Rattle.sink_weights.proofs.Roots.{node_of_place, reader_of, reads_of}
use Rattle.sink_weights.proofs.SinkReads.{copy_read, forest_ok, number_read, still_read}
use Rattle.sink_weights.proofs.Sums.{IsTidied, IsTidied-tidied, left, left_below, left_le, left_read, left_unread, skipping, skipping_below, unread_is, weigh, weigh_append, weigh_at, weigh_every, weigh_le, weigh_lt, weigh_map, weigh_none, weigh_set}
use Rattle.sink_weights.proofs.Enough.{enough, copies_weigh}
use Rattle.sink_weights.proofs.SinkPlaces.{IsLow, new_below, new_outputs, no_more, old_outputs, outputs_le, outputs_lt, root, weight_p}

module _ (g : Graph) (n p : ℕ) (f : Forest) (ins : List Place) (ok : IsGraphOk g)
    (can : CanSink g n p f ins) (t : Graph) (tidy : IsTidied (sunk_once g p f ins) t n) where
  abbrev e : ℕ → ℕ
  e = enough (weight g.nodes) g.next p ins

  abbrev rr : Place → Place
  rr = rerouted p (g.next + length ins)

  abbrev old : ℕ
  old = old_outputs g n p f ins ok can t tidy

  abbrev new : ℕ
  new = new_outputs g n p f ins ok can t tidy

  abbrev v : ℕ → ℕ
  v = skipping n (left t (weight t.nodes))

  abbrev w : ℕ → ℕ
  w = left g (weight g.nodes)

  abbrev new_left : ℕ
  new_left = unread_weight (weight t.nodes) t t.nodes

  abbrev old_left : ℕ
  old_left = unread_weight (weight g.nodes) g g.nodes

  -- A node that stood there, but p.
  old_left_le : (q : ℕ) → (q ≡ p → ⊥) → q < g.next → v q ≤ w q
  old_left_le q apart l =
      left_le g t (weight g.nodes) (weight t.nodes) n q (no_more g n p f ins ok can t tidy q l)
      (λ a i. still_read g n p f ins ok can t tidy q apart a i)

  -- New nodes are read, where p has outputs.
  none_left : (q : ℕ) → is_node_read t q ≡ true → v q ≡ 0
  none_left q h =
      let a = skipping_below n q (left t (weight t.nodes)) in
      let b = left_read t (weight t.nodes) q h in omega arith

  copies_none : 0 < outputs_of f → (i q : ℕ) (cs : List Place) → q ≡ g.next + i
      → i + length cs ≡ length ins → AllByRecursion (λ x. v x.number ≡ 0) (copies q f cs)
  copies_none o i q [] h l = tt
  copies_none o i q (c ∷ cs) h l = (
    none_left q (subst (λ (a : ℕ). is_node_read t a ≡ true) (sym h)
        (copy_read g n p f ins ok can t tidy i o (omega arith))),
    copies_none o (i + 1) (q + 1) cs (omega arith) (omega arith),
  )

  flattens_none : (j q r : ℕ) → q ≡ (g.next + length ins) + j → suc (j + r) ≤ outputs_of f
      → AllByRecursion (λ x. v x.number ≡ 0) (flattens q g.next ins j r)
  flattens_none j q zero h l = tt
  flattens_none j q (suc r) h l = (
    none_left q (subst (λ (a : ℕ). is_node_read t a ≡ true) (sym h)
        (number_read g n p f ins ok can t tidy (suc j) (omega arith))),
    flattens_none (suc j) (q + 1) r (omega arith) (omega arith),
  )

  parts : weigh v (sunk_once g p f ins).nodes
      ≡ weigh v (first_nodes g p f ins)
      + (weigh v (copies g.next f ins) + weigh v (last_nodes g f ins))
  parts =
      let a = weigh_append v (first_nodes g p f ins) (copies g.next f ins ++ last_nodes g f ins) in
      let b = weigh_append v (copies g.next f ins) (last_nodes g f ins) in omega arith

  left_is : new_left ≤ weigh v (sunk_once g p f ins).nodes
  left_is =
      let a = unread_is (weight t.nodes) t t.nodes in
      let b = tidy.weighs (weight t.nodes) in omega arith

  first_is : (c : ℕ) → 0 < c
      → weigh v (instead (kept_nodes g p ins) p (first_flatten g.next ins c)) ≡ weigh v g.nodes
  first_is zero h = absurd (omega arith)
  first_is (suc c) h =
      weigh_set v (kept_nodes g p ins) p (Flatten (copied g.next 0 ins))
      ∙ weigh_map v rr g.nodes

  -- Where p has outputs, no new node is left, and p is read.
  left_some : 0 < outputs_of f → new_left ≤ weigh v g.nodes
  left_some o =
      let a = left_is in
      let b = parts in
      let c = first_is (outputs_of f) o in
      let d = weigh_none v (copies g.next f ins)
      (copies_none o 0 g.next ins (omega arith) (omega arith)) in
      let e = weigh_none v (last_nodes g f ins)
      (flattens_none 0 (g.next + length ins) (outputs_of f - 1) (omega arith) (omega arith)) in
      omega arith

  each_le : 0 < outputs_of f → AllByRecursion (λ x. v x.number ≤ w x.number) g.nodes
  each_le o =
      Each-weaker (λ (x : Entry). x.number < g.next) (λ (x : Entry). v x.number ≤ w x.number)
      (λ x l. one x.number l) g.nodes ok.founded.below
    where
      one : (q : ℕ) → q < g.next → v q ≤ w q
      one q l = by (eqb q p) refl
        where
          by : (b : Bool) → eqb q p ≡ b → v q ≤ w q
          by true i =
              let a : v q ≡ 0 = none_left q (subst (λ (a : ℕ). is_node_read t a ≡ true)
              (sym (eqb-true q p i)) (number_read g n p f ins ok can t tidy 0 o)) in omega arith
          by false i = old_left_le q (λ e. false≢true (sym i ∙ eq-eqb q p e)) l

  abbrev Falls : Type 0
  Falls = new + new_left < old + old_left

  falls_some : 0 < outputs_of f → Falls
  falls_some o =
      let r = root g n p f ins ok can t tidy in
      let a = unread_is (weight g.nodes) g g.nodes in
      let b = left_some o in
      let c = weigh_le v w g.nodes (each_le o) in
      elim r.root [
        | inl i ↦ (let l = outputs_lt g n p f ins ok can t tidy r.number r.holds i in omega arith)
        | inr i ↦ (let d = outputs_le g n p f ins ok can t tidy in
            let l = weigh_lt v w g.nodes r.number r.node (each_le o) r.at
            (strict r.number r.holds i) in omega arith)
      ]
    where
      strict : (q : ℕ) → IsLow g n p f ins ok can t tidy q → is_node_read g q ≡ false → v q < w q
      strict q low h = by (eqb q p) refl
        where
          read : is_node_read g p ≡ true
          read = node_of_place g (place p 0)
              ((forest_ok g n p f ins ok can t tidy).read 0
              (has_from f 0 (forest_ok g n p f ins ok can t tidy).order o))

          by : (b : Bool) → eqb q p ≡ b → v q < w q
          by true i = absurd (false≢true (sym h
              ∙ ap (is_node_read g) (eqb-true q p i) ∙ read))
          by false i =
              let a = skipping_below n q (left t (weight t.nodes)) in
              let b = left_below t (weight t.nodes) q in
              let c = left_unread g (weight g.nodes) q h in
              let d : weight t.nodes q < weight g.nodes q =
              low.less (λ e. false≢true (sym i ∙ eq-eqb q p e)) in omega arith

  -- ---- without outputs

  some_outputs : (cs : List Place) → AllByRecursion (IsThere g.nodes) cs → is_of p cs ≡ true
      → 0 < outputs_of f
  some_outputs [] a h = absurd (false≢true h)
  some_outputs (c ∷ cs) a h =
      elim (or_cases (eqb c.node p) (is_of p cs) h) [
        | inl i ↦ (let l : c.out < outputs_of f =
            has_below f c.out (forest_ok g n p f ins ok can t tidy).order
            (gives_of g.nodes c p (Pdo (place n 0) f) (eqb-true c.node p i) can.pdo a.0)
            in omega arith)
        | inr i ↦ some_outputs cs a.1 i
      ]

  p_unread : outputs_of f ≡ 0 → is_node_read g p ≡ false
  p_unread z = not_true (is_node_read g p) (λ h.
      let l : 0 < outputs_of f =
      elim (or_cases (any_node (reads_of p) g.nodes) (is_of p g.outputs) h) [
        | inl i ↦ (let r = reader_of g (reads_of p) ok.founded i in
            some_outputs (reads r.node)
            (all_found (λ e. AllByRecursion (IsThere g.nodes) (reads e.node)) g.nodes r.number
            r.node r.at ok.founded.there) r.passes)
        | inr i ↦ some_outputs g.outputs ok.founded.told i
      ] in omega arith)

  others_le : weigh v (without (kept_nodes g p ins) p) ≤ weigh w (without (kept_nodes g p ins) p)
  others_le =
      weigh_le v w (without (kept_nodes g p ins) p)
      (all_instead_others (λ (x : Entry). v x.number ≤ w x.number) (kept_nodes g p ins) p None
      (differ_map rr g.nodes (differ_ascends g.nodes ok.founded.ascends))
      (all_map (reread_entry rr) (λ (x : Entry). x.number < g.next)
      (λ (x : Entry). (x.number ≡ p → ⊥) → v x.number ≤ w x.number)
      (λ x l a. old_left_le x.number a l) g.nodes ok.founded.below) tt)

  v_below : (q : ℕ) → v q ≤ e q
  v_below q =
      let a = skipping_below n q (left t (weight t.nodes)) in
      let b = left_below t (weight t.nodes) q in
      let c = new_below g n p f ins ok can t tidy q in omega arith

  falls_none : outputs_of f ≡ 0 → Falls
  falls_none z =
      let a = left_is in
      let b = parts in
      let c : weigh v (first_nodes g p f ins) ≡ weigh v (without (kept_nodes g p ins) p) =
      ap (λ (i : ℕ). weigh v (instead (kept_nodes g p ins) p (first_flatten g.next ins i))) z in
      let d = others_le in
      let x = weigh_at w (kept_nodes g p ins) p
      (Pdo (rr (place n 0)) f) (kept_at g n p f ins can) in
      let y = weigh_map w rr g.nodes in
      let h : weigh v (last_nodes g f ins) ≡ 0 =
      ap (λ (i : ℕ). weigh v (flattens (g.next + length ins) g.next ins 0 i))
      (let i : outputs_of f - 1 ≡ 0 = omega arith in i) in
      let i = weigh_every v e (copies g.next f ins) v_below in
      let j = copies_weigh (weight g.nodes) g.next p f ins in
      let l = left_unread g (weight g.nodes) p (p_unread z) in
      let o = weight_p g n p f ins ok can t tidy in
      let q = outputs_le g n p f ins ok can t tidy in
      let r = unread_is (weight g.nodes) g g.nodes in
      omega arith

  pub falls : Falls
  falls = by (outputs_of f) refl
    where
      by : (c : ℕ) → outputs_of f ≡ c → Falls
      by zero h = falls_none h
      by (suc c) h = falls_some (omega arith)

pub total_is : (g : Graph) → total_weight g
    ≡ weights_at (weight g.nodes) g.outputs + unread_weight (weight g.nodes) g g.nodes
unfolding total_weight
total_is g = refl

-- A step, and the removal after it.
pub sink_lighter : (g : Graph) (n p : ℕ) (f : Forest) (ins : List Place) → IsGraphOk g
    → CanSink g n p f ins → total_weight (sink_step g n p f ins) < total_weight g
sink_lighter g n p f ins ok can =
    let h : Graph = sunk_once g p f ins in
    let t : Graph = sink_step g n p f ins in
    let a = total_is g in
    let b = total_is t in
    let c = falls g n p f ins ok can t (IsTidied-tidied h n (differ_ascends h.nodes
    (ascends_sunk g n p f ins ok.founded.ascends ok.founded.below can))) in
    omega (arith, a, b, c)
