-- Who reads a node after a step.
use Rattle.std.proofs.Common.{◌≡◌, ℕ, ◌+◌, ◌<◌, ◌≤◌, Bool, true, false, eqb, ◌||◌, List, [], ◌∷◌, Some, length, map, zero, suc, refl, sym, ap, ◌∙◌, subst, arith, inl, inr}
use Rattle.std.proofs.lemmas.Bool.{eqb-true, eq-eqb, false≢true}
use Rattle.sink_laws.specs.of_exec_graph.Forests.{Forest}
use Rattle.sink_laws.specs.of_exec_graph.Meaning.{place, node_at, reads}
use Rattle.sink_laws.specs.of_exec_graph.Readers.{any_node, same_place, among, uses, is_read}
use Rattle.sink_laws.specs.of_exec_graph.Wellformed.{IsForestOk, IsGraphOk, IsNodeOk}
use Rattle.sink_laws.specs.of_exec_graph.declared.graph.Place.{Place}
use Rattle.sink_laws.specs.of_exec_graph.declared.graph.Node.{Node}
use Rattle.sink_laws.specs.of_exec_graph.declared.graph.Node.TheVariants.{Source, Flatten, Pdo}
use Rattle.sink_laws.specs.of_exec_graph.declared.graph.Graph.{Graph}
use Rattle.sink_laws.proofs.of_exec_graph.Bools.{or_cases, or_left, or_right, not_true}
use Rattle.sink_laws.proofs.of_exec_graph.Entries.{all_found}
use Rattle.sink_laws.proofs.of_exec_graph.Solving.{ranked_at}
use Rattle.sink_laws.specs.of_graph_laws.Joining.{reread}
use Rattle.sink_laws.specs.Sinking.{copied, outputs_of, flatten_number, rerouted, sunk_once, CanSink}
use Rattle.sink_laws.proofs.Outs.{has_from}
use Rattle.sink_laws.proofs.SinkFounded.{copies_there, flatten_at, node_at-sunk_other}
use Rattle.sink_laws.proofs.Steps.{found_copy}
use Rattle.sink_laws.proofs.Unread.{same_true}
use Rattle.sink_weights.specs.Weights.{is_of, is_node_read}
use Rattle.sink_weights.proofs.Roots.{IsPassing, reader_of, reads_of, read_by_node, read_by_output, ranked_over, among_is_of, uses_among}
use Rattle.sink_weights.proofs.Sums.{IsTidied}

-- ---- collections that are read elsewhere

pub kept_place : (p base : ℕ) (c : Place) → (c.node ≡ p → ⊥) → rerouted p base c ≡ c
kept_place p base c h =
    let e : eqb c.node p ≡ false = not_true (eqb c.node p) (λ i. h (eqb-true c.node p i)) in
    rw e refl

pub moved_place : (p base : ℕ) (c : Place) → c.node ≡ p
    → rerouted p base c ≡ place (flatten_number p base c.out) 0
moved_place p base c h = let e : eqb c.node p ≡ true = eq-eqb c.node p h in rw e refl

is_of_map : (q k : ℕ) (r : Place → Place) (cs : List Place)
    → ((c : Place) → c.node ≡ q → (r c).node ≡ k) → is_of q cs ≡ true
    → is_of k (map r cs) ≡ true
is_of_map q k r [] f h = absurd (false≢true h)
is_of_map q k r (c ∷ cs) f h =
    elim (or_cases (eqb c.node q) (is_of q cs) h) [
      | inl e ↦ or_left (eqb (r c).node k) (is_of k (map r cs))
          (eq-eqb (r c).node k (f c (eqb-true c.node q e)))
      | inr e ↦ or_right (eqb (r c).node k) (is_of k (map r cs)) (is_of_map q k r cs f e)
    ]

pub among_map : (c : Place) (k : ℕ) (r : Place → Place) (cs : List Place) → (r c).node ≡ k
    → among c cs ≡ true → is_of k (map r cs) ≡ true
among_map c k r [] f h = absurd (false≢true h)
among_map c k r (d ∷ ds) f h =
    elim (or_cases (same_place c d) (among c ds) h) [
      | inl e ↦ or_left (eqb (r d).node k) (is_of k (map r ds)) (eq-eqb (r d).node k
          (ap (λ (a : Place). (r a).node) (sym (same_true c d e)) ∙ f))
      | inr e ↦ or_right (eqb (r d).node k) (is_of k (map r ds)) (among_map c k r ds f e)
    ]

pub reads_reread : (r : Place → Place) (x : Node) → reads (reread r x) ≡ map r (reads x)
reads_reread r (Source s) = refl
reads_reread r _ = refl

-- ---- copies

is_copied : (next j i : ℕ) (cs : List Place) → i < length cs
    → is_of (next + i) (copied next j cs) ≡ true
is_copied next j i [] h = absurd (omega arith)
is_copied next j zero (c ∷ cs) h =
    let e : next ≡ next + 0 = omega arith in
    or_left (eqb next (next + 0)) (is_of (next + 0) (copied (next + 1) j cs))
    (eq-eqb next (next + 0) e)
is_copied next j (suc i) (c ∷ cs) h =
    let e : (next + 1) + i ≡ next + suc i = omega arith in
    or_right (eqb next (next + suc i)) (is_of (next + suc i) (copied (next + 1) j cs))
    (subst (λ (a : ℕ). is_of a (copied (next + 1) j cs) ≡ true) e
    (is_copied (next + 1) j i cs (omega arith)))

-- ---- the step

module _ (g : Graph) (n p : ℕ) (f : Forest) (ins : List Place) (ok : IsGraphOk g)
    (can : CanSink g n p f ins) (t : Graph) (tidy : IsTidied (sunk_once g p f ins) t n) where
  abbrev base : ℕ
  base = g.next + length ins

  abbrev rr : Place → Place
  rr = rerouted p base

  pub forest_ok : IsForestOk g p f
  forest_ok = all_found (λ e. IsNodeOk g e.number e.node) g.nodes p (Pdo (place n 0) f) can.pdo
      ok.nodes

  n_under_p : ok.founded.ranked.0 n < ok.founded.ranked.0 p
  n_under_p =
      (ranked_at ok.founded.ranked.0 g.nodes p (Pdo (place n 0) f) ok.founded.ranked.1 can.pdo).0

  n_apart : n ≡ p → ⊥
  n_apart e =
      let l = n_under_p in
      let i : ok.founded.ranked.0 n ≡ ok.founded.ranked.0 p = ap ok.founded.ranked.0 e in
      omega arith

  n_below : n < g.next
  n_below = all_found (λ e. e.number < g.next) g.nodes n (Flatten ins) can.flatten
      ok.founded.below

  -- A node that reads p, or stands above it.
  pub above_p : (q r : ℕ) (x : Node) → ok.founded.ranked.0 p ≤ ok.founded.ranked.0 q
      → node_at g.nodes r ≡ Some x → is_of q (reads x) ≡ true
      → ok.founded.ranked.0 p < ok.founded.ranked.0 r
  above_p q r x l at h =
      let i = ranked_over ok.founded.ranked.0 g.nodes q r x ok.founded.ranked.1 at h in omega arith

  pub apart_above : (r : ℕ) → ok.founded.ranked.0 p < ok.founded.ranked.0 r
      → (r ≡ p → ⊥) × (r ≡ n → ⊥)
  apart_above r l = (
    λ e. (let i : ok.founded.ranked.0 r ≡ ok.founded.ranked.0 p = ap ok.founded.ranked.0 e in
        omega arith),
    λ e. (let i : ok.founded.ranked.0 r ≡ ok.founded.ranked.0 n = ap ok.founded.ranked.0 e in
        let k = n_under_p in omega arith),
  )

  -- The other nodes stand there.
  pub other_at : (r : ℕ) (x : Node) → (r ≡ p → ⊥) → (r ≡ n → ⊥) → node_at g.nodes r ≡ Some x
      → node_at t.nodes r ≡ Some (reread rr x)
  other_at r x a b at = tidy.others r (reread rr x) b (node_at-sunk_other g p r f ins x a at)

  pub number_apart : (j : ℕ) → flatten_number p base j ≡ n → ⊥
  number_apart zero e = n_apart (sym e)
  number_apart (suc j) e = let l = n_below in absurd (omega arith)

  pub number_at : (j : ℕ) → j < outputs_of f
      → node_at t.nodes (flatten_number p base j) ≡ Some (Flatten (copied g.next j ins))
  number_at j l = tidy.others (flatten_number p base j) (Flatten (copied g.next j ins))
      (number_apart j)
      (flatten_at g n p f ins j ok.founded.ascends ok.founded.below can l)

  -- An output of p is read of its Flatten.
  pub number_read : (j : ℕ) → j < outputs_of f
      → is_node_read t (flatten_number p base j) ≡ true
  number_read j l =
      let c : Place = place p j in
      let moved : (rr c).node ≡ flatten_number p base j =
      ap (λ (d : Place). d.node) (moved_place p base c refl) in
      let read : is_read g c ≡ true = forest_ok.read j (has_from f j forest_ok.order l) in
      elim (or_cases (any_node (uses c) g.nodes) (among c g.outputs) read) [
        | inl i ↦ (let r = reader_of g (uses c) ok.founded i in
            let here : among c (reads r.node) ≡ true = uses_among c r.node r.passes in
            let up = above_p p r.number r.node (omega arith) r.at
            (among_is_of c (reads r.node) here) in
            let apart = apart_above r.number up in
            read_by_node t (flatten_number p base j) r.number (reread rr r.node)
            (other_at r.number r.node apart.0 apart.1 r.at)
            (subst (λ (cs : List Place). is_of (flatten_number p base j) cs ≡ true)
            (sym (reads_reread rr r.node))
            (among_map c (flatten_number p base j) rr (reads r.node) moved here)))
        | inr i ↦ read_by_output t (flatten_number p base j)
            (subst (λ (cs : List Place). is_of (flatten_number p base j) cs ≡ true)
            (sym tidy.outputs) (among_map c (flatten_number p base j) rr g.outputs moved i))
      ]

  -- A copy is read by the Flatten of its first output.
  pub copy_read : (i : ℕ) → 0 < outputs_of f → i < length ins
      → is_node_read t (g.next + i) ≡ true
  copy_read i o l =
      read_by_node t (g.next + i) p (Flatten (copied g.next 0 ins)) (number_at 0 o)
      (is_copied g.next 0 i ins l)

  -- What else was read is still read.
  pub still_read : (q : ℕ) → (q ≡ p → ⊥) → (q ≡ n → ⊥) → is_node_read g q ≡ true
      → is_node_read t q ≡ true
  still_read q a b h =
      elim (or_cases (any_node (reads_of q) g.nodes) (is_of q g.outputs) h) [
        | inl i ↦ (let r = reader_of g (reads_of q) ok.founded i in
            by r (eqb r.number p) (eqb r.number n) refl refl)
        | inr i ↦ read_by_output t q (subst (λ (cs : List Place). is_of q cs ≡ true)
            (sym tidy.outputs) (is_of_map q q rr g.outputs same i))
      ]
    where
      same : (c : Place) → c.node ≡ q → (rr c).node ≡ q
      same c e = ap (λ (d : Place). d.node) (kept_place p base c (λ i. a (sym e ∙ i))) ∙ e

      one : (x y : Node) → Some x ≡ Some y → x ≡ y
      one x y e = cc

      only : (n q : ℕ) → (eqb n q || false) ≡ true → n ≡ q
      only n q e = elim (or_cases (eqb n q) false e) [
        | inl i ↦ eqb-true n q i
        | inr i ↦ absurd (false≢true i)
      ]

      by : (r : IsPassing (reads_of q) g.nodes) (x y : Bool) → eqb r.number p ≡ x
          → eqb r.number n ≡ y → is_node_read t q ≡ true
      by r true y i j =
          let at : node_at g.nodes p ≡ Some r.node =
          subst (λ (k : ℕ). node_at g.nodes k ≡ Some r.node) (eqb-true r.number p i) r.at in
          let s : r.node ≡ Pdo (place n 0) f = one r.node (Pdo (place n 0) f) (sym at ∙ can.pdo) in
          let z : (eqb n q || false) ≡ true =
          subst (λ (x : Node). is_of q (reads x) ≡ true) s r.passes in
          absurd (b (sym (only n q z)))
      by r false true i j =
          let at : node_at g.nodes n ≡ Some r.node =
          subst (λ (k : ℕ). node_at g.nodes k ≡ Some r.node) (eqb-true r.number n j) r.at in
          let s : r.node ≡ Flatten ins = one r.node (Flatten ins) (sym at ∙ can.flatten) in
          let z : is_of q ins ≡ true =
          subst (λ (x : Node). is_of q (reads x) ≡ true) s r.passes in
          let c = found_copy (sunk_once g p f ins).nodes g.next f (λ d. eqb d.node q) ins z
          (copies_there g n p f ins ok.founded.ascends ok.founded.below can) in
          let l : g.next ≤ c.number = c.above in
          let k = n_below in
          read_by_node t q c.number (Pdo c.input f)
          (tidy.others c.number (Pdo c.input f) (λ e. omega arith) c.there)
          (or_left (eqb c.input.node q) false c.passes)
      by r false false i j =
          read_by_node t q r.number (reread rr r.node)
          (other_at r.number r.node (λ e. false≢true (sym i ∙ eq-eqb r.number p e))
          (λ e. false≢true (sym j ∙ eq-eqb r.number n e)) r.at)
          (subst (λ (cs : List Place). is_of q cs ≡ true) (sym (reads_reread rr r.node))
          (is_of_map q q rr (reads r.node) same r.passes))
