-- After a step no place weighs more where it is read, and what is read of the Pdo weighs less. So
-- does what is above it, up to a script output or a node that nothing reads.
use Rattle.std.proofs.Common.{◌≡◌, ℕ, ◌+◌, ◌*◌, ◌-◌, ◌<◌, ◌≤◌, Bool, true, false, cond, eqb, List, [], ◌∷◌, Some, length, get_or, refl, sym, ap, ◌∙◌, arith}
use Rattle.std.proofs.lemmas.Bool.{eqb-true, eq-eqb, false≢true}
use Rattle.std.specs.List.{AllByRecursion}
use Rattle.flume_value.proofs.EachLemmas.{Each-weaker}
use Rattle.sink_laws.specs.of_exec_graph.Forests.{Forest}
use Rattle.sink_laws.specs.of_exec_graph.Meaning.{place, node_at, reads, has_out, IsThere}
use Rattle.sink_laws.specs.of_exec_graph.Wellformed.{IsGraphOk}
use Rattle.sink_laws.specs.of_exec_graph.declared.graph.Place.{Place}
use Rattle.sink_laws.specs.of_exec_graph.declared.graph.Node.{Node}
use Rattle.sink_laws.specs.of_exec_graph.declared.graph.Node.TheVariants.{Flatten, Pdo}
use Rattle.sink_laws.specs.of_exec_graph.declared.graph.Entry.{Entry}
use Rattle.sink_laws.specs.of_exec_graph.declared.graph.Graph.{Graph}
use Rattle.sink_laws.proofs.of_exec_graph.Entries.{all_found, all_map}
use Rattle.sink_laws.proofs.of_exec_graph.Solving.{each_found}
use Rattle.sink_laws.proofs.of_exec_graph.Soundness.{differ_ascends}
use Rattle.sink_laws.specs.of_graph_laws.Joining.{reread, reread_entry}
use Rattle.sink_laws.proofs.of_graph_laws.Wellness.{gives_of}
use Rattle.sink_laws.specs.Sinking.{copied, outputs_of, flatten_number, rerouted, sunk_once, CanSink}
use Rattle.sink_laws.proofs.Outs.{has_below}
use Rattle.sink_laws.proofs.SinkFounded.{all_sunk, p_below}
use Rattle.sink_laws.proofs.SinkMeaning.{there_below}
use Rattle.sink_weights.specs.Weights.{weights_at, node_weight, weight_at, weight, is_of}
use Rattle.sink_weights.proofs.Roots.{IsRoot, root_over}
use Rattle.sink_weights.proofs.SinkReads.{above_p, apart_above, forest_ok, kept_place, moved_place, number_at, other_at}
use Rattle.sink_weights.proofs.Sums.{IsTidied}
use Rattle.sink_weights.proofs.Weighing.{IsEnough, at_most, before, before_below, added_map, added_self, no_heavier, node_lt, sum_le, sum_lt, sum_of, weight_fits, weight_is}
use Rattle.sink_weights.proofs.Enough.{enough, enough_old, enough_number, added_copied, weight_same, copies_enough, flattens_enough}

module _ (g : Graph) (n p : ℕ) (f : Forest) (ins : List Place) (ok : IsGraphOk g)
    (can : CanSink g n p f ins) (t : Graph) (tidy : IsTidied (sunk_once g p f ins) t n) where
  abbrev m : ℕ → ℕ
  m = weight g.nodes

  abbrev k : ℕ → ℕ
  k = weight t.nodes

  abbrev e : ℕ → ℕ
  e = enough (weight g.nodes) g.next p ins

  abbrev rr : Place → Place
  rr = rerouted p (g.next + length ins)

  low : p < g.next
  low = p_below g n p f ins ok.founded.below can

  weight_n : weight g.nodes n ≡ 1 + weights_at (weight g.nodes) ins
  weight_n = weight_fits g n (Flatten ins) ok.founded can.flatten

  pub weight_p : weight g.nodes p ≡ 2 * (1 + weights_at (weight g.nodes) ins)
  weight_p =
      let a : weight g.nodes p ≡ 2 * weight g.nodes n =
      weight_fits g p (Pdo (place n 0) f) ok.founded can.pdo in
      let b = weight_n in omega arith

  -- What is there weighs as much where it is read.
  by_place : (c : Place) (b : Bool) → eqb c.node p ≡ b → c.node < g.next
      → enough (weight g.nodes) g.next p ins
      (cond b (place (flatten_number p (g.next + length ins) c.out) 0) c).node
      ≡ weight g.nodes c.node
  by_place c true i l =
      enough_number (weight g.nodes) g.next p ins c.out low
      ∙ ap (weight g.nodes) (sym (eqb-true c.node p i))
  by_place c false i l = enough_old (weight g.nodes) g.next p ins c.node l

  same_there : (c : Place) → IsThere g.nodes c → e (rr c).node ≡ weight g.nodes c.node
  same_there c h = by_place c (eqb c.node p) refl (there_below g c ok.founded.below h)

  old_ins : AllByRecursion (IsThere g.nodes) ins
  old_ins = all_found (λ e. AllByRecursion (IsThere g.nodes) (reads e.node)) g.nodes n
      (Flatten ins) can.flatten ok.founded.there

  is_enough : IsEnough e (sunk_once g p f ins).nodes
  is_enough =
      let a = weight_p in
      all_sunk (λ (x : Entry). node_weight e x.node ≤ e x.number) g p f ins
      (all_map (reread_entry rr)
      (λ (x : Entry). node_weight e (reread rr x.node) ≤ e x.number)
      (λ (x : Entry). node_weight e x.node ≤ e x.number) (λ x h. h) g.nodes kept)
      (λ _. (let b = added_copied (weight g.nodes) g.next p ins 0 in
      let c = enough_old (weight g.nodes) g.next p ins p low in omega arith))
      (copies_enough (weight g.nodes) g.next p f ins 0 g.next ins (omega arith) (omega arith)
      (λ k. ap (λ (a : ℕ). get_or ins a (place 0 0)) (omega arith))
      (Each-weaker (IsThere g.nodes) (λ c. c.node < g.next)
      (λ c h. there_below g c ok.founded.below h) ins old_ins))
      (flattens_enough (weight g.nodes) g.next p (g.next + length ins) ins 0 (outputs_of f - 1)
      (omega arith) (omega arith))
    where
      one : (x : Entry) → node_at g.nodes x.number ≡ Some x.node
          → AllByRecursion (IsThere g.nodes) (reads x.node) → x.number < g.next
          → node_weight e (reread rr x.node) ≤ e x.number
      one x at h l =
          let a : node_weight e (reread rr x.node) ≡ node_weight (weight g.nodes) x.node =
          weight_same e (weight g.nodes) rr x.node
          (Each-weaker (IsThere g.nodes) (λ c. e (rr c).node ≡ weight g.nodes c.node)
          (λ c i. same_there c i) (reads x.node) h) in
          let b = weight_fits g x.number x.node ok.founded at in
          let c = enough_old (weight g.nodes) g.next p ins x.number l in omega arith

      all : (es : List Entry) → AllByRecursion (λ x. node_at g.nodes x.number ≡ Some x.node) es
          → AllByRecursion (λ x. AllByRecursion (IsThere g.nodes) (reads x.node)) es
          → AllByRecursion (λ x. x.number < g.next) es
          → AllByRecursion (λ x. node_weight e (reread rr x.node) ≤ e x.number) es
      all [] a b c = tt
      all (x ∷ xs) a b c = (one x a.0 b.0 c.0, all xs a.1 b.1 c.1)

      kept : AllByRecursion (λ x. node_weight e (reread rr x.node) ≤ e x.number) g.nodes
      kept = all g.nodes (each_found g.nodes (differ_ascends g.nodes ok.founded.ascends))
          ok.founded.there ok.founded.below

  enough_t : IsEnough e t.nodes
  enough_t = tidy.enough e is_enough

  pub new_below : (q : ℕ) → weight t.nodes q ≤ e q
  new_below q = no_heavier e t.nodes enough_t q

  pub no_more : (q : ℕ) → q < g.next → weight t.nodes q ≤ weight g.nodes q
  no_more q l =
      let a = new_below q in
      let b = enough_old (weight g.nodes) g.next p ins q l in omega arith

  place_no_more : (c : Place) → IsThere g.nodes c
      → weight t.nodes (rr c).node ≤ weight g.nodes c.node
  place_no_more c h =
      let a = new_below (rr c).node in let b = same_there c h in omega arith

  -- What was read of p is lighter.
  p_lighter : (c : Place) → c.node ≡ p → IsThere g.nodes c
      → weight t.nodes (rr c).node < weight g.nodes c.node
  p_lighter c h there =
      let base : ℕ = g.next + length ins in
      let has : has_out c.out f ≡ true =
      gives_of g.nodes c p (Pdo (place n 0) f) h can.pdo there in
      let l : c.out < outputs_of f =
      has_below f c.out (forest_ok g n p f ins ok can t tidy).order has in
      let moved : (rr c).node ≡ flatten_number p base c.out =
      ap (λ (d : Place). d.node) (moved_place p base c h) in
      let a : weight t.nodes (flatten_number p base c.out)
      ≤ node_weight e (Flatten (copied g.next c.out ins)) =
      at_most e t.nodes (flatten_number p base c.out) (Flatten (copied g.next c.out ins)) enough_t
      (number_at g n p f ins ok can t tidy c.out l) in
      let b = added_copied (weight g.nodes) g.next p ins c.out in
      let d = weight_p in
      let same : weight g.nodes c.node ≡ weight g.nodes p = ap (weight g.nodes) h in
      let moved_weight : weight t.nodes (rr c).node
      ≡ weight t.nodes (flatten_number p base c.out) = ap (weight t.nodes) moved in
      omega arith

  -- p, or a node above it that is lighter.
  pub record IsLow (q : ℕ) : Type 0 where
    pub above : ok.founded.ranked.0 p ≤ ok.founded.ranked.0 q
    pub less : (q ≡ p → ⊥) → weight t.nodes q < weight g.nodes q

  place_lighter : (q : ℕ) → IsLow q → (c : Place) → c.node ≡ q → IsThere g.nodes c
      → weight t.nodes (rr c).node < weight g.nodes c.node
  place_lighter q low c h there = by (eqb c.node p) refl
    where
      by : (b : Bool) → eqb c.node p ≡ b → weight t.nodes (rr c).node < weight g.nodes c.node
      by true i = p_lighter c (eqb-true c.node p i) there
      by false i =
          let apart : c.node ≡ p → ⊥ = λ e. false≢true (sym i ∙ eq-eqb c.node p e) in
          let l : weight t.nodes q < weight g.nodes q = low.less (λ e. apart (h ∙ e)) in
          let stays : (rr c).node ≡ q =
          ap (λ (d : Place). d.node) (kept_place p (g.next + length ins) c apart) ∙ h in
          let a : weight t.nodes (rr c).node ≡ weight t.nodes q = ap (weight t.nodes) stays in
          let b : weight g.nodes c.node ≡ weight g.nodes q = ap (weight g.nodes) h in omega arith

  up : (q r : ℕ) (x : Node) → IsLow q → node_at g.nodes r ≡ Some x → is_of q (reads x) ≡ true
      → IsLow r
  up q r x low at h =
      let l = above_p g n p f ins ok can t tidy q r x low.above at h in
      let apart = apart_above g n p f ins ok can t tidy r l in
      let there : AllByRecursion (IsThere g.nodes) (reads x) =
      all_found (λ e. AllByRecursion (IsThere g.nodes) (reads e.node)) g.nodes r x at
      ok.founded.there in
      let here : weight t.nodes r ≡ node_weight (before t.nodes) (reread rr x) =
      weight_is t.nodes r ∙ ap (weight_at (before t.nodes))
      (other_at g n p f ins ok can t tidy r x apart.0 apart.1 at) in
      let fits = weight_fits g r x ok.founded at in
      let less : node_weight (before t.nodes) (reread rr x) < node_weight (weight g.nodes) x =
      node_lt (before t.nodes) (weight g.nodes) rr q x
      (Each-weaker (IsThere g.nodes) (λ c. before t.nodes (rr c).node ≤ weight g.nodes c.node)
      (λ c i. (let a = place_no_more c i in let b = before_below t.nodes (rr c).node in
      omega arith)) (reads x) there)
      (Each-weaker (IsThere g.nodes)
      (λ c. c.node ≡ q → before t.nodes (rr c).node < weight g.nodes c.node)
      (λ c i s. (let a = place_lighter q low c s i in
      let b = before_below t.nodes (rr c).node in omega arith)) (reads x) there) h in
      record { above = omega arith; less = λ _. omega arith }

  pub root : IsRoot g IsLow
  root = root_over g IsLow ok.founded up p (Pdo (place n 0) f) can.pdo
      (record { above = omega arith; less = λ h. absurd (h refl) })

  -- ---- the script outputs

  abbrev pub new_outputs : ℕ
  new_outputs = weights_at (weight t.nodes) t.outputs

  abbrev pub old_outputs : ℕ
  old_outputs = weights_at (weight g.nodes) g.outputs

  outputs_is : new_outputs ≡ sum_of (λ c. weight t.nodes (rr c).node) g.outputs
  outputs_is =
      ap (weights_at (weight t.nodes)) tidy.outputs ∙ added_map (weight t.nodes) rr g.outputs

  pub outputs_le : new_outputs ≤ old_outputs
  outputs_le =
      let a = outputs_is in
      let b = added_self (weight g.nodes) g.outputs in
      let c = sum_le (λ c. weight t.nodes (rr c).node) (λ c. weight g.nodes c.node) g.outputs
      (Each-weaker (IsThere g.nodes)
      (λ c. weight t.nodes (rr c).node ≤ weight g.nodes c.node) (λ c i. place_no_more c i)
      g.outputs ok.founded.told) in omega arith

  pub outputs_lt : (q : ℕ) → IsLow q → is_of q g.outputs ≡ true → new_outputs < old_outputs
  outputs_lt q low h =
      let a = outputs_is in
      let b = added_self (weight g.nodes) g.outputs in
      let c = sum_lt (λ c. weight t.nodes (rr c).node) (λ c. weight g.nodes c.node) q g.outputs
      (Each-weaker (IsThere g.nodes)
      (λ c. weight t.nodes (rr c).node ≤ weight g.nodes c.node) (λ c i. place_no_more c i)
      g.outputs ok.founded.told)
      (Each-weaker (IsThere g.nodes)
      (λ c. c.node ≡ q → weight t.nodes (rr c).node < weight g.nodes c.node)
      (λ c i s. place_lighter q low c s i) g.outputs ok.founded.told) h in omega arith
