-- A merge makes what is read lighter.
use Rattle.std.proofs.Common.{◌≡◌, ℕ, ◌+◌, ◌<◌, ◌≤◌, Bool, true, false, cond, eqb, ◌||◌, List, [], ◌∷◌, ◌++◌, Some, refl, sym, ap, ◌∙◌, subst, arith, inl, inr}
use Rattle.std.proofs.lemmas.Bool.{eqb-true, eq-eqb, false≢true}
use Rattle.std.specs.List.{AllByRecursion}
use Rattle.flume_value.proofs.EachLemmas.{Each-weaker}
use Rattle.sink_laws.specs.of_exec_graph.Meaning.{place, node_at, reads}
use Rattle.sink_laws.specs.of_exec_graph.Readers.{any_node, among, same_place}
use Rattle.sink_laws.specs.of_exec_graph.Wellformed.{IsGraphOk}
use Rattle.sink_laws.specs.of_exec_graph.declared.graph.Place.{Place}
use Rattle.sink_laws.specs.of_exec_graph.declared.graph.Node.{Node}
use Rattle.sink_laws.specs.of_exec_graph.declared.graph.Node.TheVariants.{Flatten}
use Rattle.sink_laws.specs.of_exec_graph.declared.graph.Entry.{Entry}
use Rattle.sink_laws.specs.of_exec_graph.declared.graph.Graph.{Graph}
use Rattle.sink_laws.proofs.of_exec_graph.Bools.{or_cases, or_left, or_right}
use Rattle.sink_laws.proofs.of_exec_graph.Solving.{each_found, ranked_at}
use Rattle.sink_laws.proofs.of_exec_graph.Soundness.{differ_ascends}
use Rattle.sink_laws.proofs.of_graph_laws.Changes.{all_set}
use Rattle.sink_laws.proofs.of_graph_laws.Wellness.{node_at-set_other, node_at-set_same}
use Rattle.sink_laws.specs.Merging.{spliced, merged_flattens, merge_step, CanMerge}
use Rattle.sink_laws.proofs.MergeMeaning.{IsFounded-merged}
use Rattle.sink_laws.proofs.Unread.{same_true}
use Rattle.sink_weights.specs.Weights.{weights_at, node_weight, weight_at, weight, is_of, is_node_read, unread_weight, total_weight}
use Rattle.sink_weights.proofs.Roots.{IsPassing, IsRoot, among_is_of, lower_read, reader_of, reads_of, read_by_node, read_by_output, root_over, ranked_over}
use Rattle.sink_weights.proofs.SinkLighter.{total_is}
use Rattle.sink_weights.proofs.Sums.{IsTidied, IsTidied-tidied, left, left_below, left_le, left_unread, skipping, skipping_below, unread_is, weigh, weigh_le, weigh_lt, weigh_set}
use Rattle.sink_weights.proofs.Weighing.{IsEnough, at_most, before, before_below, added_below, added_less, no_heavier, node_less, weight_fits, weight_is}

-- ---- the inputs that are put in place

added_append : (m : ℕ → ℕ) (xs ys : List Place)
    → weights_at m (xs ++ ys) ≡ weights_at m xs + weights_at m ys
added_append m [] ys = omega arith
added_append m (x ∷ xs) ys = let i = added_append m xs ys in omega arith

spliced_le : (m : ℕ → ℕ) (e : ℕ) (es ins : List Place) → m e ≡ 1 + weights_at m es
    → weights_at m (spliced e es ins) ≤ weights_at m ins
spliced_le m e es [] h = omega arith
spliced_le m e es (c ∷ ins) h =
    by (same_place (place e 0) c) refl (spliced_le m e es ins h)
  where
    by : (b : Bool) → same_place (place e 0) c ≡ b
        → weights_at m (spliced e es ins) ≤ weights_at m ins
        → weights_at m (cond b es (c ∷ []) ++ spliced e es ins) ≤ m c.node + weights_at m ins
    by true i l =
        let s : m e ≡ m c.node = ap (λ (d : Place). m d.node) (same_true (place e 0) c i) in
        let p = added_append m es (spliced e es ins) in omega arith
    by false i l = omega arith

spliced_lt : (m : ℕ → ℕ) (e : ℕ) (es ins : List Place) → m e ≡ 1 + weights_at m es
    → among (place e 0) ins ≡ true → weights_at m (spliced e es ins) < weights_at m ins
spliced_lt m e es [] h r = absurd (false≢true r)
spliced_lt m e es (c ∷ ins) h r =
    by (same_place (place e 0) c) refl r (spliced_le m e es ins h)
    (λ s. spliced_lt m e es ins h s)
  where
    by : (b : Bool) → same_place (place e 0) c ≡ b → (b || among (place e 0) ins) ≡ true
        → weights_at m (spliced e es ins) ≤ weights_at m ins
        → (among (place e 0) ins ≡ true → weights_at m (spliced e es ins) < weights_at m ins)
        → weights_at m (cond b es (c ∷ []) ++ spliced e es ins) < m c.node + weights_at m ins
    by true i r l f =
        let s : m e ≡ m c.node = ap (λ (d : Place). m d.node) (same_true (place e 0) c i) in
        let p = added_append m es (spliced e es ins) in omega arith
    by false i r l f = let s = f r in omega arith

of_left : (q : ℕ) (xs ys : List Place) → is_of q xs ≡ true → is_of q (xs ++ ys) ≡ true
of_left q [] ys h = absurd (false≢true h)
of_left q (x ∷ xs) ys h =
    elim (or_cases (eqb x.node q) (is_of q xs) h) [
      | inl i ↦ or_left (eqb x.node q) (is_of q (xs ++ ys)) i
      | inr i ↦ or_right (eqb x.node q) (is_of q (xs ++ ys)) (of_left q xs ys i)
    ]

of_right : (q : ℕ) (xs ys : List Place) → is_of q ys ≡ true → is_of q (xs ++ ys) ≡ true
of_right q [] ys h = h
of_right q (x ∷ xs) ys h = or_right (eqb x.node q) (is_of q (xs ++ ys)) (of_right q xs ys h)

-- What was among the inputs still is, but for the node that is put in place.
of_spliced : (q e : ℕ) (es ins : List Place) → (q ≡ e → ⊥) → is_of q ins ≡ true
    → is_of q (spliced e es ins) ≡ true
of_spliced q e es [] a h = absurd (false≢true h)
of_spliced q e es (c ∷ cs) a h =
    elim (or_cases (eqb c.node q) (is_of q cs) h) [
      | inl i ↦ by (same_place (place e 0) c) refl (eqb-true c.node q i)
      | inr i ↦ of_right q (cond (same_place (place e 0) c) es (c ∷ [])) (spliced e es cs)
          (of_spliced q e es cs a i)
    ]
  where
    by : (b : Bool) → same_place (place e 0) c ≡ b → c.node ≡ q
        → is_of q (cond b es (c ∷ []) ++ spliced e es cs) ≡ true
    by true j i = absurd (a (sym i
        ∙ sym (ap (λ (d : Place). d.node) (same_true (place e 0) c j))))
    by false j i = or_left (eqb c.node q) (is_of q (spliced e es cs)) (eq-eqb c.node q i)

-- What the node read is among them.
of_inner : (q e : ℕ) (es ins : List Place) → among (place e 0) ins ≡ true → is_of q es ≡ true
    → is_of q (spliced e es ins) ≡ true
of_inner q e es [] a h = absurd (false≢true a)
of_inner q e es (c ∷ cs) a h =
    by (same_place (place e 0) c) refl (λ k. of_inner q e es cs k h)
  where
    rest : (x y : Bool) → x ≡ false → (x || y) ≡ true → y ≡ true
    rest true y i j = absurd (false≢true (sym i))
    rest false y i j = j

    by : (b : Bool) → same_place (place e 0) c ≡ b
        → (among (place e 0) cs ≡ true → is_of q (spliced e es cs) ≡ true)
        → is_of q (cond b es (c ∷ []) ++ spliced e es cs) ≡ true
    by true j f = of_left q es (spliced e es cs) h
    by false j f = or_right (eqb c.node q) (is_of q (spliced e es cs))
        (f (rest (same_place (place e 0) c) (among (place e 0) cs) j a))

-- ---- the merge

module _ (g : Graph) (f : ℕ) (ins : List Place) (e : ℕ) (es : List Place) (ok : IsGraphOk g)
    (can : CanMerge g f ins e es) (t : Graph) (tidy : IsTidied (merged_flattens g f ins e es) t e)
  where
    abbrev x : Node
    x = Flatten (spliced e es ins)

    e_under_f : ok.founded.ranked.0 e < ok.founded.ranked.0 f
    e_under_f =
        lower_read ok.founded.ranked.0 e (ok.founded.ranked.0 f) ins
        (ranked_at ok.founded.ranked.0 g.nodes f (Flatten ins) ok.founded.ranked.1 can.outer)
        (among_is_of (place e 0) ins can.nested)

    f_apart : f ≡ e → ⊥
    f_apart h =
        let l = e_under_f in
        let i : ok.founded.ranked.0 f ≡ ok.founded.ranked.0 e = ap ok.founded.ranked.0 h in
        omega arith

    f_at : node_at t.nodes f ≡ Some x
    f_at = tidy.others f x f_apart (node_at-set_same g.nodes f x (Flatten ins) can.outer)

    other_at : (q : ℕ) (y : Node) → (q ≡ f → ⊥) → (q ≡ e → ⊥) → node_at g.nodes q ≡ Some y
        → node_at t.nodes q ≡ Some y
    other_at q y a b at = tidy.others q y b (node_at-set_other g.nodes f q x y a at)

    less : weights_at (weight g.nodes) (spliced e es ins) < weights_at (weight g.nodes) ins
    less = spliced_lt (weight g.nodes) e es ins
        (weight_fits g e (Flatten es) ok.founded can.inner) can.nested

    weight_f : weight g.nodes f ≡ 1 + weights_at (weight g.nodes) ins
    weight_f = weight_fits g f (Flatten ins) ok.founded can.outer

    is_enough : IsEnough (weight g.nodes) t.nodes
    is_enough =
        let a = less in
        let b = weight_f in
        tidy.enough (weight g.nodes) (all_set
        (λ (y : Entry). node_weight (weight g.nodes) y.node ≤ weight g.nodes y.number) g.nodes f x
        (Each-weaker (λ (y : Entry). node_at g.nodes y.number ≡ Some y.node)
        (λ (y : Entry). node_weight (weight g.nodes) y.node ≤ weight g.nodes y.number)
        (λ y at. (let i = weight_fits g y.number y.node ok.founded at in omega arith)) g.nodes
        (each_found g.nodes (differ_ascends g.nodes ok.founded.ascends))) (omega arith))

    no_more : (q : ℕ) → weight t.nodes q ≤ weight g.nodes q
    no_more q = no_heavier (weight g.nodes) t.nodes is_enough q

    -- f, or a node above it that is lighter.
    pub record IsLow (q : ℕ) : Type 0 where
      pub above : ok.founded.ranked.0 f ≤ ok.founded.ranked.0 q
      pub less : weight t.nodes q < weight g.nodes q

    up : (q r : ℕ) (y : Node) → IsLow q → node_at g.nodes r ≡ Some y → is_of q (reads y) ≡ true
        → IsLow r
    up q r y low at h =
        let l = ranked_over ok.founded.ranked.0 g.nodes q r y ok.founded.ranked.1 at h in
        let a = low.above in
        let b = e_under_f in
        let not_f : r ≡ f → ⊥ =
        λ i. (let j : ok.founded.ranked.0 r ≡ ok.founded.ranked.0 f = ap ok.founded.ranked.0 i in
        omega arith) in
        let not_e : r ≡ e → ⊥ =
        λ i. (let j : ok.founded.ranked.0 r ≡ ok.founded.ranked.0 e = ap ok.founded.ranked.0 i in
        omega arith) in
        let here : weight t.nodes r ≡ node_weight (before t.nodes) y =
        weight_is t.nodes r ∙ ap (weight_at (before t.nodes)) (other_at r y not_f not_e at) in
        let fits = weight_fits g r y ok.founded at in
        let fewer : node_weight (before t.nodes) y < node_weight (weight g.nodes) y =
        node_less (before t.nodes) (weight g.nodes) q y
        (λ i. (let c = no_more i in let d = before_below t.nodes i in omega arith))
        (let c = low.less in let d = before_below t.nodes q in omega arith) h in
        record { above = omega arith; less = omega arith }

    root : IsRoot g IsLow
    root =
        let a = less in
        let b = weight_f in
        let c = at_most (weight g.nodes) t.nodes f x is_enough f_at in
        root_over g IsLow ok.founded up f (Flatten ins) can.outer
        (record { above = omega arith; less = omega arith })

    -- ---- the script outputs

    outputs_is : weights_at (weight t.nodes) t.outputs ≡ weights_at (weight t.nodes) g.outputs
    outputs_is = ap (weights_at (weight t.nodes)) tidy.outputs

    outputs_le : weights_at (weight t.nodes) t.outputs ≤ weights_at (weight g.nodes) g.outputs
    outputs_le =
        let a = outputs_is in
        let b = added_below (weight g.nodes) (weight t.nodes) no_more g.outputs in omega arith

    outputs_lt : (q : ℕ) → IsLow q → is_of q g.outputs ≡ true
        → weights_at (weight t.nodes) t.outputs < weights_at (weight g.nodes) g.outputs
    outputs_lt q low h =
        let a = outputs_is in
        let b = added_less (weight t.nodes) (weight g.nodes) q g.outputs no_more low.less h in
        omega arith

    -- ---- what nothing reads

    abbrev v : ℕ → ℕ
    v = skipping e (left t (weight t.nodes))

    abbrev w : ℕ → ℕ
    w = left g (weight g.nodes)

    still_read : (q : ℕ) → (q ≡ e → ⊥) → is_node_read g q ≡ true → is_node_read t q ≡ true
    still_read q a h =
        elim (or_cases (any_node (reads_of q) g.nodes) (is_of q g.outputs) h) [
          | inl i ↦ (let r = reader_of g (reads_of q) ok.founded i in
              by r (eqb r.number f) (eqb r.number e) refl refl)
          | inr i ↦ read_by_output t q (subst (λ (cs : List Place). is_of q cs ≡ true)
              (sym tidy.outputs) i)
        ]
      where
        one : (x y : Node) → Some x ≡ Some y → x ≡ y
        one x y e = cc

        by : (r : IsPassing (reads_of q) g.nodes) (y z : Bool) → eqb r.number f ≡ y
            → eqb r.number e ≡ z → is_node_read t q ≡ true
        by r true z i j =
            let at : node_at g.nodes f ≡ Some r.node =
            subst (λ (k : ℕ). node_at g.nodes k ≡ Some r.node) (eqb-true r.number f i) r.at in
            let s : r.node ≡ Flatten ins = one r.node (Flatten ins) (sym at ∙ can.outer) in
            read_by_node t q f x f_at (of_spliced q e es ins a
            (subst (λ (x : Node). is_of q (reads x) ≡ true) s r.passes))
        by r false true i j =
            let at : node_at g.nodes e ≡ Some r.node =
            subst (λ (k : ℕ). node_at g.nodes k ≡ Some r.node) (eqb-true r.number e j) r.at in
            let s : r.node ≡ Flatten es = one r.node (Flatten es) (sym at ∙ can.inner) in
            read_by_node t q f x f_at (of_inner q e es ins can.nested
            (subst (λ (x : Node). is_of q (reads x) ≡ true) s r.passes))
        by r false false i j =
            read_by_node t q r.number r.node
            (other_at r.number r.node (λ h. false≢true (sym i ∙ eq-eqb r.number f h))
            (λ h. false≢true (sym j ∙ eq-eqb r.number e h)) r.at) r.passes

    v_le : (q : ℕ) → v q ≤ w q
    v_le q = left_le g t (weight g.nodes) (weight t.nodes) e q (no_more q) (still_read q)

    each_le : (ds : List Entry) → AllByRecursion (λ y. v y.number ≤ w y.number) ds
    each_le [] = tt
    each_le (d ∷ ds) = (v_le d.number, each_le ds)

    left_is : unread_weight (weight t.nodes) t t.nodes ≤ weigh v g.nodes
    left_is =
        let a = unread_is (weight t.nodes) t t.nodes in
        let b = tidy.weighs (weight t.nodes) in
        let c = weigh_set v g.nodes f x in omega arith

    merged_falls : weights_at (weight t.nodes) t.outputs + unread_weight (weight t.nodes) t t.nodes
        < weights_at (weight g.nodes) g.outputs + unread_weight (weight g.nodes) g g.nodes
    merged_falls =
        let r = root in
        let a = unread_is (weight g.nodes) g g.nodes in
        let b = left_is in
        let c = weigh_le v w g.nodes (each_le g.nodes) in
        elim r.root [
          | inl i ↦ (let l = outputs_lt r.number r.holds i in omega arith)
          | inr i ↦ (let d = outputs_le in
              let s = skipping_below e r.number (left t (weight t.nodes)) in
              let u = left_below t (weight t.nodes) r.number in
              let z = left_unread g (weight g.nodes) r.number i in
              let y = r.holds.less in
              let l = weigh_lt v w g.nodes r.number r.node (each_le g.nodes) r.at (omega arith) in
              omega arith)
        ]

-- A merge, and the removal after it.
pub merge_lighter : (g : Graph) (f : ℕ) (ins : List Place) (e : ℕ) (es : List Place)
    → IsGraphOk g → CanMerge g f ins e es → total_weight (merge_step g f ins e es) < total_weight g
merge_lighter g f ins e es ok can =
    let h : Graph = merged_flattens g f ins e es in
    let t : Graph = merge_step g f ins e es in
    let a = total_is g in
    let b = total_is t in
    let c = merged_falls g f ins e es ok can t (IsTidied-tidied h e (differ_ascends h.nodes
    (IsFounded-merged g f ins e es ok.founded can).ascends)) in
    omega (arith, a, b, c)
