-- Other numbers and other changes of a graph, in either order.
use Rattle.std.proofs.Common.{◌≡◌, ℕ, ◌<◌, Bool, true, false, cond, eqb, ltb, ◌&&◌, ◌||◌, List, [], ◌∷◌, map, Option, Some, None, refl, sym, ap, ap₂, ◌∙◌, subst, arith}
use Rattle.std.specs.List.{AllByRecursion as Each}
use Rattle.std.proofs.lemmas.Bool.{eqb-true, eq-eqb, false≢true, lt-ltb, ltb-true}
use Rattle.flume_value.proofs.EachLemmas.{Each-weaker}
use Rattle.exec_graph.specs.Meaning.{AllDiffer, node_at, place, reads}
use Rattle.exec_graph.specs.Readers.{among, any_node, calls_on, collects, is_read, same_place, uses}
use Rattle.exec_graph.specs.Wellformed.{Ascends}
use Rattle.exec_graph.specs.declared.graph.Place.{Place}
use Rattle.exec_graph.specs.declared.graph.Node.{Node}
use Rattle.exec_graph.specs.declared.graph.Node.TheVariants.{Source, Flatten, Pdo, Gbk, Barrier}
use Rattle.exec_graph.specs.declared.graph.Entry.{Entry}
use Rattle.exec_graph.proofs.Bools.{not_true}
use Rattle.exec_graph.proofs.Entries.{entry}
use Rattle.graph_laws.specs.Joining.{reread, reread_entry, set_node, without}
use Rattle.graph_laws.proofs.Changes.{all_set}
use Rattle.pardo_fuse.specs.Renumbering.{at_number, entries_in_order, put_entry, renumbered_entry}
use Rattle.pardo_fuse.proofs.Sorting.{order_all, order_ascends}

-- ---- nodes in order

-- what changes no number changes no order
put_reread : (r : Place → Place) (e : Entry) (ds : List Entry)
    → put_entry (reread_entry r e) (map (reread_entry r) ds)
    ≡ map (reread_entry r) (put_entry e ds)
put_reread r e [] = refl
put_reread r e (d ∷ ds) = by (ltb e.number d.number) (put_reread r e ds)
  where
    by : (b : Bool)
        → put_entry (reread_entry r e) (map (reread_entry r) ds)
        ≡ map (reread_entry r) (put_entry e ds)
        → cond b (reread_entry r e ∷ (reread_entry r d ∷ map (reread_entry r) ds))
        (reread_entry r d ∷ put_entry (reread_entry r e) (map (reread_entry r) ds))
        ≡ map (reread_entry r) (cond b (e ∷ (d ∷ ds)) (d ∷ put_entry e ds))
    by true i = refl
    by false i = ap (λ (l : List Entry). reread_entry r d ∷ l) i

pub order_reread : (r : Place → Place) (es : List Entry)
    → entries_in_order (map (reread_entry r) es) ≡ map (reread_entry r) (entries_in_order es)
order_reread r [] = refl
order_reread r (e ∷ es) =
    ap (put_entry (reread_entry r e)) (order_reread r es) ∙ put_reread r e (entries_in_order es)

abbrev Lacks : ℕ → List Entry → Type 0
Lacks n ds = Each (λ d. d.number ≡ n → ⊥) ds

apart_eqb : (m n : ℕ) → (m ≡ n → ⊥) → eqb m n ≡ false
apart_eqb m n h = not_true (eqb m n) (λ i. h (eqb-true m n i))

-- another node is set before it is put in its place, or behind
put_set : (e : Entry) (ds : List Entry) (n : ℕ) (z : Node) → (e.number ≡ n → ⊥)
    → set_node (put_entry e ds) n z ≡ put_entry e (set_node ds n z)
put_set e [] n z far =
    ap (λ (b : Bool). cond b (entry n z ∷ []) (e ∷ [])) (apart_eqb e.number n far)
put_set e (d ∷ ds) n z far =
    by (ltb e.number d.number) (eqb d.number n) refl refl (put_set e ds n z far)
  where
    away : (l : List Entry) → set_node (e ∷ l) n z ≡ e ∷ set_node l n z
    away l = ap (λ (b : Bool). cond b (entry n z ∷ l) (e ∷ set_node l n z))
        (apart_eqb e.number n far)

    by : (k b : Bool) → ltb e.number d.number ≡ k → eqb d.number n ≡ b
        → set_node (put_entry e ds) n z ≡ put_entry e (set_node ds n z)
        → set_node (cond k (e ∷ (d ∷ ds)) (d ∷ put_entry e ds)) n z
        ≡ put_entry e (cond b (entry n z ∷ ds) (d ∷ set_node ds n z))
    by true true i j h =
        away (d ∷ ds)
        ∙ ap (λ (b : Bool). e ∷ cond b (entry n z ∷ ds) (d ∷ set_node ds n z)) j
        ∙ sym (ap (λ (b : Bool). cond b (e ∷ (entry n z ∷ ds)) (entry n z ∷ put_entry e ds))
        (ap (ltb e.number) (sym (eqb-true d.number n j)) ∙ i))
    by true false i j h =
        away (d ∷ ds)
        ∙ ap (λ (b : Bool). e ∷ cond b (entry n z ∷ ds) (d ∷ set_node ds n z)) j
        ∙ sym (ap (λ (b : Bool). cond b (e ∷ (d ∷ set_node ds n z))
        (d ∷ put_entry e (set_node ds n z))) i)
    by false true i j h =
        ap (λ (b : Bool). cond b (entry n z ∷ put_entry e ds)
        (d ∷ set_node (put_entry e ds) n z)) j
        ∙ sym (ap (λ (b : Bool). cond b (e ∷ (entry n z ∷ ds)) (entry n z ∷ put_entry e ds))
        (ap (ltb e.number) (sym (eqb-true d.number n j)) ∙ i))
    by false false i j h =
        ap (λ (b : Bool). cond b (entry n z ∷ put_entry e ds)
        (d ∷ set_node (put_entry e ds) n z)) j
        ∙ ap (λ (l : List Entry). d ∷ l) h
        ∙ sym (ap (λ (b : Bool). cond b (e ∷ (d ∷ set_node ds n z))
        (d ∷ put_entry e (set_node ds n z))) i)

put_here : (n : ℕ) (y z : Node) (ds : List Entry) → Lacks n ds
    → set_node (put_entry (entry n y) ds) n z ≡ put_entry (entry n z) ds
put_here n y z [] a = ap (λ (b : Bool). cond b (entry n z ∷ []) (entry n y ∷ [])) (eq-eqb n n refl)
put_here n y z (d ∷ ds) a = by (ltb n d.number) (put_here n y z ds a.1)
  where
    by : (k : Bool) → set_node (put_entry (entry n y) ds) n z ≡ put_entry (entry n z) ds
        → set_node (cond k (entry n y ∷ (d ∷ ds)) (d ∷ put_entry (entry n y) ds)) n z
        ≡ cond k (entry n z ∷ (d ∷ ds)) (d ∷ put_entry (entry n z) ds)
    by true h =
        ap (λ (b : Bool). cond b (entry n z ∷ (d ∷ ds)) (entry n y ∷ set_node (d ∷ ds) n z))
        (eq-eqb n n refl)
    by false h =
        ap (λ (b : Bool). cond b (entry n z ∷ put_entry (entry n y) ds)
        (d ∷ set_node (put_entry (entry n y) ds) n z)) (apart_eqb d.number n a.0)
        ∙ ap (λ (l : List Entry). d ∷ l) h

pub order_set : (es : List Entry) (n : ℕ) (z : Node) → AllDiffer es
    → entries_in_order (set_node es n z) ≡ set_node (entries_in_order es) n z
order_set [] n z u = refl
order_set (e ∷ es) n z u = by (eqb e.number n) refl (order_set es n z u.1)
  where
    lacks : Lacks e.number (entries_in_order es)
    lacks = order_all (λ d. d.number ≡ e.number → ⊥) es u.0

    by : (b : Bool) → eqb e.number n ≡ b
        → entries_in_order (set_node es n z) ≡ set_node (entries_in_order es) n z
        → entries_in_order (cond b (entry n z ∷ es) (e ∷ set_node es n z))
        ≡ set_node (put_entry e (entries_in_order es)) n z
    by true i h =
        let is : e.number ≡ n = eqb-true e.number n i in
        sym (put_here n e.node z (entries_in_order es) (subst
        (λ (k : ℕ). Lacks k (entries_in_order es)) is lacks))
        ∙ ap (λ (k : ℕ). set_node (put_entry (entry k e.node) (entries_in_order es)) n z) (sym is)
    by false i h =
        ap (put_entry e) h
        ∙ sym (put_set e (entries_in_order es) n z (λ q. false≢true (sym i ∙ eq-eqb e.number n q)))

pub set_differ : (es : List Entry) (n : ℕ) (z : Node) → AllDiffer es → AllDiffer (set_node es n z)
set_differ [] n z u = tt
set_differ (e ∷ es) n z u = by (eqb e.number n) refl (set_differ es n z u.1)
  where
    by : (b : Bool) → eqb e.number n ≡ b → AllDiffer (set_node es n z)
        → AllDiffer (cond b (entry n z ∷ es) (e ∷ set_node es n z))
    by true i h = (subst (λ (k : ℕ). Lacks k es) (eqb-true e.number n i) u.0, u.1)
    by false i h = (
      all_set (λ d. d.number ≡ e.number → ⊥) es n z u.0
          (λ q. false≢true (sym i ∙ eq-eqb e.number n (sym q))),
      h,
    )

-- ---- one node less
put_first : (e : Entry) (ds : List Entry) → Each (λ d. e.number < d.number) ds
    → put_entry e ds ≡ e ∷ ds
put_first e [] a = refl
put_first e (d ∷ ds) a =
    ap (λ (b : Bool). cond b (e ∷ (d ∷ ds)) (d ∷ put_entry e ds)) (lt-ltb e.number d.number a.0)

put_without : (e : Entry) (ds : List Entry) (q : ℕ) → (e.number ≡ q → ⊥) → Ascends ds
    → without (put_entry e ds) q ≡ put_entry e (without ds q)
put_without e [] q far u =
    ap (λ (b : Bool). cond b [] (e ∷ [])) (apart_eqb e.number q far)
put_without e (d ∷ ds) q far u =
    by (ltb e.number d.number) (eqb d.number q) refl refl (put_without e ds q far u.1)
  where
    away : (l : List Entry) → without (e ∷ l) q ≡ e ∷ without l q
    away l = ap (λ (b : Bool). cond b l (e ∷ without l q)) (apart_eqb e.number q far)

    by : (k b : Bool) → ltb e.number d.number ≡ k → eqb d.number q ≡ b
        → without (put_entry e ds) q ≡ put_entry e (without ds q)
        → without (cond k (e ∷ (d ∷ ds)) (d ∷ put_entry e ds)) q
        ≡ put_entry e (cond b ds (d ∷ without ds q))
    by true true i j h =
        away (d ∷ ds) ∙ ap (λ (b : Bool). e ∷ cond b ds (d ∷ without ds q)) j
        ∙ sym (put_first e ds (Each-weaker (λ (x : Entry). d.number < x.number)
        (λ (x : Entry). e.number < x.number)
        (λ x m. let less : e.number < d.number = ltb-true e.number d.number i in
        omega (arith, less, m)) ds u.0))
    by true false i j h =
        away (d ∷ ds) ∙ ap (λ (b : Bool). e ∷ cond b ds (d ∷ without ds q)) j
        ∙ sym (ap (λ (b : Bool). cond b (e ∷ (d ∷ without ds q))
        (d ∷ put_entry e (without ds q))) i)
    by false true i j h =
        ap (λ (b : Bool). cond b (put_entry e ds) (d ∷ without (put_entry e ds) q)) j
    by false false i j h =
        ap (λ (b : Bool). cond b (put_entry e ds) (d ∷ without (put_entry e ds) q)) j
        ∙ ap (λ (l : List Entry). d ∷ l) h
        ∙ sym (ap (λ (b : Bool). cond b (e ∷ (d ∷ without ds q))
        (d ∷ put_entry e (without ds q))) i)

without_here : (e : Entry) (ds : List Entry) → Lacks e.number ds
    → without (put_entry e ds) e.number ≡ ds
without_here e [] a = ap (λ (b : Bool). cond b [] (e ∷ [])) (eq-eqb e.number e.number refl)
without_here e (d ∷ ds) a = by (ltb e.number d.number) (without_here e ds a.1)
  where
    by : (k : Bool) → without (put_entry e ds) e.number ≡ ds
        → without (cond k (e ∷ (d ∷ ds)) (d ∷ put_entry e ds)) e.number ≡ d ∷ ds
    by true h =
        ap (λ (b : Bool). cond b (d ∷ ds) (e ∷ without (d ∷ ds) e.number))
        (eq-eqb e.number e.number refl)
    by false h =
        ap (λ (b : Bool). cond b (put_entry e ds) (d ∷ without (put_entry e ds) e.number))
        (apart_eqb d.number e.number a.0)
        ∙ ap (λ (l : List Entry). d ∷ l) h

pub order_without : (es : List Entry) (q : ℕ) → AllDiffer es
    → entries_in_order (without es q) ≡ without (entries_in_order es) q
order_without [] q u = refl
order_without (e ∷ es) q u = by (eqb e.number q) refl (order_without es q u.1)
  where
    by : (b : Bool) → eqb e.number q ≡ b
        → entries_in_order (without es q) ≡ without (entries_in_order es) q
        → entries_in_order (cond b es (e ∷ without es q))
        ≡ without (put_entry e (entries_in_order es)) q
    by true i h =
        sym (without_here e (entries_in_order es) (order_all (λ d. d.number ≡ e.number → ⊥) es u.0))
        ∙ ap (without (put_entry e (entries_in_order es))) (eqb-true e.number q i)
    by false i h =
        ap (put_entry e) h
        ∙ sym (put_without e (entries_in_order es) q (λ k. false≢true (sym i ∙ eq-eqb e.number q k))
        (order_ascends es u.1))

-- ---- whether some node passes
or_swap : (a b c : Bool) → (a || (b || c)) ≡ (b || (a || c))
or_swap true true c = refl
or_swap true false c = refl
or_swap false true c = refl
or_swap false false c = refl

put_any : (t : Node → Bool) (e : Entry) (ds : List Entry)
    → any_node t (put_entry e ds) ≡ (t e.node || any_node t ds)
put_any t e [] = refl
put_any t e (d ∷ ds) = by (ltb e.number d.number) (put_any t e ds)
  where
    by : (k : Bool) → any_node t (put_entry e ds) ≡ (t e.node || any_node t ds)
        → any_node t (cond k (e ∷ (d ∷ ds)) (d ∷ put_entry e ds))
        ≡ (t e.node || (t d.node || any_node t ds))
    by true h = refl
    by false h =
        ap (λ (b : Bool). t d.node || b) h ∙ or_swap (t d.node) (t e.node) (any_node t ds)

pub order_any : (t : Node → Bool) (es : List Entry)
    → any_node t (entries_in_order es) ≡ any_node t es
order_any t [] = refl
order_any t (e ∷ es) =
    put_any t e (entries_in_order es) ∙ ap (λ (b : Bool). t e.node || b) (order_any t es)

-- ---- numbers that keep those apart of which N holds
module _ (N : ℕ → Type 0) (l : ℕ → ℕ)
    (apart : (n m : ℕ) → N n → N m → l n ≡ l m → n ≡ m) where
  abbrev x : Place → Place
  x = at_number l

  -- all that is there and all that is read is such
  abbrev pub IsWithin : Entry → Type 0
  IsWithin e = N e.number × Each (λ c. N c.node) (reads e.node)

  pub same_eqb : (n m : ℕ) → N n → N m → eqb (l n) (l m) ≡ eqb n m
  same_eqb n m a b = by (eqb n m) refl
    where
      by : (t : Bool) → eqb n m ≡ t → eqb (l n) (l m) ≡ t
      by true i = eq-eqb (l n) (l m) (ap l (eqb-true n m i))
      by false i = apart_eqb (l n) (l m) (λ e. false≢true (sym i ∙ eq-eqb n m (apart n m a b e)))

  pub set_numbered : (es : List Entry) (n : ℕ) (z : Node) → Each IsWithin es → N n
      → map (renumbered_entry l) (set_node es n z)
      ≡ set_node (map (renumbered_entry l) es) (l n) (reread x z)
  set_numbered [] n z w a = refl
  set_numbered (e ∷ es) n z w a =
      by (eqb e.number n) (set_numbered es n z w.1 a)
      ∙ sym (ap (λ (b : Bool). cond b (entry (l n) (reread x z) ∷ map (renumbered_entry l) es)
      (renumbered_entry l e ∷ set_node (map (renumbered_entry l) es) (l n) (reread x z)))
      (same_eqb e.number n w.0.0 a))
    where
      by : (b : Bool)
          → map (renumbered_entry l) (set_node es n z)
          ≡ set_node (map (renumbered_entry l) es) (l n) (reread x z)
          → map (renumbered_entry l) (cond b (entry n z ∷ es) (e ∷ set_node es n z))
          ≡ cond b (entry (l n) (reread x z) ∷ map (renumbered_entry l) es)
          (renumbered_entry l e ∷ set_node (map (renumbered_entry l) es) (l n) (reread x z))
      by true h = refl
      by false h = ap (λ (k : List Entry). renumbered_entry l e ∷ k) h

  pub without_numbered : (es : List Entry) (q : ℕ) → Each IsWithin es → N q
      → map (renumbered_entry l) (without es q) ≡ without (map (renumbered_entry l) es) (l q)
  without_numbered [] q w a = refl
  without_numbered (e ∷ es) q w a =
      by (eqb e.number q) (without_numbered es q w.1 a)
      ∙ sym (ap (λ (b : Bool). cond b (map (renumbered_entry l) es)
      (renumbered_entry l e ∷ without (map (renumbered_entry l) es) (l q)))
      (same_eqb e.number q w.0.0 a))
    where
      by : (b : Bool)
          → map (renumbered_entry l) (without es q) ≡ without (map (renumbered_entry l) es) (l q)
          → map (renumbered_entry l) (cond b es (e ∷ without es q))
          ≡ cond b (map (renumbered_entry l) es)
          (renumbered_entry l e ∷ without (map (renumbered_entry l) es) (l q))
      by true h = refl
      by false h = ap (λ (k : List Entry). renumbered_entry l e ∷ k) h

  -- ---- reading elsewhere
  pub places_numbered : (r s : Place → Place) (cs : List Place)
      → Each (λ c. x (r c) ≡ s (x c)) cs → map x (map r cs) ≡ map s (map x cs)
  places_numbered r s [] a = refl
  places_numbered r s (c ∷ cs) a =
      ap₂ (λ (d : Place) (ds : List Place). d ∷ ds) a.0 (places_numbered r s cs a.1)

  node_numbered : (r s : Place → Place) (z : Node) → Each (λ c. x (r c) ≡ s (x c)) (reads z)
      → reread x (reread r z) ≡ reread s (reread x z)
  node_numbered r s (Source i) a = refl
  node_numbered r s (Flatten ins) a = ap Flatten (places_numbered r s ins a)
  node_numbered r s (Pdo c f) a = ap (λ (d : Place). Pdo d f) a.0
  node_numbered r s (Gbk c o i k) a = ap (λ (d : Place). Gbk d o i k) a.0
  node_numbered r s (Barrier ins o i d) a =
      ap (λ (cs : List Place). Barrier cs o i d) (places_numbered r s ins a)

  pub nodes_numbered : (r s : Place → Place) (es : List Entry)
      → ((c : Place) → N c.node → x (r c) ≡ s (x c)) → Each IsWithin es
      → map (renumbered_entry l) (map (reread_entry r) es)
      ≡ map (reread_entry s) (map (renumbered_entry l) es)
  nodes_numbered r s [] h w = refl
  nodes_numbered r s (e ∷ es) h w =
      ap₂ (λ (z : Node) (k : List Entry). entry (l e.number) z ∷ k)
      (node_numbered r s e.node
      (Each-weaker (λ (c : Place). N c.node) (λ (c : Place). x (r c) ≡ s (x c)) h
      (reads e.node) w.0.1))
      (nodes_numbered r s es h w.1)

  -- ---- what is read
  same_numbered : (y c : Place) → N y.node → N c.node → same_place (x y) (x c) ≡ same_place y c
  same_numbered y c a b = ap (λ (t : Bool). t && eqb y.out c.out) (same_eqb y.node c.node a b)

  pub among_numbered : (y : Place) (cs : List Place) → N y.node → Each (λ c. N c.node) cs
      → among (x y) (map x cs) ≡ among y cs
  among_numbered y [] a w = refl
  among_numbered y (c ∷ cs) a w =
      ap₂ (λ (s t : Bool). s || t) (same_numbered y c a w.0) (among_numbered y cs a w.1)

  uses_numbered : (y : Place) (z : Node) → N y.node → Each (λ c. N c.node) (reads z)
      → uses (x y) (reread x z) ≡ uses y z
  uses_numbered y (Source i) a w = refl
  uses_numbered y (Flatten ins) a w = among_numbered y ins a w
  uses_numbered y (Pdo c f) a w = ap (λ (t : Bool). t || false) (same_numbered y c a w.0)
  uses_numbered y (Gbk c o i k) a w = same_numbered y c a w.0
  uses_numbered y (Barrier ins o i d) a w = among_numbered y ins a w

  pub any_numbered : (y : Place) (es : List Entry) → N y.node → Each IsWithin es
      → any_node (uses (x y)) (map (renumbered_entry l) es) ≡ any_node (uses y) es
  any_numbered y [] a w = refl
  any_numbered y (e ∷ es) a w =
      ap₂ (λ (s t : Bool). s || t) (uses_numbered y e.node a w.0.1) (any_numbered y es a w.1)
