-- Nodes put in order are the same nodes, and their numbers ascend.
use Rattle.std.proofs.Common.{◌≡◌, ℕ, ◌+◌, ◌<◌, ◌≤◌, Bool, true, false, cond, eqb, ltb, List, [], ◌∷◌, Option, Some, refl, sym, ap, ◌∙◌, arith}
use Rattle.std.specs.List.{AllByRecursion as Each, flat_map}
use Rattle.std.proofs.lemmas.Bool.{eqb-true, lt-ltb, ltb-false, ltb-true}
use Rattle.exec_graph.specs.of_flume_collection.Sets.{gather}
use Rattle.exec_graph.proofs.of_flume_collection.Bagging.{Swaps, bag_by, put_by, spread-bag}
use Rattle.flume_value.proofs.EachLemmas.{Each-weaker}
use Rattle.exec_graph.specs.Meaning.{AllDiffer, node_at}
use Rattle.exec_graph.specs.Wellformed.{Ascends, size, total_size}
use Rattle.exec_graph.specs.declared.graph.Node.{Node}
use Rattle.exec_graph.specs.declared.graph.Entry.{Entry}
use Rattle.pardo_fuse.specs.Renumbering.{entries_in_order, put_entry}

-- ---- what holds of each
put_all : (P : Entry → Type 0) (e : Entry) (ds : List Entry) → P e → Each P ds
    → Each P (put_entry e ds)
put_all P e [] p a = (p, tt)
put_all P e (d ∷ ds) p a = by (ltb e.number d.number) (put_all P e ds p a.1)
  where
    by : (b : Bool) → Each P (put_entry e ds)
        → Each P (cond b (e ∷ (d ∷ ds)) (d ∷ put_entry e ds))
    by true i = (p, a)
    by false i = (a.0, i)

pub order_all : (P : Entry → Type 0) (es : List Entry) → Each P es → Each P (entries_in_order es)
order_all P [] a = tt
order_all P (e ∷ es) a = put_all P e (entries_in_order es) a.0 (order_all P es a.1)

-- ---- numbers that differ
abbrev Lacks : ℕ → List Entry → Type 0
Lacks n ds = Each (λ d. d.number ≡ n → ⊥) ds

put_differ : (e : Entry) (ds : List Entry) → Lacks e.number ds → AllDiffer ds
    → AllDiffer (put_entry e ds)
put_differ e [] a u = (tt, tt)
put_differ e (d ∷ ds) a u = by (ltb e.number d.number) (put_differ e ds a.1 u.1)
  where
    by : (b : Bool) → AllDiffer (put_entry e ds)
        → AllDiffer (cond b (e ∷ (d ∷ ds)) (d ∷ put_entry e ds))
    by true i = (a, u)
    by false i = (put_all (λ x. x.number ≡ d.number → ⊥) e ds (λ q. a.0 (sym q)) u.0, i)

pub order_differ : (es : List Entry) → AllDiffer es → AllDiffer (entries_in_order es)
order_differ [] u = tt
order_differ (e ∷ es) u =
    put_differ e (entries_in_order es) (order_all (λ d. d.number ≡ e.number → ⊥) es u.0)
    (order_differ es u.1)

-- ---- the node under a number
put_at : (e : Entry) (ds : List Entry) (n : ℕ) → Lacks e.number ds
    → node_at (put_entry e ds) n ≡ cond (eqb e.number n) (Some e.node) (node_at ds n)
put_at e [] n a = refl
put_at e (d ∷ ds) n a = by (ltb e.number d.number) (put_at e ds n a.1)
  where
    swap : (r s : Bool) → eqb e.number n ≡ r → eqb d.number n ≡ s
        → cond s (Some d.node) (cond r (Some e.node) (node_at ds n))
        ≡ cond r (Some e.node) (cond s (Some d.node) (node_at ds n))
    swap true true i j = absurd (a.0 (eqb-true d.number n j ∙ sym (eqb-true e.number n i)))
    swap true false i j = refl
    swap false true i j = refl
    swap false false i j = refl

    by : (b : Bool)
        → node_at (put_entry e ds) n ≡ cond (eqb e.number n) (Some e.node) (node_at ds n)
        → node_at (cond b (e ∷ (d ∷ ds)) (d ∷ put_entry e ds)) n
        ≡ cond (eqb e.number n) (Some e.node) (cond (eqb d.number n) (Some d.node) (node_at ds n))
    by true i = refl
    by false i =
        ap (λ (o : Option Node). cond (eqb d.number n) (Some d.node) o) i
        ∙ swap (eqb e.number n) (eqb d.number n) refl refl

pub order_at : (es : List Entry) (n : ℕ) → AllDiffer es
    → node_at (entries_in_order es) n ≡ node_at es n
order_at [] n u = refl
order_at (e ∷ es) n u =
    put_at e (entries_in_order es) n (order_all (λ d. d.number ≡ e.number → ⊥) es u.0)
    ∙ ap (λ (o : Option Node). cond (eqb e.number n) (Some e.node) o) (order_at es n u.1)

-- ---- sums
abbrev below : Entry → Entry → Bool
below e d = ltb e.number d.number

put_is : (e : Entry) (ds : List Entry) → put_entry e ds ≡ put_by below e ds
put_is e [] = refl
put_is e (d ∷ ds) =
    ap (λ (l : List Entry). cond (ltb e.number d.number) (e ∷ (d ∷ ds)) (d ∷ l)) (put_is e ds)

order_is : (es : List Entry) → entries_in_order es ≡ bag_by below es
order_is [] = refl
order_is (e ∷ es) = put_is e (entries_in_order es) ∙ ap (put_by below e) (order_is es)

pub order_sum : {Y B : Type 0} (s : Y → B → B) → Swaps s → (F : Entry → List Y)
    (es : List Entry) (b : B)
    → gather s (flat_map F (entries_in_order es)) b ≡ gather s (flat_map F es) b
order_sum s sw F es b =
    ap (λ (l : List Entry). gather s (flat_map F l) b) (order_is es)
    ∙ spread-bag below s sw F es b

put_size : (e : Entry) (ds : List Entry)
    → total_size (put_entry e ds) ≡ size e.node + total_size ds
put_size e [] = refl
put_size e (d ∷ ds) = by (ltb e.number d.number) (put_size e ds)
  where
    by : (b : Bool) → total_size (put_entry e ds) ≡ size e.node + total_size ds
        → total_size (cond b (e ∷ (d ∷ ds)) (d ∷ put_entry e ds))
        ≡ size e.node + (size d.node + total_size ds)
    by true i = refl
    by false i = omega (arith, i)

pub order_size : (es : List Entry) → total_size (entries_in_order es) ≡ total_size es
order_size [] = refl
order_size (e ∷ es) =
    let i = order_size es in let j = put_size e (entries_in_order es) in omega (arith, i, j)

-- ---- their order
less_of : (m n : ℕ) → m ≤ n → (m ≡ n → ⊥) → m < n
less_of m n h f = by (ltb m n) refl
  where
    by : (b : Bool) → ltb m n ≡ b → m < n
    by true i = ltb-true m n i
    by false i = let k : n ≤ m = ltb-false m n i in
        absurd (f (omega arith))

put_ascends : (e : Entry) (ds : List Entry) → Lacks e.number ds → Ascends ds
    → Ascends (put_entry e ds)
put_ascends e [] a u = (tt, tt)
put_ascends e (d ∷ ds) a u =
    by (ltb e.number d.number) refl (put_ascends e ds a.1 u.1)
  where
    by : (b : Bool) → ltb e.number d.number ≡ b → Ascends (put_entry e ds)
        → Ascends (cond b (e ∷ (d ∷ ds)) (d ∷ put_entry e ds))
    by true i h =
        let less : e.number < d.number = ltb-true e.number d.number i in (
          (
            less,
            Each-weaker (λ (x : Entry). d.number < x.number) (λ (x : Entry). e.number < x.number)
                (λ x k. omega (arith, less, k)) ds u.0,
          ),
          u,
        )
    by false i h = (
      put_all (λ x. d.number < x.number) e ds
          (less_of d.number e.number (ltb-false e.number d.number i) a.0) u.0,
      h,
    )

pub order_ascends : (es : List Entry) → AllDiffer es → Ascends (entries_in_order es)
order_ascends [] u = tt
order_ascends (e ∷ es) u =
    put_ascends e (entries_in_order es) (order_all (λ d. d.number ≡ e.number → ⊥) es u.0)
    (order_ascends es u.1)

-- ---- those that ascend stay
put_first : (e : Entry) (ds : List Entry) → Each (λ d. e.number < d.number) ds
    → put_entry e ds ≡ e ∷ ds
put_first e [] a = refl
put_first e (d ∷ ds) a =
    ap (λ (b : Bool). cond b (e ∷ (d ∷ ds)) (d ∷ put_entry e ds)) (lt-ltb e.number d.number a.0)

pub order_same : (es : List Entry) → Ascends es → entries_in_order es ≡ es
order_same [] u = refl
order_same (e ∷ es) u = ap (put_entry e) (order_same es u.1) ∙ put_first e es u.0
