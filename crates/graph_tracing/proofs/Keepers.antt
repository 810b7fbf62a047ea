-- The first Pdo that reads a collection, and what a Pdo reads.
use Rattle.std.proofs.Common.{◌≡◌, ℕ, ◌<◌, ◌≤◌, Bool, true, false, cond, eqb, ltb, List, [], ◌∷◌, Option, Some, None, refl, sym, ap, ◌∙◌, subst, arith}
use Rattle.std.proofs.lemmas.Bool.{eq-eqb, eqb-true, false≢true, lt-ltb, ltb-true, ne_eqb}
use Rattle.exec_graph.specs.Forests.{Forest}
use Rattle.exec_graph.specs.Meaning.{AllDiffer, node_at, place}
use Rattle.exec_graph.specs.Readers.{calls_on}
use Rattle.exec_graph.specs.Wellformed.{Ascends}
use Rattle.exec_graph.specs.declared.graph.Entry.{Entry}
use Rattle.exec_graph.specs.declared.graph.Graph.{Graph}
use Rattle.exec_graph.specs.declared.graph.Node.{Node}
use Rattle.exec_graph.specs.declared.graph.Node.TheVariants.{Source, Flatten, Pdo, Gbk, Barrier}
use Rattle.exec_graph.specs.declared.graph.Place.{Place}
use Rattle.exec_graph.proofs.Entries.{all_found}
use Rattle.exec_graph.proofs.Soundness.{differ_ascends}
use Rattle.graph_rewrites.specs.Rewrites.{CanBeKid, CanBeSibling, forest_at, input_at, input_of}
use Rattle.pardo_fuse.specs.Readers.{is_pdo}
use Rattle.pardo_fuse.proofs.Places.{same_is, same_self}
use Rattle.graph_tracing.specs.inner.Callers.{below, first_caller, keeper_by, keeper_in, read_by, read_in}
use Rattle.graph_tracing.proofs.Effects.{Calls}
use Rattle.graph_joining.proofs.Passes.{pdo_is as pdo_self}

-- ---- Pdos

pub can_pair : (g : Graph) (p q : ℕ) (c : Place) → Calls g p c → Calls g q c → (p ≡ q → ⊥)
    → CanBeSibling g p q
can_pair g p q c a b differ = record {
  keeper = pdo_self (node_at g.nodes p) (ap is_pdo a.1);
  other = pdo_self (node_at g.nodes q) (ap is_pdo b.1)
      ∙ ap (λ (x : Place). Some (Pdo x (forest_at g q)))
      (ap input_of b.1 ∙ sym (ap input_of a.1));
  differ = differ;
}

pub can_kid : (g : Graph) (p k q : ℕ) → is_pdo (node_at g.nodes p) ≡ true
    → Calls g q (place p k) → CanBeKid g p k q
can_kid g p k q a b = record {
  keeper = pdo_self (node_at g.nodes p) a;
  other = pdo_self (node_at g.nodes q) (ap is_pdo b.1)
      ∙ ap (λ (x : Place). Some (Pdo x (forest_at g q))) (ap input_of b.1);
}

calls_is : (c : Place) (x : Node) → calls_on c x ≡ true → (f : Forest) × (x ≡ Pdo c f)
calls_is c (Source r) h = absurd (false≢true h)
calls_is c (Flatten ins) h = absurd (false≢true h)
calls_is c (Pdo d f) h = (f, ap (λ (y : Place). Pdo y f) (sym (same_is c d h)))
calls_is c (Gbk d o l k) h = absurd (false≢true h)
calls_is c (Barrier ins o l a) h = absurd (false≢true h)

-- ---- the first of them

first_found : (c : Place) (es : List Entry) (p : ℕ) → AllDiffer es
    → first_caller c es ≡ Some p → (f : Forest) × (node_at es p ≡ Some (Pdo c f))
first_found c [] p a h = let bad : ⊥ = cc in absurd bad
first_found c (e ∷ es) p a h = by (calls_on c e.node) refl h (first_found c es p a.1)
  where
    by : (b : Bool) → calls_on c e.node ≡ b → cond b (Some e.number) (first_caller c es) ≡ Some p
        → (first_caller c es ≡ Some p → (f : Forest) × (node_at es p ≡ Some (Pdo c f)))
        → (f : Forest) × (node_at (e ∷ es) p ≡ Some (Pdo c f))
    by true i j more =
        let same : e.number ≡ p = cc in
        let x = calls_is c e.node i in (
          x.0,
          ap (λ b. cond b (Some e.node) (node_at es p)) (eq-eqb e.number p same)
              ∙ ap (λ (y : Node). Some y) x.1,
        )
    by false i j more =
        let there = more j in
        let other : p ≡ e.number → ⊥ =
        all_found (λ d. d.number ≡ e.number → ⊥) es p (Pdo c there.0) there.1 a.0 in (
          there.0,
          ap (λ b. cond b (Some e.node) (node_at es p)) (ne_eqb e.number p (λ z. other (sym z)))
              ∙ there.1,
        )

pub record IsUpTo (o : Option ℕ) (m : ℕ) : Type 0 where
  pub first : ℕ
  pub is : o ≡ Some first
  pub least : first ≤ m

first_least : (c : Place) (es : List Entry) (m : ℕ) (f : Forest) → Ascends es
    → node_at es m ≡ Some (Pdo c f) → IsUpTo (first_caller c es) m
first_least c [] m f a h = let bad : ⊥ = cc in absurd bad
first_least c (e ∷ es) m f a h =
    by (calls_on c e.node) (eqb e.number m) refl refl h (first_least c es m f a.1)
  where
    by : (b d : Bool) → calls_on c e.node ≡ b → eqb e.number m ≡ d
        → cond d (Some e.node) (node_at es m) ≡ Some (Pdo c f)
        → (node_at es m ≡ Some (Pdo c f) → IsUpTo (first_caller c es) m)
        → IsUpTo (cond b (Some e.number) (first_caller c es)) m
    by true true i j k more =
        let same : e.number ≡ m = eqb-true e.number m j in
        record { first = e.number; is = refl; least = omega arith }
    by true false i j k more =
        let up : e.number < m = all_found (λ d. e.number < d.number) es m (Pdo c f) k a.0 in
        record { first = e.number; is = refl; least = omega arith }
    by false true i j k more =
        let node : e.node ≡ Pdo c f = cc in
        absurd (false≢true (sym i ∙ ap (calls_on c) node ∙ same_self c))
    by false false i j k more = more k

-- ---- a sibling

below_some : (q p : ℕ) (o : Option ℕ) → below q o ≡ Some p → (o ≡ Some p) × (p < q)
below_some q p None h = let bad : ⊥ = cc in absurd bad
below_some q p (Some m) h = by (ltb m q) refl h
  where
    by : (b : Bool) → ltb m q ≡ b → cond b (Some m) None ≡ Some p → (Some m ≡ Some p) × (p < q)
    by true i j =
        let same : m ≡ p = cc in (j, subst (λ (n : ℕ). n < q) same (ltb-true m q i))
    by false i j = let bad : ⊥ = cc in absurd bad

below_none : (q : ℕ) (o : Option ℕ) (p : ℕ) → IsUpTo o p → p < q → below q o ≡ None → ⊥
below_none q o p u less h =
    let first : ℕ = u.first in
    let low : first ≤ p = u.least in
    let some : below q o ≡ Some first =
    ap (below q) u.is ∙ ap (λ b. cond b (Some first) None) (lt-ltb first q (omega arith)) in
    let both : None ≡ Some first = sym h ∙ some in
    let bad : ⊥ = cc in bad

keeper_at : (g : Graph) (q p : ℕ) (o : Option Node) → Ascends g.nodes → node_at g.nodes q ≡ o
    → keeper_by g.nodes q o ≡ Some p → (p < q) × CanBeSibling g p q
keeper_at g q p None ok at h = let bad : ⊥ = cc in absurd bad
keeper_at g q p (Some (Source r)) ok at h = let bad : ⊥ = cc in absurd bad
keeper_at g q p (Some (Flatten ins)) ok at h = let bad : ⊥ = cc in absurd bad
keeper_at g q p (Some (Pdo c f)) ok at h =
    let s = below_some q p (first_caller c g.nodes) h in
    let there = first_found c g.nodes p (differ_ascends g.nodes ok) s.0 in
    (s.1, can_pair g p q c there (f, at) (λ e. let less = s.1 in omega arith))
keeper_at g q p (Some (Gbk c o l k)) ok at h = let bad : ⊥ = cc in absurd bad
keeper_at g q p (Some (Barrier ins o l a)) ok at h = let bad : ⊥ = cc in absurd bad

pub keeper_some : (g : Graph) (q p : ℕ) → Ascends g.nodes → keeper_in g.nodes q ≡ Some p
    → (p < q) × CanBeSibling g p q
keeper_some g q p ok h = keeper_at g q p (node_at g.nodes q) ok refl h

pub keeper_none : (g : Graph) (q p : ℕ) → Ascends g.nodes → keeper_in g.nodes q ≡ None → p < q
    → CanBeSibling g p q → ⊥
keeper_none g q p ok h less can =
    below_none q (first_caller (input_at g p) g.nodes) p
    (first_least (input_at g p) g.nodes p (forest_at g p) ok can.keeper) less
    (sym (ap (keeper_by g.nodes q) can.other) ∙ h)

-- ---- a kid

read_at : (g : Graph) (q : ℕ) (c : Place) (o : Option Node) → node_at g.nodes q ≡ o
    → read_by g.nodes o ≡ Some c → CanBeKid g c.node c.out q
read_at g q c None at h = let bad : ⊥ = cc in absurd bad
read_at g q c (Some (Source r)) at h = let bad : ⊥ = cc in absurd bad
read_at g q c (Some (Flatten ins)) at h = let bad : ⊥ = cc in absurd bad
read_at g q c (Some (Pdo d f)) at h = by (is_pdo (node_at g.nodes d.node)) refl h
  where
    by : (b : Bool) → is_pdo (node_at g.nodes d.node) ≡ b → cond b (Some d) None ≡ Some c
        → CanBeKid g c.node c.out q
    by true i j =
        let same : d ≡ c = cc in
        can_kid g c.node c.out q
        (ap (λ (x : Place). is_pdo (node_at g.nodes x.node)) (sym same) ∙ i)
        (f, at ∙ ap (λ (x : Place). Some (Pdo x f)) same)
    by false i j = let bad : ⊥ = cc in absurd bad
read_at g q c (Some (Gbk d o l k)) at h = let bad : ⊥ = cc in absurd bad
read_at g q c (Some (Barrier ins o l a)) at h = let bad : ⊥ = cc in absurd bad

pub read_some : (g : Graph) (q : ℕ) (c : Place) → read_in g.nodes q ≡ Some c
    → CanBeKid g c.node c.out q
read_some g q c h = read_at g q c (node_at g.nodes q) refl h

pub read_none : (g : Graph) (q p k : ℕ) → read_in g.nodes q ≡ None → CanBeKid g p k q → ⊥
read_none g q p k h can =
    let some : read_in g.nodes q ≡ Some (place p k) =
    ap (read_by g.nodes) can.other
    ∙ ap (λ b. cond b (Some (place p k)) None) (ap is_pdo can.keeper) in
    let both : None ≡ Some (place p k) = sym h ∙ some in
    let bad : ⊥ = cc in bad
