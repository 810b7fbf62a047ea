-- There are classes: Gbks under labels, where related ones get one label.
use Rattle.std.proofs.Common.{◌≡◌, ℕ, ◌+◌, ◌<◌, ◌≤◌, eqb, Bool, true, false, cond, List, [], ◌∷◌, ◌++◌, length, Some, refl, sym, ap, ◌∙◌, subst, arith, inl, inr}
use Rattle.std.proofs.lemmas.Bool.{eqb-true, eq-eqb, false≢true}
use Rattle.std.specs.List.{AllByRecursion as Each}
use Rattle.flume_value.proofs.EachLemmas.{Each-append, Each-left, Each-right, Each-weaker}
use Rattle.exec_graph.specs.Meaning.{node_at}
use Rattle.exec_graph.specs.Readers.{those}
use Rattle.exec_graph.specs.Wellformed.{Ascends}
use Rattle.exec_graph.specs.declared.graph.Node.{Node}
use Rattle.exec_graph.specs.declared.graph.Entry.{Entry}
use Rattle.exec_graph.specs.declared.graph.Blocked.{Blocked}
use Rattle.exec_graph.proofs.Solving.{each_found}
use Rattle.exec_graph.proofs.Soundness.{differ_ascends}
use Rattle.plan_laws.specs.Operations.{times_named}
use Rattle.form_laws.specs.Classes.{AreClasses, AreLinked, IsGbk, IsGbkAt, IsLinked, Rises, related}
use Rattle.form_laws.proofs.Basics.{absent, counted, counts_head, none_counted}
use Rattle.form_laws.proofs.ByLabel.{by_label, label_each, label_rise, label_shared, label_some, label_times, rises_by, shared_label}
use Rattle.form_laws.proofs.Classing.{gbk_node, node_gbk, related_gbk, related_sym}
use Rattle.form_laws.proofs.Reading.{IsThat, is_gbk, those_all}

-- ---- links on and back

chain_on : (b : Blocked) (n : ℕ) (is : List ℕ) (j : ℕ) (js : List ℕ) (k : ℕ) → AreLinked b n is j
    → AreLinked b j js k → AreLinked b n (is ++ j ∷ js) k
chain_on b n [] j js k p q = (p, q)
chain_on b n (i ∷ is) j js k p q = (p.0, chain_on b i is j js k p.1 q)

linked_on : (b : Blocked) (n j k : ℕ) → IsLinked b n j → IsLinked b j k → IsLinked b n k
linked_on b n j k (inl e) q = subst (λ (x : ℕ). IsLinked b x k) (sym e) q
linked_on b n j k (inr p) (inl e) = subst (λ (x : ℕ). IsLinked b n x) e (inr p)
linked_on b n j k (inr p) (inr q) =
    inr (p.0 ++ j ∷ q.0, chain_on b n p.0 j q.0 k p.1 q.1)

chain_back : (b : Blocked) (n : ℕ) (is : List ℕ) (k : ℕ) → AreLinked b n is k → IsLinked b k n
chain_back b n [] k h = inr ([], related_sym b n k h)
chain_back b n (i ∷ is) k h =
    linked_on b k i n (chain_back b i is k h.1) (inr ([], related_sym b n i h.0))

linked_back : (b : Blocked) (n k : ℕ) → IsLinked b n k → IsLinked b k n
linked_back b n k (inl e) = inl (sym e)
linked_back b n k (inr p) = chain_back b n p.0 k p.1

-- ---- labels

-- what had the label of j gets that of i
abbrev relabel : (ℕ → ℕ) → ℕ → ℕ → ℕ → ℕ
relabel l i j k = cond (eqb (l k) (l j)) (l i) (l k)

-- each its own, and then pairs get one label
abbrev labels : List (ℕ × ℕ) → ℕ → ℕ
labels [] k = k
labels (p ∷ ps) k = relabel (labels ps) p.0 p.1 k

-- what has one label is linked
abbrev Sound : Blocked → (ℕ → ℕ) → Type 0
Sound b l = (n k : ℕ) → l n ≡ l k → IsLinked b n k

sound_by : (b : Blocked) (l : ℕ → ℕ) (i j n k : ℕ) (x y : Bool) → Sound b l → IsLinked b i j
    → eqb (l n) (l j) ≡ x → eqb (l k) (l j) ≡ y → cond x (l i) (l n) ≡ cond y (l i) (l k)
    → IsLinked b n k
sound_by b l i j n k true true s h p q e =
    s n k (eqb-true (l n) (l j) p ∙ sym (eqb-true (l k) (l j) q))
sound_by b l i j n k true false s h p q e =
    linked_on b n j k (s n j (eqb-true (l n) (l j) p))
    (linked_on b j i k (linked_back b i j h) (s i k e))
sound_by b l i j n k false true s h p q e =
    linked_on b n i k (s n i e)
    (linked_on b i j k h (s j k (sym (eqb-true (l k) (l j) q))))
sound_by b l i j n k false false s h p q e = s n k e

labels_sound : (b : Blocked) (ps : List (ℕ × ℕ)) → Each (λ p. IsLinked b p.0 p.1) ps
    → Sound b (labels ps)
labels_sound b [] a n k e = inl e
labels_sound b (p ∷ ps) a n k e =
    let l : ℕ → ℕ = labels ps in
    sound_by b l p.0 p.1 n k (eqb (l n) (l p.1)) (eqb (l k) (l p.1)) (labels_sound b ps a.1) a.0
    refl refl e

cond_same : (x : ℕ) (t : Bool) → cond t x x ≡ x
cond_same x true = refl
cond_same x false = refl

relabel_same : (l : ℕ → ℕ) (i j : ℕ) → relabel l i j i ≡ relabel l i j j
relabel_same l i j =
    cond_same (l i) (eqb (l i) (l j))
    ∙ sym (ap (λ (t : Bool). cond t (l i) (l j)) (eq-eqb (l j) (l j) refl))

labels_join : (ps : List (ℕ × ℕ)) → Each (λ p. labels ps p.0 ≡ labels ps p.1) ps
labels_join [] = tt
labels_join (p ∷ ps) =
    let l : ℕ → ℕ = labels ps in (
      relabel_same l p.0 p.1,
      Each-weaker (λ (q : ℕ × ℕ). l q.0 ≡ l q.1)
          (λ (q : ℕ × ℕ). relabel l p.0 p.1 q.0 ≡ relabel l p.0 p.1 q.1)
          (λ q e. ap (λ (x : ℕ). cond (eqb x (l p.1)) (l p.0) x) e) ps (labels_join ps),
    )

-- ---- the pairs of related ones

abbrev pairs_with : Blocked → ℕ → List ℕ → List (ℕ × ℕ)
pairs_with b n [] = []
pairs_with b n (k ∷ ks) = cond (related b n k) ((n, k) ∷ pairs_with b n ks) (pairs_with b n ks)

abbrev pairs : Blocked → List ℕ → List ℕ → List (ℕ × ℕ)
pairs b [] ks = []
pairs b (n ∷ ns) ks = pairs_with b n ks ++ pairs b ns ks

with_linked_by : (b : Blocked) (n k : ℕ) (ps : List (ℕ × ℕ)) (t : Bool) → related b n k ≡ t
    → Each (λ p. IsLinked b p.0 p.1) ps
    → Each (λ p. IsLinked b p.0 p.1) (cond t ((n, k) ∷ ps) ps)
with_linked_by b n k ps true e a = (inr ([], e), a)
with_linked_by b n k ps false e a = a

with_linked : (b : Blocked) (n : ℕ) (ks : List ℕ)
    → Each (λ p. IsLinked b p.0 p.1) (pairs_with b n ks)
with_linked b n [] = tt
with_linked b n (k ∷ ks) =
    with_linked_by b n k (pairs_with b n ks) (related b n k) refl (with_linked b n ks)

pairs_linked : (b : Blocked) (ns ks : List ℕ) → Each (λ p. IsLinked b p.0 p.1) (pairs b ns ks)
pairs_linked b [] ks = tt
pairs_linked b (n ∷ ns) ks =
    Each-append (λ p. IsLinked b p.0 p.1) (pairs_with b n ks) (pairs b ns ks)
    (with_linked b n ks) (pairs_linked b ns ks)

module _ (P : ℕ → ℕ → Type 0) (b : Blocked) where
  head_at : (n k : ℕ) (ps : List (ℕ × ℕ)) (t : Bool) → related b n k ≡ t
      → related b n k ≡ true → Each (λ p. P p.0 p.1) (cond t ((n, k) ∷ ps) ps) → P n k
  head_at n k ps true e h a = a.0
  head_at n k ps false e h a = absurd (false≢true (sym e ∙ h))

  rest_at : (n k : ℕ) (ps : List (ℕ × ℕ)) (t : Bool)
      → Each (λ p. P p.0 p.1) (cond t ((n, k) ∷ ps) ps) → Each (λ p. P p.0 p.1) ps
  rest_at n k ps true a = a.1
  rest_at n k ps false a = a

  with_at : (n k : ℕ) (ks : List ℕ) → Each (λ p. P p.0 p.1) (pairs_with b n ks)
      → 0 < times_named k ks → related b n k ≡ true → P n k
  with_at n k [] a h r = absurd (none_counted k h)
  with_at n k (j ∷ js) a h r =
      elim (counted k j js h) [
        | inl e ↦ head_at n k (pairs_with b n js) (related b n k) refl r
            (subst (λ (i : ℕ). Each (λ p. P p.0 p.1)
            (cond (related b n i) ((n, i) ∷ pairs_with b n js) (pairs_with b n js))) e a)
        | inr i ↦ with_at n k js (rest_at n j (pairs_with b n js) (related b n j) a) i r
      ]

  pair_at : (n k : ℕ) (ns ks : List ℕ) → Each (λ p. P p.0 p.1) (pairs b ns ks)
      → 0 < times_named n ns → 0 < times_named k ks → related b n k ≡ true → P n k
  pair_at n k [] ks a h i r = absurd (none_counted n h)
  pair_at n k (m ∷ ms) ks a h i r =
      elim (counted n m ms h) [
        | inl e ↦ with_at n k ks (subst (λ (x : ℕ). Each (λ p. P p.0 p.1) (pairs_with b x ks)) e
            (Each-left (λ p. P p.0 p.1) (pairs_with b m ks) (pairs b ms ks) a)) i r
        | inr j ↦ pair_at n k ms ks
            (Each-right (λ p. P p.0 p.1) (pairs_with b m ks) (pairs b ms ks) a) j i r
      ]

-- ---- the Gbks

gbks_are : (b : Blocked) (es : List Entry)
    → Each (λ e. node_at b.graph.nodes e.number ≡ Some e.node) es
    → Each (IsGbk b) (those is_gbk es)
gbks_are b es a =
    Each-weaker (IsThat b.graph.nodes is_gbk) (IsGbk b)
    (λ n k. subst IsGbkAt (sym k.1) (node_gbk k.0 k.2)) (those is_gbk es)
    (those_all b.graph.nodes es is_gbk a)

above_by : (m n : ℕ) (ns : List ℕ) (t : Bool) → m < n → Each (λ k. m < k) ns
    → Each (λ k. m < k) (cond t (n ∷ ns) ns)
above_by m n ns true h a = (h, a)
above_by m n ns false h a = a

above : (m : ℕ) (es : List Entry) → Each (λ d. m < d.number) es
    → Each (λ k. m < k) (those is_gbk es)
above m [] a = tt
above m (e ∷ es) a =
    above_by m e.number (those is_gbk es) (is_gbk e.node) a.0 (above m es a.1)

gbks_rise : (es : List Entry) → Ascends es → Rises (those is_gbk es)
gbks_rise [] a = tt
gbks_rise (e ∷ es) a =
    rises_by e.number (those is_gbk es) (is_gbk e.node) (above e.number es a.0)
    (gbks_rise es a.1)

found_by : (n : ℕ) (e : Entry) (es : List Entry) (x : Node) (s t : Bool) → eqb e.number n ≡ s
    → is_gbk e.node ≡ t → cond s (Some e.node) (node_at es n) ≡ Some x → is_gbk x ≡ true
    → (node_at es n ≡ Some x → 0 < times_named n (those is_gbk es))
    → 0 < times_named n (cond t (e.number ∷ those is_gbk es) (those is_gbk es))
found_by n e es x true true i j h g f =
    counts_head n e.number (those is_gbk es) (eqb-true e.number n i)
found_by n e es x true false i j h g f =
    let same : e.node ≡ x = cc in absurd (false≢true (sym j ∙ ap is_gbk same ∙ g))
found_by n e es x false true i j h g f = let k = f h in omega arith
found_by n e es x false false i j h g f = f h

gbk_found : (n : ℕ) (es : List Entry) (x : Node) → node_at es n ≡ Some x → is_gbk x ≡ true
    → 0 < times_named n (those is_gbk es)
gbk_found n [] x h g = let bad : ⊥ = cc in absurd bad
gbk_found n (e ∷ es) x h g =
    found_by n e es x (eqb e.number n) (is_gbk e.node) refl refl h g
    (λ i. gbk_found n es x i g)

rises_once : (n : ℕ) (ns : List ℕ) → Rises ns → times_named n ns ≤ 1
rises_once n [] h = omega arith
rises_once n (k ∷ ks) h = by (rises_once n ks h.1) (eqb k n) refl
  where
    by : times_named n ks ≤ 1 → (t : Bool) → eqb k n ≡ t → cond t 1 0 + times_named n ks ≤ 1
    by r true e =
        let same : k ≡ n = eqb-true k n e in
        let none : times_named n ks ≡ 0 =
        absent (λ m. k < m) n ks h.0 (λ l. omega arith) in
        omega arith
    by r false e = omega arith

-- ---- the classes

gbk_in : (b : Blocked) (n : ℕ) → IsGbk b n → 0 < times_named n (those is_gbk b.graph.nodes)
gbk_in b n g =
    let x = gbk_node (node_at b.graph.nodes n) g in gbk_found n b.graph.nodes x.0 x.1 x.2

abbrev label_of : Blocked → ℕ → ℕ
label_of b =
    labels (pairs b (those is_gbk b.graph.nodes) (those is_gbk b.graph.nodes))

related_label : (b : Blocked) (n k : ℕ) → IsGbk b n → IsGbk b k → related b n k ≡ true
    → label_of b n ≡ label_of b k
related_label b n k g h r =
    let ns : List ℕ = those is_gbk b.graph.nodes in
    pair_at (λ i j. label_of b i ≡ label_of b j) b n k ns ns (labels_join (pairs b ns ns))
    (gbk_in b n g) (gbk_in b k h) r

chain_label : (b : Blocked) (n : ℕ) (is : List ℕ) (k : ℕ) → IsGbk b n → IsGbk b k
    → AreLinked b n is k → label_of b n ≡ label_of b k
chain_label b n [] k g h r = related_label b n k g h r
chain_label b n (i ∷ is) k g h r =
    let j : IsGbk b i = related_gbk b n i r.0 in
    related_label b n i g j r.0 ∙ chain_label b i is k j h r.1

linked_label : (b : Blocked) (n k : ℕ) → IsGbk b n → IsGbk b k → IsLinked b n k
    → label_of b n ≡ label_of b k
linked_label b n k g h (inl e) = ap (label_of b) e
linked_label b n k g h (inr c) = chain_label b n c.0 k g h c.1

pub some_classes : (b : Blocked) → Ascends b.graph.nodes → (cs : List (List ℕ)) × AreClasses b cs
some_classes b asc =
    let es : List Entry = b.graph.nodes in
    let ns : List ℕ = those is_gbk es in
    let l : ℕ → ℕ = label_of b in
    let rise : Rises ns = gbks_rise es asc in
    let small : length ns ≤ length ns = omega arith in (
      by_label l (length ns) ns,
      record {
        gbks = label_each (IsGbk b) l (length ns) ns
            (gbks_are b es (each_found es (differ_ascends es asc)));
        once = λ n g.
            let t = label_times l (length ns) ns small n in
            let some = gbk_in b n g in
            let few = rises_once n ns rise in
            omega arith;
        linked = λ n k g h. (
          λ s. labels_sound b (pairs b ns ns) (pairs_linked b ns ns) n k
              (shared_label l (length ns) ns n k s),
          λ i. label_shared l (length ns) ns n k small (gbk_in b n g) (gbk_in b k h)
              (linked_label b n k g h i),
        );
        some = label_some l (length ns) ns;
        rise = label_rise l (length ns) ns rise;
      },
    )
