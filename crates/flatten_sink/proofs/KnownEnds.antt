-- The ends that are told of a graph's nodes.
use Rattle.std.proofs.Common.{◌≡◌, ℕ, ◌+◌, ◌<◌, ◌≤◌, Bool, true, false, cond, eqb, ltb, List, [], ◌∷◌, Option, Some, None, refl, sym, ap, ◌∙◌, subst, arith}
use Rattle.std.proofs.lemmas.Bool.{eq-eqb, eqb-true, ltb-true, ltb-false}
use Rattle.std.specs.List.{AllByRecursion}
use Rattle.flume_value.proofs.EachLemmas.{Each-weaker}
use Rattle.exec_graph.specs.Meaning.{reads}
use Rattle.exec_graph.specs.declared.graph.Place.{Place}
use Rattle.exec_graph.specs.declared.graph.Entry.{Entry}
use Rattle.exec_graph.specs.declared.graph.Graph.{Graph}
use Rattle.flatten_sink.specs.inner.Ends.{AreEnds, AreWithin, end_behind, higher, known, or_zero, raised}

-- ---- an end that is raised

raised_by : (b c : ℕ → Option ℕ) (m k high n : ℕ) (t : Bool) → eqb n m ≡ t
    → high ≡ higher (or_zero (b m)) k → c n ≡ cond t (Some high) (b n)
    → or_zero (c n) ≡ cond t (higher (or_zero (b n)) k) (or_zero (b n))
raised_by b c m k high n true i h e =
    let same : n ≡ m = eqb-true n m i in
    ap or_zero e ∙ h ∙ ap (λ (j : ℕ). higher (or_zero (b j)) k) (sym same)
raised_by b c m k high n false i h e = ap or_zero e

pub raised_put : (b c : ℕ → Option ℕ) (m k high now : ℕ) → high ≡ higher now k
    → now ≡ or_zero (b m) → ((n : ℕ) → c n ≡ cond (eqb n m) (Some high) (b n)) → (n : ℕ)
    → or_zero (c n) ≡ cond (eqb n m) (higher (or_zero (b n)) k) (or_zero (b n))
raised_put b c m k high now h w e n =
    raised_by b c m k high n (eqb n m) refl (h ∙ ap (λ (j : ℕ). higher j k) w) (e n)

-- ---- the end of each node is behind its readers

at_least : (x y z : ℕ) → x ≤ y → y ≤ z → x ≤ z
at_least x y z l m = omega arith

high_by : (a b : ℕ) (t : Bool) → ltb a b ≡ t → (a ≤ cond t b a) × (b ≤ cond t b a)
high_by a b true i = let l : a < b = ltb-true a b i in (omega arith, omega arith)
high_by a b false i = (omega arith, ltb-false a b i)

up_by : (a k : ℕ) (t : Bool) → a ≤ cond t (higher a k) a
up_by a k true = (high_by a k (ltb a k) refl).0
up_by a k false = omega arith

raised_up : (k : ℕ) (cs : List Place) (n a : ℕ) → a ≤ raised k cs n a
raised_up k [] n a = omega arith
raised_up k (c ∷ cs) n a =
    let b : ℕ = cond (eqb n c.node) (higher a k) a in
    at_least a b (raised k cs n b) (up_by a k (eqb n c.node)) (raised_up k cs n b)

raised_in : (k : ℕ) (cs : List Place) (a : ℕ → ℕ)
    → AllByRecursion (λ (c : Place). k ≤ raised k cs c.node (a c.node)) cs
raised_in k [] a = tt
raised_in k (c ∷ cs) a = (
  at_least k (higher (a c.node) k)
      (raised k cs c.node (cond (eqb c.node c.node) (higher (a c.node) k) (a c.node)))
      (high_by (a c.node) k (ltb (a c.node) k) refl).1
      (subst (λ (t : Bool). higher (a c.node) k
      ≤ raised k cs c.node (cond t (higher (a c.node) k) (a c.node)))
      (sym (eq-eqb c.node c.node refl)) (raised_up k cs c.node (higher (a c.node) k))),
  raised_in k cs (λ n. cond (eqb n c.node) (higher (a n) k) (a n)),
)

behind_up : (es : List Entry) (n a : ℕ) → a ≤ end_behind es n a
behind_up [] n a = omega arith
behind_up (e ∷ es) n a =
    at_least a (raised (e.number + 1) (reads e.node) n a)
    (end_behind es n (raised (e.number + 1) (reads e.node) n a))
    (raised_up (e.number + 1) (reads e.node) n a)
    (behind_up es n (raised (e.number + 1) (reads e.node) n a))

all_behind : (es : List Entry) (a : ℕ → ℕ)
    → AllByRecursion (λ (e : Entry).
    AllByRecursion (λ (c : Place). e.number < end_behind es c.node (a c.node)) (reads e.node)) es
all_behind [] a = tt
all_behind (e ∷ es) a = (
  Each-weaker (λ (c : Place). e.number + 1
      ≤ raised (e.number + 1) (reads e.node) c.node (a c.node))
      (λ (c : Place). e.number
      < end_behind es c.node (raised (e.number + 1) (reads e.node) c.node (a c.node)))
      (λ c l. below e.number (raised (e.number + 1) (reads e.node) c.node (a c.node))
      (end_behind es c.node (raised (e.number + 1) (reads e.node) c.node (a c.node))) l
      (behind_up es c.node (raised (e.number + 1) (reads e.node) c.node (a c.node))))
      (reads e.node) (raised_in (e.number + 1) (reads e.node) a),
  all_behind es (λ n. raised (e.number + 1) (reads e.node) n (a n)),
)
  where
    below : (x y z : ℕ) → x + 1 ≤ y → y ≤ z → x < z
    below x y z l m = omega arith

pub known_is : (o : Option ℕ) (k : ℕ) (t : Bool) → cond t o None ≡ Some k → o ≡ Some k
known_is o k true e = e
known_is o k false e = let bad : ⊥ = cc in absurd bad

within_by : (n k end : ℕ) (o : Option ℕ) → n < end → or_zero o ≡ end → o ≡ Some k → n < k
within_by n k end o l e i = let s : or_zero o ≡ k = ap or_zero i in omega arith

all_within : (es : List Entry) (first : ℕ) (ends : ℕ → Option ℕ)
    → ((n : ℕ) → or_zero (ends n) ≡ end_behind es n 0) → AreWithin (known first ends) es
all_within es first ends h =
    Each-weaker (λ (e : Entry).
    AllByRecursion (λ (c : Place). e.number < end_behind es c.node 0) (reads e.node))
    (λ (e : Entry). AllByRecursion (λ (c : Place). (k : ℕ) → known first ends c.node ≡ Some k
    → e.number < k) (reads e.node))
    (λ e a. Each-weaker (λ (c : Place). e.number < end_behind es c.node 0)
    (λ (c : Place). (k : ℕ) → known first ends c.node ≡ Some k → e.number < k)
    (λ c l k i. within_by e.number k (end_behind es c.node 0) (ends c.node) l (h c.node)
    (known_is (ends c.node) k (ltb c.node first) i)) (reads e.node) a) es (all_behind es (λ n. 0))

pub ends_found : (g : Graph) (es : List Entry) (first : ℕ) (ends : ℕ → Option ℕ)
    → es ≡ g.nodes → first ≡ g.next → ((n : ℕ) → or_zero (ends n) ≡ end_behind es n 0)
    → AreEnds g first ends
ends_found g es first ends e f h = record {
  low = omega arith;
  within = subst (AreWithin (known first ends)) e (all_within es first ends h);
}
