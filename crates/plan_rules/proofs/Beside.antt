-- What nodes give, and collections of other nodes beside it, are together not more than the
-- collections of the graph.
use Rattle.std.proofs.Common.{◌≡◌, ℕ, ◌+◌, ◌<◌, ◌≤◌, ◌⊎◌, Bool, true, false, cond, eqb, ◌||◌, List, [], ◌∷◌, ◌++◌, map, length, Option, Some, None, refl, sym, ap, ◌∙◌, subst, arith, inl, inr}
use Rattle.std.proofs.lemmas.Bool.{eqb-true, eq-eqb, false≢true}
use Rattle.std.specs.List.{AllByRecursion}
use Rattle.flume_value.proofs.EachLemmas.{Each-append, Each-weaker}
use Rattle.graph_laws.specs.of_exec_graph.Meaning.{node_at, place}
use Rattle.graph_laws.specs.of_exec_graph.Wellformed.{Ascends}
use Rattle.graph_laws.specs.of_exec_graph.declared.graph.Place.{Place}
use Rattle.graph_laws.specs.of_exec_graph.declared.graph.Entry.{Entry}
use Rattle.plan_rules.proofs.Apart.{Misses}
use Rattle.plan_rules.proofs.Collections.{collections, node_outs}
use Rattle.plan_rules.proofs.Keys.{outs_of_number}
use Rattle.plan_rules.proofs.Members.{Differ, in_left, in_right, lighter, shorter, weight, weight-append}
use Rattle.plan_rules.proofs.Places.{entry_places, numbers, numbers_weigh}
use Rattle.plan_laws.specs.Operations.{IsIn}
use Rattle.plan_laws.proofs.Running.{in_append}

-- ---- nodes that are none of these

abbrev holds : ℕ → List ℕ → Bool
holds n [] = false
holds n (k ∷ ks) = eqb n k || holds n ks

holds_misses : (n : ℕ) (ks : List ℕ) → holds n ks ≡ false → Misses ks n
holds_misses n [] h = tt
holds_misses n (k ∷ ks) h = by (eqb n k) refl h (holds_misses n ks)
  where
    by : (b : Bool) → eqb n k ≡ b → (b || holds n ks) ≡ false
        → (holds n ks ≡ false → Misses ks n) → Misses (k ∷ ks) n
    by true e i f = absurd (false≢true (sym i))
    by false e i f = ((λ s. false≢true (sym e ∙ eq-eqb n k s)), f i)

misses_holds : (n : ℕ) (ks : List ℕ) → Misses ks n → holds n ks ≡ false
misses_holds n [] m = refl
misses_holds n (k ∷ ks) m = by (eqb n k) refl (misses_holds n ks m.1)
  where
    by : (b : Bool) → eqb n k ≡ b → holds n ks ≡ false → (b || holds n ks) ≡ false
    by true e f = absurd (m.0 (eqb-true n k e))
    by false e f = f

abbrev others : List ℕ → List Entry → List Entry
others ns [] = []
others ns (e ∷ es) = cond (holds e.number ns) (others ns es) (e ∷ others ns es)

-- what holds of all entries, and what is not held, of the others
others_have : (P : Entry → Type 0) (ns : List ℕ) (es : List Entry) → AllByRecursion P es
    → AllByRecursion P (others ns es)
others_have P ns [] a = tt
others_have P ns (e ∷ es) a =
    elim (holds e.number ns) as
    (λ b. AllByRecursion P (cond b (others ns es) (e ∷ others ns es)))
    [ true ↦ others_have P ns es a.1 | false ↦ (a.0, others_have P ns es a.1) ]

others_miss : (ns : List ℕ) (es : List Entry)
    → AllByRecursion (Misses ns) (numbers (others ns es))
others_miss ns [] = tt
others_miss ns (e ∷ es) = by (holds e.number ns) refl (others_miss ns es)
  where
    by : (b : Bool) → holds e.number ns ≡ b
        → AllByRecursion (Misses ns) (numbers (others ns es))
        → AllByRecursion (Misses ns) (numbers (cond b (others ns es) (e ∷ others ns es)))
    by true h f = f
    by false h f = (holds_misses e.number ns h, f)

numbers_have : (P : ℕ → Type 0) (es : List Entry) → AllByRecursion (λ (e : Entry). P e.number) es
    → AllByRecursion P (numbers es)
numbers_have P [] a = tt
numbers_have P (e ∷ es) a = (a.0, numbers_have P es a.1)

have_numbers : (P : ℕ → Type 0) (es : List Entry) → AllByRecursion P (numbers es)
    → AllByRecursion (λ (e : Entry). P e.number) es
have_numbers P [] a = tt
have_numbers P (e ∷ es) a = (a.0, have_numbers P es a.1)

others_differ : (ns : List ℕ) (es : List Entry) → Differ (numbers es)
    → Differ (numbers (others ns es))
others_differ ns [] d = tt
others_differ ns (e ∷ es) d =
    elim (holds e.number ns) as
    (λ b. Differ (numbers (cond b (others ns es) (e ∷ others ns es)))) [
      | true ↦ others_differ ns es d.1
      | false ↦ (
        numbers_have (λ k. e.number ≡ k → ⊥) (others ns es)
            (others_have (λ (x : Entry). e.number ≡ x.number → ⊥) ns es
            (have_numbers (λ k. e.number ≡ k → ⊥) es d.0)),
        others_differ ns es d.1,
      )
    ]

each_number : (es : List Entry) → AllByRecursion (λ (e : Entry). IsIn e.number (numbers es)) es
each_number [] = tt
each_number (e ∷ es) = (
  inl refl,
  Each-weaker (λ (x : Entry). IsIn x.number (numbers es))
      (λ (x : Entry). IsIn x.number (numbers (e ∷ es))) (λ x h. inr h) es (each_number es),
)

-- ---- both lists differ

turned : (ns ks : List ℕ) → AllByRecursion (Misses ns) ks → AllByRecursion (Misses ks) ns
turned [] ks a = tt
turned (n ∷ ns) ks a = (
  Each-weaker (Misses (n ∷ ns)) (λ k. n ≡ k → ⊥) (λ k h e. h.0 (sym e)) ks a,
  turned ns ks (Each-weaker (Misses (n ∷ ns)) (Misses ns) (λ k h. h.1) ks a),
)

differ_both : (ns ks : List ℕ) → Differ ns → Differ ks → AllByRecursion (Misses ks) ns
    → Differ (ns ++ ks)
differ_both [] ks d e a = e
differ_both (n ∷ ns) ks d e a =
    (Each-append (λ k. n ≡ k → ⊥) ns ks d.0 a.0, differ_both ns ks d.1 e a.1)

-- ---- collections of the other nodes

out_node : (n : ℕ) (c : Place) (js : List ℕ) → IsIn c (map (place n) js) → n ≡ c.node
out_node n c [] h = absurd h
out_node n c (j ∷ js) (inl e) = ap (λ (d : Place). d.node) e
out_node n c (j ∷ js) (inr h) = out_node n c js h

others_hold : (ns : List ℕ) (es : List Entry) (c : Place) → Misses ns c.node
    → IsIn c (collections es) → IsIn c (collections (others ns es))
others_hold ns [] c m h = absurd h
others_hold ns (e ∷ es) c m h =
    by (holds e.number ns) refl (others_hold ns es c m)
    (in_append c (entry_places e) (collections es) h)
  where
    by : (b : Bool) → holds e.number ns ≡ b
        → (IsIn c (collections es) → IsIn c (collections (others ns es)))
        → IsIn c (entry_places e) ⊎ IsIn c (collections es)
        → IsIn c (collections (cond b (others ns es) (e ∷ others ns es)))
    by true i f (inl q) =
        let same : e.number ≡ c.node = out_node e.number c (node_outs e.node) q in
        let none : holds e.number ns ≡ false =
        ap (λ (n : ℕ). holds n ns) same ∙ misses_holds c.node ns m in
        absurd (false≢true (sym none ∙ i))
    by true i f (inr q) = f q
    by false i f (inl q) = in_left c (entry_places e) (collections (others ns es)) q
    by false i f (inr q) =
        in_right c (entry_places e) (collections (others ns es)) (f q)

-- ---- together

pub beside_short : (es : List Entry) (ns : List ℕ) (cs : List Place)
    → AllByRecursion (λ e. node_at es e.number ≡ Some e.node) es → Differ (numbers es)
    → Differ ns → AllByRecursion (λ n. IsIn n (numbers es)) ns
    → Differ cs → AllByRecursion (λ c. IsIn c (collections es)) cs
    → AllByRecursion (λ c. Misses ns c.node) cs
    → weight (outs_of_number es) ns + length cs ≤ length (collections es)
beside_short es ns cs f d dn sn dc hc ac =
    let rest : List Entry = others ns es in
    let w : ℕ → ℕ = outs_of_number es in
    let l = lighter w (ns ++ numbers rest) (numbers es)
    (differ_both ns (numbers rest) dn (others_differ ns es d)
    (turned ns (numbers rest) (others_miss ns es)))
    (Each-append (λ n. IsIn n (numbers es)) ns (numbers rest) sn
    (numbers_have (λ n. IsIn n (numbers es)) rest
    (others_have (λ (e : Entry). IsIn e.number (numbers es)) ns es (each_number es)))) in
    let s = weight-append w ns (numbers rest) in
    let r = numbers_weigh es rest
    (others_have (λ (e : Entry). node_at es e.number ≡ Some e.node) ns es f) in
    let a = numbers_weigh es es f in
    let c = shorter cs (collections rest) dc
    (all_held cs ac hc) in
    omega arith
  where
    all_held : (ds : List Place) → AllByRecursion (λ c. Misses ns c.node) ds
        → AllByRecursion (λ c. IsIn c (collections es)) ds
        → AllByRecursion (λ c. IsIn c (collections (others ns es))) ds
    all_held [] a h = tt
    all_held (c ∷ ds) a h = (others_hold ns es c a.0 h.0, all_held ds a.1 h.1)

-- ascending numbers differ
above_apart : (n : ℕ) (es : List Entry) → AllByRecursion (λ (e : Entry). n < e.number) es
    → AllByRecursion (λ k. n ≡ k → ⊥) (numbers es)
above_apart n [] a = tt
above_apart n (e ∷ es) a =
    let low : n < e.number = a.0 in
    ((λ s. let same : n ≡ e.number = s in omega arith), above_apart n es a.1)

pub ascending_differ : (es : List Entry) → Ascends es → Differ (numbers es)
ascending_differ [] a = tt
ascending_differ (e ∷ es) a = (above_apart e.number es a.0, ascending_differ es a.1)
