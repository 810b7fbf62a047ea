-- One accumulator a key, keys ascending.
use Rattle.std.proofs.Common.{◌≡◌, ◌≤◌, ◌+◌, true, false, cond, List, [], ◌∷◌, ◌++◌, map, length, refl, sym, ap, ◌∙◌, arith, length-append}
use Rattle.std.specs.Prelude.{filter, not, Result, Ok, Err, IfOk}
use Rattle.std.specs.List.{AllByRecursion as Each, IsDistinct, flat_map}
use Rattle.std.specs.List.Sorted.{IsPermutation, IsSorted}
use Rattle.std.proofs.lemmas.List.Sorted.{list_any-IsPermutation}
use Rattle.flume_value.specs.declared.value.Value.{Value}
use Rattle.flume_value.specs.Bag.{bag_of}
use Rattle.flume_value.specs.Equality.{value_eq}
use Rattle.flume_value.specs.Order.{value_cmp}
use Rattle.flume_value.proofs.BagLemmas.{bag_of-settled, bag_of-flat_map-IsPermutation}
use Rattle.flume_value.proofs.EachLemmas.{Each-weaker}
use Rattle.bag_groups.specs.Groups.{distinct, keys_of, values_of}
use Rattle.bag_groups.proofs.MemberLemmas.{filter_all}
use Rattle.bag_groups.proofs.PairOrder.{value_eq-same}
use Rattle.combine_table.specs.declared.comb.Comb.{Comb}
use Rattle.combine_table.specs.Accumulators.{accumulator, merged}
use Rattle.combine_table.proofs.Merging.{merged-unit_right}
use Rattle.partial_tables.specs.Tables.{Pairs, added, HaveShape, HaveDistinctKeys}
use Rattle.partial_tables.specs.Merges.{values_at, merged_all, StandFor, merged_by_key, accumulated}
use Rattle.partial_tables.specs.inner.Regrouped.{Regrouped}
use Rattle.partial_tables.proofs.Equals.{value_eq-turned}
use Rattle.partial_tables.proofs.Keys.{same_keys}
use Rattle.partial_tables.proofs.Standing.{merged_all-bag_of, values_at-cons}

-- ---- of accumulators that stand for pairs

by_keys : (f g : Value → Value) → ((k : Value) → f k ≡ g k) → (ks ls : List Value) → ks ≡ ls
    → map {B = Value × Value} (λ k. (k, f k)) ks ≡ map (λ k. (k, g k)) ls
by_keys f g same ks ls e = λ i. map {B = Value × Value} (λ k. (k, same k i)) (e i)

pub merged-accumulated : (c : Comb) (es ps : Pairs) → StandFor c es ps
    → merged_by_key c es ≡ accumulated c ps
merged-accumulated c es ps s =
    by_keys (λ k. merged_all c (values_at k es)) (λ k. accumulator c (values_of k ps)) s.merges
    (keys_of es) (keys_of ps) (same_keys es ps s.keys)

regrouped-merged : (c : Comb) (es fs : Pairs) → Regrouped c es fs
    → merged_by_key c fs ≡ merged_by_key c es
regrouped-merged c es fs r =
    by_keys (λ k. merged_all c (values_at k fs)) (λ k. merged_all c (values_at k es)) r.merges
    (keys_of fs) (keys_of es) (same_keys fs es r.keys)

-- ---- in another order

values_at-flat : (k : Value) (ps : Pairs)
    → values_at k ps ≡ flat_map (λ (p : Value × Value). cond (value_eq p.0 k) (p.1 ∷ []) []) ps
values_at-flat k [] = refl
values_at-flat k (p ∷ ps) =
    values_at-cons k p.0 p.1 ps
    ∙ elim (value_eq p.0 k) as
    (λ b. cond b (p.1 ∷ values_at k ps) (values_at k ps) ≡ cond b (p.1 ∷ []) []
    ++ flat_map (λ (q : Value × Value). cond (value_eq q.0 k) (q.1 ∷ []) []) ps) [
      | true ↦ ap (λ l. p.1 ∷ l) (values_at-flat k ps)
      | false ↦ values_at-flat k ps
    ]

moved-merged : (c : Comb) (es fs : Pairs) → IsPermutation es fs → (k : Value)
    → merged_all c (values_at k fs) ≡ merged_all c (values_at k es)
moved-merged c es fs p k =
    let choose = λ (q : Value × Value). cond (value_eq q.0 k) (q.1 ∷ []) [] in
    sym (merged_all-bag_of c (values_at k fs))
    ∙ ap (merged_all c) (ap bag_of (values_at-flat k fs)
    ∙ bag_of-flat_map-IsPermutation choose es fs p
    ∙ sym (ap bag_of (values_at-flat k es)))
    ∙ merged_all-bag_of c (values_at k es)

moved : (c : Comb) (es fs : Pairs) → HaveShape c fs → IsPermutation es fs → Regrouped c es fs
moved c es fs shape p = record {
  shape = shape;
  keys = λ k. sym (list_any-IsPermutation (λ (q : Value × Value). value_eq q.0 k) es fs p);
  merges = moved-merged c es fs p;
}

-- ---- where no key stands twice, and keys ascend

distinct-itself : (xs : List Value) → IsDistinct value_eq xs → distinct xs ≡ xs
unfolding IsDistinct
distinct-itself [] d = refl
distinct-itself (x ∷ xs) d =
    ap (λ l. x ∷ filter (λ w. not (value_eq w x)) l) (distinct-itself xs d.1)
    ∙ ap (λ l. x ∷ l)
    (filter_all (λ w. not (value_eq w x)) xs
    (Each-weaker (λ w. value_eq x w ≡ false) (λ w. not (value_eq w x) ≡ true)
    (λ w e. ap not (value_eq-turned w x ∙ e)) xs d.0))

keys_itself : (es : Pairs) → HaveDistinctKeys es
    → IsSorted value_cmp (map (λ (e : Value × Value). e.0) es)
    → keys_of es ≡ map (λ (e : Value × Value). e.0) es
keys_itself es d up =
    ap distinct (bag_of-settled (map (λ (e : Value × Value). e.0) es) up)
    ∙ distinct-itself (map (λ (e : Value × Value). e.0) es) d

none_at : (k : Value) (es : Pairs)
    → Each (λ v. value_eq k v ≡ false) (map (λ (e : Value × Value). e.0) es)
    → values_at k es ≡ []
none_at k [] e = refl
none_at k (p ∷ ps) e =
    values_at-cons k p.0 p.1 ps
    ∙ ap (λ b. cond b (p.1 ∷ values_at k ps) (values_at k ps)) (value_eq-turned p.0 k ∙ e.0)
    ∙ none_at k ps e.1

-- keys at which what stands first is not read
later_keys : (c : Comb) (e : Value × Value) (es : Pairs) (ks : List Value)
    → Each (λ v. value_eq e.0 v ≡ false) ks
    → map {B = Value × Value} (λ k. (k, merged_all c (values_at k (e ∷ es)))) ks
    ≡ map (λ k. (k, merged_all c (values_at k es))) ks
later_keys c e es [] h = refl
later_keys c e es (k ∷ ks) h =
    let skip : values_at k (e ∷ es) ≡ values_at k es =
    values_at-cons k e.0 e.1 es
    ∙ ap (λ b. cond b (e.1 ∷ values_at k es) (values_at k es)) h.0 in
    λ i. (k, merged_all c (skip i)) ∷ later_keys c e es ks h.1 i

merged_itself : (c : Comb) (es : Pairs) → HaveDistinctKeys es → HaveShape c es
    → map {B = Value × Value} (λ k. (k, merged_all c (values_at k es)))
    (map (λ (e : Value × Value). e.0) es) ≡ es
unfolding IsDistinct
merged_itself c [] d s = refl
merged_itself c (e ∷ es) d s =
    let own : values_at e.0 (e ∷ es) ≡ e.1 ∷ [] =
    values_at-cons e.0 e.0 e.1 es
    ∙ ap (λ b. cond b (e.1 ∷ values_at e.0 es) (values_at e.0 es)) (value_eq-same e.0 e.0 refl)
    ∙ ap (λ l. e.1 ∷ l) (none_at e.0 es d.0) in
    let one : merged_all c (values_at e.0 (e ∷ es)) ≡ e.1 =
    ap (merged_all c) own ∙ merged-unit_right c e.1 s.0 in
    let rest = later_keys c e es (map (λ (f : Value × Value). f.0) es) d.0
    ∙ merged_itself c es d.1 s.1 in
    λ i. (e.0, one i) ∷ rest i

pub ascending-merged : (c : Comb) (ps es fs : Pairs) → Regrouped c ps es → IsPermutation es fs
    → IsSorted value_cmp (map (λ (f : Value × Value). f.0) fs) → HaveShape c fs
    → HaveDistinctKeys fs → fs ≡ merged_by_key c ps
ascending-merged c ps es fs r p up shape d =
    sym (ap (map (λ k. (k, merged_all c (values_at k fs)))) (keys_itself fs d up)
    ∙ merged_itself c fs d shape)
    ∙ regrouped-merged c es fs (moved c es fs shape p)
    ∙ regrouped-merged c ps es r

-- ---- how many there are

pub length-added : (c : Comb) (ps : Pairs) (k a : Value)
    → length (added c ps k a) ≤ length ps + 1
length-added c [] k a = omega arith
length-added c (p ∷ ps) k a =
    elim (value_eq p.0 k) as
    (λ b. length (cond b ((p.0, merged c p.1 a) ∷ ps) (p ∷ added c ps k a))
    ≤ length (p ∷ ps) + 1) [
      | true ↦ omega arith
      | false ↦ omega (arith, length-added c ps k a)
    ]

-- ---- the merging loop, and its end

pub length-more : (c : Comb) (ps now : Pairs) (done : Pairs) (p : Value × Value)
    → now ≡ added c ps p.0 p.1 → length ps ≤ length done
    → length now ≤ length (done ++ p ∷ [])
length-more c ps now done p e h =
    omega (arith, ap length e, length-added c ps p.0 p.1, length-append done (p ∷ []), h)

pub IfOk-four : {X E : Type 0} (A B C D P : X → Type 0)
    → ((x : X) → A x → B x → C x → D x → P x) → (r : Result X E)
    → IfOk r A → IfOk r B → IfOk r C → IfOk r D → IfOk r P
IfOk-four A B C D P h (Ok x) a b c d = h x a b c d
IfOk-four A B C D P h (Err e) a b c d = tt
