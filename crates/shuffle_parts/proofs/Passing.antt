-- The pairs whose keys pass a test are grouped to the groups whose keys do.
use Rattle.std.proofs.Common.{◌≡◌, true, false, cond, Bool, Some, None, List, [], ◌∷◌, map, refl, sym, ap, ◌∙◌}
use Rattle.std.specs.Prelude.{filter, not, option_map}
use Rattle.std.specs.List.{AllByRecursion as Each, cons_option, flat_map, sum_by}
use Rattle.std.specs.Option.{option_map_or}
use Rattle.flume_value.specs.declared.value.Value.{Value}
use Rattle.flume_value.specs.declared.value.Value.TheVariants as value
use Rattle.flume_value.specs.Bag.{bag_of}
use Rattle.flume_value.specs.Equality.{value_eq}
use Rattle.flume_value.proofs.BagLemmas.{Rises-bag_of, sorted_from, bag_of-settled}
use Rattle.flume_value.proofs.EachLemmas.{Each-weaker, Each-filter_passes}
use Rattle.bag_groups.specs.Pairs.{pair, key_of, parts_of, pairs_of}
use Rattle.bag_groups.specs.Groups.{distinct, keys_of, values_of, grouped}
use Rattle.bag_groups.proofs.MemberLemmas.{filter_all}
use Rattle.bag_groups.proofs.PairLemmas.{key_of-pair}
use Rattle.bag_groups.proofs.PairOrder.{same-value_eq, value_eq-other}
use Rattle.combine_table.specs.declared.comb.Comb.{Comb}
use Rattle.combine_table.specs.Accumulators.{accumulator}
use Rattle.partial_tables.specs.Tables.{Pairs}
use Rattle.partial_tables.specs.Merges.{accumulated}
use Rattle.partial_tables.proofs.Keys.{Rises-filter}
use Rattle.shards.proofs.Alike.{Alike, alike_back, alike_bag, bag_alike, alike_flat_map, flat_map-filter, flat_map-itself}

-- ---- tests one after the other

filter-filter : {X : Type 0} (a b : X → Bool) (xs : List X)
    → filter a (filter b xs) ≡ filter b (filter a xs)
filter-filter a b [] = refl
filter-filter a b (x ∷ xs) =
    elim (a x) as
    (λ v. a x ≡ v
    → filter a (filter b (x ∷ xs)) ≡ filter b (cond v (x ∷ filter a xs) (filter a xs))) [
      | true ↦ λ e. elim (b x) as
          (λ v. filter a (cond v (x ∷ filter b xs) (filter b xs))
          ≡ cond v (x ∷ filter b (filter a xs)) (filter b (filter a xs))) [
            | true ↦ ap (λ v. cond v (x ∷ filter a (filter b xs)) (filter a (filter b xs))) e
                ∙ ap (λ l. x ∷ l) (filter-filter a b xs)
            | false ↦ filter-filter a b xs
          ]
      | false ↦ λ e. elim (b x) as
          (λ v. filter a (cond v (x ∷ filter b xs) (filter b xs)) ≡ filter b (filter a xs)) [
            | true ↦ ap (λ v. cond v (x ∷ filter a (filter b xs)) (filter a (filter b xs))) e
                ∙ filter-filter a b xs
            | false ↦ filter-filter a b xs
          ]
    ] refl

alike_filter : (t : Value → Bool) (xs ys : List Value) → Alike xs ys
    → Alike (filter t xs) (filter t ys)
alike_filter t xs ys h =
    let flat : (l : List Value) → filter t l ≡ flat_map (λ x. cond (t x) (x ∷ []) []) l =
    λ l. sym (flat_map-itself (filter t l)) ∙ flat_map-filter (λ x. x ∷ []) t l in
    λ w. ap (sum_by w) (flat xs) ∙ alike_flat_map (λ x. cond (t x) (x ∷ []) []) xs ys h w
    ∙ ap (sum_by w) (sym (flat ys))

bag_of-filter : (t : Value → Bool) (xs : List Value)
    → bag_of (filter t xs) ≡ filter t (bag_of xs)
bag_of-filter t xs =
    let passing = filter t (bag_of xs) in
    bag_alike (filter t xs) passing
    (alike_filter t xs (bag_of xs) (alike_back (bag_of xs) xs (alike_bag xs)))
    ∙ bag_of-settled passing
    (sorted_from passing (Rises-filter t (bag_of xs) (Rises-bag_of xs)))

-- ---- distinct members

-- what passes is another where v does not
apart : (t : Value → Bool) (v w : Value) → t v ≡ false → t w ≡ true → not (value_eq w v) ≡ true
apart t v w fails passes = ap not (value_eq-other w v (λ is. let e = ap t is in cc))

distinct-filter : (t : Value → Bool) (xs : List Value)
    → distinct (filter t xs) ≡ filter t (distinct xs)
distinct-filter t [] = refl
distinct-filter t (x ∷ xs) =
    let other = λ (w : Value). not (value_eq w x) in
    elim (t x) as
    (λ b. t x ≡ b → distinct (cond b (x ∷ filter t xs) (filter t xs))
    ≡ cond b (x ∷ filter t (filter other (distinct xs))) (filter t (filter other (distinct xs)))) [
      | true ↦ λ e. ap (λ l. x ∷ l) (ap (filter other) (distinct-filter t xs)
          ∙ filter-filter other t (distinct xs))
      | false ↦ λ e. distinct-filter t xs
          ∙ sym (filter_all other (filter t (distinct xs))
          (Each-weaker (λ w. t w ≡ true) (λ w. other w ≡ true)
          (λ w passes. apart t x w e passes) (filter t (distinct xs))
          (Each-filter_passes t (distinct xs))))
          ∙ filter-filter other t (distinct xs)
    ] refl

-- ---- pairs by their keys

abbrev by_key : (Value → Bool) → Value × Value → Bool
by_key t p = t p.0

keys-filter : (t : Value → Bool) (ps : Pairs)
    → map (λ (p : Value × Value). p.0) (filter (by_key t) ps)
    ≡ filter t (map (λ (p : Value × Value). p.0) ps)
keys-filter t [] = refl
keys-filter t (p ∷ ps) =
    elim (t p.0) as
    (λ b. map (λ (q : Value × Value). q.0)
    (cond b (p ∷ filter (by_key t) ps) (filter (by_key t) ps))
    ≡ cond b (p.0 ∷ filter t (map (λ (q : Value × Value). q.0) ps))
    (filter t (map (λ (q : Value × Value). q.0) ps))) [
      | true ↦ ap (λ l. p.0 ∷ l) (keys-filter t ps)
      | false ↦ keys-filter t ps
    ]

keys_of-filter : (t : Value → Bool) (ps : Pairs)
    → keys_of (filter (by_key t) ps) ≡ filter t (keys_of ps)
keys_of-filter t ps =
    let keys = map (λ (p : Value × Value). p.0) ps in
    ap (λ l. distinct (bag_of l)) (keys-filter t ps) ∙ ap distinct (bag_of-filter t keys)
    ∙ distinct-filter t (bag_of keys)

values_of-filter : (t : Value → Bool) (ps : Pairs) (k : Value) → t k ≡ true
    → values_of k (filter (by_key t) ps) ≡ values_of k ps
values_of-filter t ps k passes =
    let at = λ (p : Value × Value). value_eq p.0 k in
    ap (λ l. bag_of (map (λ (p : Value × Value). p.1) l))
    (filter-filter at (by_key t) ps
    ∙ filter_all (by_key t) (filter at ps)
    (Each-weaker (λ p. at p ≡ true) (λ p. by_key t p ≡ true)
    (λ p is. ap t (same-value_eq p.0 k is) ∙ passes) (filter at ps) (Each-filter_passes at ps)))

-- ---- what is made of each key

map_each : {B : Type 0} (f g : Value → B) (xs : List Value) → Each (λ x. f x ≡ g x) xs
    → map f xs ≡ map g xs
map_each f g [] e = refl
map_each f g (x ∷ xs) e = λ i. e.0 i ∷ map_each f g xs e.1 i

filter-map : {B : Type 0} (test : B → Bool) (t : Value → Bool) (F : Value → B)
    → ((k : Value) → test (F k) ≡ t k) → (ks : List Value)
    → filter test (map F ks) ≡ map F (filter t ks)
filter-map test t F same [] = refl
filter-map test t F same (k ∷ ks) =
    ap (λ b. cond b (F k ∷ filter test (map F ks)) (filter test (map F ks))) (same k)
    ∙ elim (t k) as
    (λ b. cond b (F k ∷ filter test (map F ks)) (filter test (map F ks))
    ≡ map F (cond b (k ∷ filter t ks) (filter t ks))) [
      | true ↦ ap (λ l. F k ∷ l) (filter-map test t F same ks)
      | false ↦ filter-map test t F same ks
    ]

-- what is made of each key and its values, for the keys that pass
each_key : {B : Type 0} (G : Value → List Value → B) (test : B → Bool) (t : Value → Bool)
    → ((k : Value) (vs : List Value) → test (G k vs) ≡ t k) → (ps : Pairs)
    → map (λ k. G k (values_of k (filter (by_key t) ps))) (keys_of (filter (by_key t) ps))
    ≡ filter test (map (λ k. G k (values_of k ps)) (keys_of ps))
each_key G test t same ps =
    let passing = filter (by_key t) ps in
    ap (map (λ k. G k (values_of k passing))) (keys_of-filter t ps)
    ∙ map_each (λ k. G k (values_of k passing)) (λ k. G k (values_of k ps)) (filter t (keys_of ps))
    (Each-weaker (λ k. t k ≡ true) (λ k. G k (values_of k passing) ≡ G k (values_of k ps))
    (λ k passes. ap (G k) (values_of-filter t ps k passes)) (filter t (keys_of ps))
    (Each-filter_passes t (keys_of ps)))
    ∙ sym (filter-map test t (λ k. G k (values_of k ps)) (λ k. same k (values_of k ps))
    (keys_of ps))

-- ---- members that are pairs

abbrev pub key_passes : (Value → Bool) → Value → Bool
key_passes t x = option_map_or t (key_of x) false

pairs_passing : (t : Value → Bool) (xs : List Value)
    → pairs_of (filter (key_passes t) xs) ≡ filter (by_key t) (pairs_of xs)
pairs_passing t [] = refl
pairs_passing t (x ∷ xs) =
    let more = filter (key_passes t) xs in
    let rest = filter (by_key t) (pairs_of xs) in
    elim (parts_of x) as
    (λ o. parts_of x ≡ o
    → pairs_of (cond (option_map_or t (option_map (λ parts. parts.0) o) false) (x ∷ more) more)
    ≡ filter (by_key t) (cons_option o (pairs_of xs))) [
      | None ↦ λ e. pairs_passing t xs
      | Some q ↦ λ e. elim (t q.0) as
          (λ b. pairs_of (cond b (x ∷ more) more) ≡ cond b (q ∷ rest) rest) [
            | true ↦ ap (λ o. cons_option o (pairs_of more)) e
                ∙ ap (λ l. q ∷ l) (pairs_passing t xs)
            | false ↦ pairs_passing t xs
          ]
    ] refl

pub grouped-passing : (t : Value → Bool) (xs : List Value)
    → grouped (filter (key_passes t) xs) ≡ filter (key_passes t) (grouped xs)
grouped-passing t xs =
    let made = λ (ps : Pairs). map (λ k. pair k (value.List (values_of k ps))) (keys_of ps) in
    ap made (pairs_passing t xs)
    ∙ each_key (λ k vs. pair k (value.List vs)) (key_passes t) t
    (λ k vs. ap (λ o. option_map_or t o false) (key_of-pair k (value.List vs))) (pairs_of xs)

pub accumulated-passing : (t : Value → Bool) (c : Comb) (xs : List Value)
    → accumulated c (pairs_of (filter (key_passes t) xs))
    ≡ filter (by_key t) (accumulated c (pairs_of xs))
accumulated-passing t c xs =
    ap (accumulated c) (pairs_passing t xs)
    ∙ each_key {B = Value × Value} (λ k vs. (k, accumulator c vs)) (by_key t) t (λ k vs. refl)
    (pairs_of xs)
