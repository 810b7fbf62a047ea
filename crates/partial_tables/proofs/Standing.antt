-- Accumulators that stand for pairs add up, and may be merged in any order.
use Rattle.std.proofs.Common.{◌≡◌, true, false, cond, ◌||◌, List, [], ◌∷◌, ◌++◌, map, refl, sym, ap, ◌∙◌}
use Rattle.std.specs.Prelude.{filter}
use Rattle.std.specs.Ordering.{is_lt}
use Rattle.std.proofs.lemmas.List.{map-append}
use Rattle.std.proofs.lemmas.List.Elements.{All-append, All-cons, All-nil, filter-append}
use Rattle.std.proofs.lemmas.List.Folds.{list_any-append}
use Rattle.flume_value.specs.declared.value.Value.{Value}
use Rattle.flume_value.specs.Order.{value_cmp}
use Rattle.flume_value.specs.Bag.{put, bag_of}
use Rattle.flume_value.specs.Equality.{value_eq}
use Rattle.combine_table.specs.declared.comb.Comb.{Comb}
use Rattle.combine_table.specs.Accumulators.{accumulator, HasShape, merged}
use Rattle.combine_table.proofs.Parts.{merged-accumulator}
use Rattle.combine_table.proofs.Merging.{accumulator-HasShape, merged-HasShape, merged-comm, merged-assoc, merged-unit_left, merged-unit_right}
use Rattle.partial_tables.specs.Tables.{Pairs, has_key, IsPartialOf}
use Rattle.partial_tables.specs.Merges.{values_at, merged_all, StandFor}

-- ---- accumulators merged into one

pub merged_all-HasShape : (c : Comb) (xs : List Value) → HasShape c (merged_all c xs)
merged_all-HasShape c [] = accumulator-HasShape c []
merged_all-HasShape c (x ∷ xs) = merged-HasShape c x (merged_all c xs)

pub merged_all-append : (c : Comb) (xs ys : List Value)
    → merged_all c (xs ++ ys) ≡ merged c (merged_all c xs) (merged_all c ys)
merged_all-append c [] ys = sym (merged-unit_left c (merged_all c ys) (merged_all-HasShape c ys))
merged_all-append c (x ∷ xs) ys =
    ap (merged c x) (merged_all-append c xs ys)
    ∙ sym (merged-assoc c x (merged_all c xs) (merged_all c ys))

merged_all-put : (c : Comb) (x : Value) (xs : List Value)
    → merged_all c (put x xs) ≡ merged c x (merged_all c xs)
merged_all-put c x [] = refl
merged_all-put c x (y ∷ ys) =
    elim (is_lt (value_cmp y x)) as
    (λ b. merged_all c (cond b (y ∷ put x ys) (x ∷ y ∷ ys))
    ≡ merged c x (merged c y (merged_all c ys))) [
      | true ↦ ap (merged c y) (merged_all-put c x ys)
          ∙ sym (merged-assoc c y x (merged_all c ys))
          ∙ ap (λ a. merged c a (merged_all c ys)) (merged-comm c y x)
          ∙ merged-assoc c x y (merged_all c ys)
      | false ↦ refl
    ]

pub merged_all-bag_of : (c : Comb) (xs : List Value) → merged_all c (bag_of xs) ≡ merged_all c xs
merged_all-bag_of c [] = refl
merged_all-bag_of c (x ∷ xs) =
    merged_all-put c x (bag_of xs) ∙ ap (merged c x) (merged_all-bag_of c xs)

-- ---- the values of a key

pub values_at-cons : (i k a : Value) (ps : Pairs)
    → values_at i ((k, a) ∷ ps) ≡ cond (value_eq k i) (a ∷ values_at i ps) (values_at i ps)
values_at-cons i k a ps =
    elim (value_eq k i) as
    (λ b. map (λ (p : Value × Value). p.1)
    (cond b ((k, a) ∷ filter (λ p. value_eq p.0 i) ps) (filter (λ p. value_eq p.0 i) ps))
    ≡ cond b (a ∷ values_at i ps) (values_at i ps)) [
      | true ↦ refl
      | false ↦ refl
    ]

pub values_at-append : (k : Value) (xs ys : Pairs)
    → values_at k (xs ++ ys) ≡ values_at k xs ++ values_at k ys
values_at-append k xs ys =
    ap (map (λ (p : Value × Value). p.1)) (filter-append (λ p. value_eq p.0 k) xs ys)
    ∙ map-append (λ (p : Value × Value). p.1) (filter (λ p. value_eq p.0 k) xs)
    (filter (λ p. value_eq p.0 k) ys)

pub has_key-append : (k : Value) (xs ys : Pairs)
    → has_key k (xs ++ ys) ≡ (has_key k xs || has_key k ys)
has_key-append k xs ys = list_any-append (λ (p : Value × Value). value_eq p.0 k) xs ys

-- ---- parts together

pub stands_none : (c : Comb) → StandFor c [] []
stands_none c = record { shape = All-nil (IsPartialOf c); keys = λ k. refl; merges = λ k. refl }

pub stands_both : (c : Comb) (es ps fs qs : Pairs) → StandFor c es ps → StandFor c fs qs
    → StandFor c (es ++ fs) (ps ++ qs)
stands_both c es ps fs qs g h = record {
  shape = All-append (IsPartialOf c) es fs g.shape h.shape;
  keys = λ k. has_key-append k es fs ∙ (λ i. g.keys k i || h.keys k i)
      ∙ sym (has_key-append k ps qs);
  merges = λ k. ap (merged_all c) (values_at-append k es fs)
      ∙ merged_all-append c (values_at k es) (values_at k fs)
      ∙ (λ i. merged c (g.merges k i) (h.merges k i))
      ∙ merged-accumulator c (values_at k ps) (values_at k qs)
      ∙ ap (λ l. accumulator c (bag_of l)) (sym (values_at-append k ps qs));
}

-- ---- one pair

one_stands : (c : Comb) (k v : Value)
    → StandFor c ((k, accumulator c (v ∷ [])) ∷ []) ((k, v) ∷ [])
one_stands c k v =
    let a = accumulator c (v ∷ []) in
    record {
      shape = All-cons (IsPartialOf c) (k, a) [] (accumulator-HasShape c (v ∷ []))
          (All-nil (IsPartialOf c));
      keys = λ j. refl;
      merges = λ j. ap (merged_all c) (values_at-cons j k a [])
          ∙ elim (value_eq k j) as
          (λ b. merged_all c (cond b (a ∷ []) []) ≡ accumulator c (bag_of (cond b (v ∷ []) []))) [
            | true ↦ merged-unit_right c a (accumulator-HasShape c (v ∷ []))
            | false ↦ refl
          ]
          ∙ sym (ap (λ l. accumulator c (bag_of l)) (values_at-cons j k v []));
    }

pub stands_more : (c : Comb) (es ps : Pairs) (k v : Value) → StandFor c es ps
    → StandFor c (es ++ (k, accumulator c (v ∷ [])) ∷ []) (ps ++ (k, v) ∷ [])
stands_more c es ps k v s =
    stands_both c es ps ((k, accumulator c (v ∷ [])) ∷ []) ((k, v) ∷ []) s (one_stands c k v)
