-- The keys of pairs, each once, depend on nothing but which keys there are.
use Rattle.std.proofs.Common.{◌≡◌, ◌+◌, ℕ, true, false, cond, Bool, ◌||◌, List, [], ◌∷◌, map, refl, sym, ap, ◌∙◌, arith}
use Rattle.std.specs.Prelude.{filter, not}
use Rattle.std.specs.List.{AllByRecursion as Each, list_any}
use Rattle.std.proofs.lemmas.List.Sums.{sum_by-cons}
use Rattle.flume_value.specs.declared.value.Value.{Value}
use Rattle.flume_value.specs.Bag.{times, bag_of}
use Rattle.flume_value.specs.Equality.{value_eq}
use Rattle.flume_value.proofs.BagLemmas.{NotBelow, Rises, Rises-bag_of, sorted_from, bag_of-times, bag_of-settled, IsPermutation-bag_of}
use Rattle.flume_value.proofs.EachLemmas.{Each-weaker, Each-filter, Each-filter_passes}
use Rattle.std.proofs.lemmas.List.Sorted.{list_any-IsPermutation}
use Rattle.bag_groups.specs.Groups.{distinct, keys_of}
use Rattle.bag_groups.proofs.MemberLemmas.{Each-distinct}
use Rattle.bag_groups.proofs.PairOrder.{value_eq-same, same-value_eq}
use Rattle.partial_tables.specs.Tables.{Pairs, has_key}

abbrev others : Value → Value → Bool
others v w = not (value_eq w v)

-- ---- a list of distinct members that rises is one for its members

pub Rises-filter : (t : Value → Bool) (xs : List Value) → Rises xs → Rises (filter t xs)
Rises-filter t [] r = tt
Rises-filter t (x ∷ xs) r =
    elim (t x) as (λ b. Rises (cond b (x ∷ filter t xs) (filter t xs))) [
      | true ↦ (Each-filter (NotBelow x) t xs r.0, Rises-filter t xs r.1)
      | false ↦ Rises-filter t xs r.1
    ]

Rises-distinct : (xs : List Value) → Rises xs → Rises (distinct xs)
Rises-distinct [] r = tt
Rises-distinct (x ∷ xs) r = (
  Each-filter (NotBelow x) (others x) (distinct xs) (Each-distinct (NotBelow x) xs r.0),
  Rises-filter (others x) (distinct xs) (Rises-distinct xs r.1),
)

keys_settled : (ps : Pairs) → bag_of (keys_of ps) ≡ keys_of ps
keys_settled ps =
    let keys = map (λ (p : Value × Value). p.0) ps in
    bag_of-settled (keys_of ps)
    (sorted_from (keys_of ps) (Rises-distinct (bag_of keys) (Rises-bag_of keys)))

-- ---- how often a member is among the distinct ones

abbrev hit : Value → Value → ℕ
hit v w = cond (value_eq w v) 1 0

times_filter : (t : Value → Bool) (v : Value) (xs : List Value)
    → ((w : Value) → value_eq w v ≡ true → t w ≡ true) → times (filter t xs) v ≡ times xs v
times_filter t v [] h = refl
times_filter t v (x ∷ xs) h =
    elim (t x) as
    (λ b. t x ≡ b → times (cond b (x ∷ filter t xs) (filter t xs)) v ≡ times (x ∷ xs) v) [
      | true ↦ λ e. sum_by-cons (hit v) x (filter t xs)
          ∙ ap (λ n. cond (value_eq x v) 1 0 + n) (times_filter t v xs h)
          ∙ sym (sum_by-cons (hit v) x xs)
      | false ↦ λ e.
          let apart : value_eq x v ≡ false = elim (value_eq x v) as
          (λ b. value_eq x v ≡ b → b ≡ false) [
            | true ↦ λ is. let passes = h x is in cc
            | false ↦ λ is. refl
          ] refl in
          let none : hit v x ≡ 0 = ap (λ (b : Bool). cond {A = ℕ} b 1 0) apart in
          omega (arith, times_filter t v xs h, sum_by-cons (hit v) x xs)
    ] refl

times_none : (v : Value) (xs : List Value) → Each (λ w. value_eq w v ≡ false) xs
    → times xs v ≡ 0
times_none v [] e = refl
times_none v (x ∷ xs) e =
    let none : hit v x ≡ 0 = ap (λ (b : Bool). cond {A = ℕ} b 1 0) e.0 in
    omega (arith, times_none v xs e.1, sum_by-cons (hit v) x xs)

not_true : (b : Bool) → not b ≡ true → b ≡ false
not_true true h = cc
not_true false h = refl

-- what equals v is not x, where x is not v
apart_from : (x v w : Value) → value_eq x v ≡ false → value_eq w v ≡ true → others x w ≡ true
apart_from x v w e is =
    ap not (elim (value_eq w x) as (λ b. value_eq w x ≡ b → b ≡ false) [
      | true ↦ λ f.
          let bad = value_eq-same x v (sym (same-value_eq w x f) ∙ same-value_eq w v is) in cc
      | false ↦ λ f. refl
    ] refl)

times_distinct : (v : Value) (xs : List Value)
    → times (distinct xs) v ≡ cond (list_any (λ w. value_eq w v) xs) 1 0
times_distinct v [] = refl
times_distinct v (x ∷ xs) =
    let more = filter (others x) (distinct xs) in
    sum_by-cons (hit v) x more
    ∙ elim (value_eq x v) as
    (λ b. value_eq x v ≡ b
    → cond b 1 0 + times more v ≡ cond (b || list_any (λ w. value_eq w v) xs) 1 0) [
      | true ↦ λ e.
          let none : times more v ≡ 0 = times_none v more
          (Each-weaker (λ w. others x w ≡ true) (λ w. value_eq w v ≡ false)
          (λ w h. ap (value_eq w) (sym (same-value_eq x v e))
          ∙ not_true (value_eq w x) h)
          more (Each-filter_passes (others x) (distinct xs))) in
          omega arith
      | false ↦ λ e.
          let rest : times more v ≡ times (distinct xs) v =
          times_filter (others x) v (distinct xs) (λ w is. apart_from x v w e is) in
          let z : 0 + times more v ≡ times more v = omega arith in
          z ∙ rest ∙ times_distinct v xs
    ] refl

-- ---- the keys of pairs

any_keys : (v : Value) (ps : Pairs)
    → list_any (λ w. value_eq w v) (map (λ (p : Value × Value). p.0) ps) ≡ has_key v ps
any_keys v [] = refl
any_keys v (p ∷ ps) = ap (λ b. value_eq p.0 v || b) (any_keys v ps)

times_keys : (v : Value) (ps : Pairs) → times (keys_of ps) v ≡ cond (has_key v ps) 1 0
times_keys v ps =
    let keys = map (λ (p : Value × Value). p.0) ps in
    times_distinct v (bag_of keys)
    ∙ ap (λ b. cond b 1 0)
    (sym (list_any-IsPermutation (λ w. value_eq w v) keys (bag_of keys)
    (IsPermutation-bag_of keys)) ∙ any_keys v ps)

pub same_keys : (es ps : Pairs) → ((k : Value) → has_key k es ≡ has_key k ps)
    → keys_of es ≡ keys_of ps
same_keys es ps h =
    sym (keys_settled es)
    ∙ bag_of-times (keys_of es) (keys_of ps)
    (λ v. times_keys v es ∙ ap (λ b. cond b 1 0) (h v) ∙ sym (times_keys v ps))
    ∙ keys_settled ps
