-- The distinct members of a bag: one member more needs no more of the bag than those.
use Rattle.std.proofs.Common.{◌≡◌, ◌↔◌, ◌+◌, ◌-◌, ◌<◌, suc, Some, None, reverse, Bool, true, false, cond, List, [], ◌∷◌, ◌++◌, length, refl, sym, ap, ◌∙◌, subst, arith, append_assoc, length-append}
use Rattle.std.specs.Prelude.{IsTrue, slice_get}
use Rattle.std.proofs.lemmas.List.{reverse-append}
use Rattle.std.specs.declared.cmp.Ordering.TheVariants.{Less}
use Rattle.std.specs.Ordering.{is_lt}
use Rattle.std.specs.List.{AllByRecursion as Each, dedup_from}
use Rattle.std.specs.List.Sorted.{IsSorted, IsStrictlySortedBy}
use Rattle.std.proofs.lemmas.List.Kept.{IsStrictlySortedBy-dedup}
use Rattle.flume_value.specs.declared.value.Value.{Value}
use Rattle.flume_value.specs.Equality.{value_eq}
use Rattle.flume_value.specs.Order.{value_cmp}
use Rattle.flume_value.specs.Bag.{put, bag_of}
use Rattle.flume_value.proofs.OrderLemmas.{value_cmp-total, value_cmp-same, value_eq-exact}
use Rattle.flume_value.proofs.EachLemmas.{Each-weaker}
use Rattle.flume_value.proofs.BagLemmas.{NotBelow, Rises, ranks, sorted_from, IsSorted-bag_of, length-bag_of}
use Rattle.combine_table.specs.Combinations.{distinct}
use Rattle.combine_table.specs.inner.Repeats.{once}
use Rattle.combine_table.proofs.Kept.{IsKept}

same_is : (v w : Value) → value_eq v w ≡ true → v ≡ w
same_is v w = (value_eq-exact v w).0

is_same : (v : Value) → value_eq v v ≡ true
is_same v = (value_eq-exact v v).1 refl

-- ---- the distinct members, from the last on

once_twice : (v : Value) (ws : List Value) → once v (once v ws) ≡ once v ws
once_twice v [] = ap (λ t. cond t (v ∷ []) (v ∷ v ∷ [])) (is_same v)
once_twice v (w ∷ ws) =
    elim (value_eq w v) as
    (λ t. once v (cond t (v ∷ ws) (v ∷ w ∷ ws)) ≡ cond t (v ∷ ws) (v ∷ w ∷ ws)) [
      | true ↦ ap (λ t. cond t (v ∷ ws) (v ∷ v ∷ ws)) (is_same v)
      | false ↦ ap (λ t. cond t (v ∷ w ∷ ws) (v ∷ v ∷ w ∷ ws)) (is_same v)
    ]

-- whatever the list, v is the first
once_before : (u v : Value) (ws : List Value) → value_eq v u ≡ false
    → once u (once v ws) ≡ u ∷ once v ws
once_before u v [] e = ap (λ t. cond t (u ∷ []) (u ∷ v ∷ [])) e
once_before u v (w ∷ ws) e =
    elim (value_eq w v) as
    (λ t. once u (cond t (v ∷ ws) (v ∷ w ∷ ws)) ≡ u ∷ cond t (v ∷ ws) (v ∷ w ∷ ws)) [
      | true ↦ ap (λ t. cond t (u ∷ ws) (u ∷ v ∷ ws)) e
      | false ↦ ap (λ t. cond t (u ∷ w ∷ ws) (u ∷ v ∷ w ∷ ws)) e
    ]

distinct-cons : (v : Value) (vs : List Value) → distinct (v ∷ vs) ≡ once v (distinct vs)
distinct-cons v [] = refl
distinct-cons v (w ∷ ws) = by (value_eq w v) refl (distinct-cons v ws) (distinct-cons w ws)
  where
    by : (t : Bool) → value_eq w v ≡ t → distinct (v ∷ ws) ≡ once v (distinct ws)
        → distinct (w ∷ ws) ≡ once w (distinct ws)
        → cond t (dedup_from value_eq v ws) (v ∷ dedup_from value_eq w ws)
        ≡ once v (dedup_from value_eq w ws)
    by true e at_v at_w =
        let is : w ≡ v = same_is w v e in
        at_v ∙ sym (once_twice v (distinct ws)) ∙ ap (once v) (sym at_v)
        ∙ ap (λ u. once v (dedup_from value_eq u ws)) (sym is)
    by false e at_v at_w =
        ap (λ l. v ∷ l) at_w ∙ sym (once_before v w (distinct ws) e) ∙ ap (once v) (sym at_w)

-- ---- kept of a bag

once_distinct : (v : Value) (ds : List Value) → distinct ds ≡ ds
    → distinct (once v ds) ≡ once v ds
once_distinct v [] e = refl
once_distinct v (w ∷ ws) e = by (value_eq w v) refl
  where
    by : (t : Bool) → value_eq w v ≡ t
        → distinct (cond t (v ∷ ws) (v ∷ w ∷ ws)) ≡ cond t (v ∷ ws) (v ∷ w ∷ ws)
    by true h = subst (λ u. distinct (u ∷ ws) ≡ u ∷ ws) (same_is w v h) e
    by false h = distinct-cons v (w ∷ ws) ∙ ap (once v) e
        ∙ ap (λ t. cond t (v ∷ ws) (v ∷ w ∷ ws)) h

distinct-twice : (b : List Value) → distinct (distinct b) ≡ distinct b
distinct-twice [] = refl
distinct-twice (v ∷ vs) =
    ap distinct (distinct-cons v vs) ∙ once_distinct v (distinct vs) (distinct-twice vs)
    ∙ sym (distinct-cons v vs)

-- a first that is v goes
once_of_once : (v : Value) (ws : List Value) → distinct (once v ws) ≡ once v (distinct ws)
once_of_once v [] = refl
once_of_once v (w ∷ ws) = by (value_eq w v) refl
  where
    by : (t : Bool) → value_eq w v ≡ t
        → distinct (cond t (v ∷ ws) (v ∷ w ∷ ws)) ≡ once v (distinct (w ∷ ws))
    by true h =
        distinct-cons v ws ∙ sym (once_twice v (distinct ws))
        ∙ ap (once v) (sym (distinct-cons v ws))
        ∙ ap (λ u. once v (distinct (u ∷ ws))) (sym (same_is w v h))
    by false h = distinct-cons v (w ∷ ws)

-- before any list, the distinct members of its rest serve as well
put_once : (x v : Value) (ds : List Value) → is_lt (value_cmp x v) ≡ true
    → distinct (put v (once x ds)) ≡ once x (distinct (put v ds))
put_once x v [] h =
    ap (λ t. distinct (cond t (x ∷ v ∷ []) (v ∷ x ∷ []))) h ∙ distinct-cons x (v ∷ [])
put_once x v (d ∷ ds) h = by (value_eq d x) refl
  where
    first : (l : List Value) → put v (x ∷ l) ≡ x ∷ put v l
    first l = ap (λ t. cond t (x ∷ put v l) (v ∷ x ∷ l)) h

    by : (t : Bool) → value_eq d x ≡ t
        → distinct (put v (cond t (x ∷ ds) (x ∷ d ∷ ds))) ≡ once x (distinct (put v (d ∷ ds)))
    by true e =
        ap distinct (first ds) ∙ distinct-cons x (put v ds)
        ∙ sym (once_twice x (distinct (put v ds)))
        ∙ ap (once x) (sym (ap distinct (first ds) ∙ distinct-cons x (put v ds)))
        ∙ ap (λ u. once x (distinct (put v (u ∷ ds)))) (sym (same_is d x e))
    by false e = ap distinct (first (d ∷ ds)) ∙ distinct-cons x (put v (d ∷ ds))

-- where v goes before x it goes before x and anything
put_before : (x v : Value) (ds : List Value) → is_lt (value_cmp x v) ≡ false
    → put v (once x ds) ≡ v ∷ once x ds
put_before x v [] h = ap (λ t. cond t (x ∷ v ∷ []) (v ∷ x ∷ [])) h
put_before x v (d ∷ ds) h =
    elim (value_eq d x) as
    (λ t. put v (cond t (x ∷ ds) (x ∷ d ∷ ds)) ≡ v ∷ cond t (x ∷ ds) (x ∷ d ∷ ds)) [
      | true ↦ ap (λ t. cond t (x ∷ put v ds) (v ∷ x ∷ ds)) h
      | false ↦ ap (λ t. cond t (x ∷ put v (d ∷ ds)) (v ∷ x ∷ d ∷ ds)) h
    ]

distinct-put : (v : Value) (b : List Value) → distinct (put v b) ≡ distinct (put v (distinct b))
distinct-put v [] = refl
distinct-put v (x ∷ xs) = by (is_lt (value_cmp x v)) refl (distinct-put v xs)
  where
    by : (t : Bool) → is_lt (value_cmp x v) ≡ t
        → distinct (put v xs) ≡ distinct (put v (distinct xs))
        → distinct (cond t (x ∷ put v xs) (v ∷ x ∷ xs)) ≡ distinct (put v (distinct (x ∷ xs)))
    by true h rest =
        distinct-cons x (put v xs) ∙ ap (once x) rest ∙ sym (put_once x v (distinct xs) h)
        ∙ ap (λ l. distinct (put v l)) (sym (distinct-cons x xs))
    by false h rest =
        distinct-cons v (x ∷ xs) ∙ ap (once v) (sym (distinct-twice (x ∷ xs)))
        ∙ sym (distinct-cons v (distinct (x ∷ xs)))
        ∙ ap (λ l. distinct (v ∷ l)) (distinct-cons x xs)
        ∙ ap distinct (sym (put_before x v (distinct xs) h))
        ∙ ap (λ l. distinct (put v l)) (sym (distinct-cons x xs))

Each-once : (P : Value → Type 0) (v : Value) (ws : List Value) → P v → Each P ws
    → Each P (once v ws)
Each-once P v [] p e = (p, tt)
Each-once P v (w ∷ ws) p e =
    elim (value_eq w v) as (λ t. Each P (cond t (v ∷ ws) (v ∷ w ∷ ws))) [
      | true ↦ (p, e.1)
      | false ↦ (p, e)
    ]

Each-distinct : (P : Value → Type 0) (b : List Value) → Each P b → Each P (distinct b)
Each-distinct P [] e = tt
Each-distinct P (v ∷ vs) e =
    subst (Each P) (sym (distinct-cons v vs))
    (Each-once P v (distinct vs) e.0 (Each-distinct P vs e.1))

Rises-once : (v : Value) (ws : List Value) → Each (NotBelow v) ws → Rises ws → Rises (once v ws)
Rises-once v [] e r = (tt, tt)
Rises-once v (w ∷ ws) e r =
    elim (value_eq w v) as (λ t. Rises (cond t (v ∷ ws) (v ∷ w ∷ ws))) [
      | true ↦ (e.1, r.1)
      | false ↦ (e, r)
    ]

Rises-distinct : (b : List Value) → Rises b → Rises (distinct b)
Rises-distinct [] r = tt
Rises-distinct (v ∷ vs) r =
    subst Rises (sym (distinct-cons v vs))
    (Rises-once v (distinct vs) (Each-distinct (NotBelow v) vs r.0) (Rises-distinct vs r.1))

pub distinct-IsKept : IsKept distinct
distinct-IsKept = record {
  put = λ v b r. distinct-put v b;
  rises = Rises-distinct;
  twice = distinct-twice;
}

-- ---- strictly ascending

pub distinct-ascends : (xs : List Value) → IsStrictlySortedBy value_cmp (distinct (bag_of xs))
distinct-ascends xs =
    IsStrictlySortedBy-dedup value_cmp-total (λ a b. refl) (bag_of xs) (IsSorted-bag_of xs)

less_rises : (v w : Value) → value_cmp v w ≡ Less → NotBelow v w
less_rises v w h = ranks.one_way v w (ap is_lt h)

strict_rises : (vs : List Value) → IsStrictlySortedBy value_cmp vs → Rises vs
unfolding IsStrictlySortedBy
strict_rises [] a = tt
strict_rises (v ∷ vs) a = (
  Each-weaker (λ w. value_cmp v w ≡ Less) (NotBelow v) (less_rises v) vs a.0,
  strict_rises vs a.1,
)

pub strict_sorted : (vs : List Value) → IsStrictlySortedBy value_cmp vs → IsSorted value_cmp vs
strict_sorted vs a = sorted_from vs (strict_rises vs a)

-- v is none of the values that are above it
once_above : (v : Value) (ws : List Value) → Each (λ w. value_cmp v w ≡ Less) ws
    → once v ws ≡ v ∷ ws
once_above v [] a = refl
once_above v (w ∷ ws) a = by (value_eq w v) refl
  where
    by : (t : Bool) → value_eq w v ≡ t → cond t (v ∷ ws) (v ∷ w ∷ ws) ≡ v ∷ w ∷ ws
    by true e =
        let less = subst (λ u. value_cmp v u ≡ Less) (same_is w v e) a.0 in
        let same = value_cmp-same v in cc
    by false e = refl

pub distinct-settled : (vs : List Value) → IsStrictlySortedBy value_cmp vs → distinct vs ≡ vs
unfolding IsStrictlySortedBy
distinct-settled [] a = refl
distinct-settled (v ∷ vs) a =
    distinct-cons v vs ∙ ap (once v) (distinct-settled vs a.1) ∙ once_above v vs a.0

-- ---- as a merge's loop tells it: d are the members so far, the greatest first

distinct-append_same : (xs ys zs : List Value) → distinct ys ≡ distinct zs
    → distinct (xs ++ ys) ≡ distinct (xs ++ zs)
distinct-append_same [] ys zs e = e
distinct-append_same (x ∷ xs) ys zs e =
    distinct-cons x (xs ++ ys) ∙ ap (once x) (distinct-append_same xs ys zs e)
    ∙ sym (distinct-cons x (xs ++ zs))

pub drawn : (whole b b' d d' : List Value) (v : Value) → whole ≡ distinct (b ++ d)
    → b ≡ b' ++ v ∷ [] → d' ≡ once v d → whole ≡ distinct (b' ++ d')
drawn whole b b' d d' v so_far popped pushed =
    so_far ∙ ap (λ l. distinct (l ++ d)) popped ∙ ap distinct (append_assoc b' (v ∷ []) d)
    ∙ distinct-append_same b' (v ∷ d) (once v d) (distinct-cons v d ∙ sym (once_of_once v d))
    ∙ ap (λ l. distinct (b' ++ l)) (sym pushed)

pub drawn_once : (d d' : List Value) (v : Value) → distinct d ≡ d → d' ≡ once v d
    → distinct d' ≡ d'
drawn_once d d' v e pushed = ap distinct pushed ∙ once_distinct v d e ∙ sym pushed

pub drawn_fewer : (xs ys xs' ys' : List Value) (v : Value)
    → bag_of (xs ++ ys) ≡ bag_of (xs' ++ ys') ++ v ∷ []
    → length xs' + length ys' < length xs + length ys
drawn_fewer xs ys xs' ys' v e =
    omega (
      arith,
      ap length e,
      length-append (bag_of (xs' ++ ys')) (v ∷ []),
      length-bag_of (xs ++ ys),
      length-bag_of (xs' ++ ys'),
      length-append xs ys,
      length-append xs' ys',
    )

-- ---- the last of a list is the first of its reverse

last_first : (xs : List Value) (l : Value) → Some l ≡ slice_get xs (length xs - 1)
    → (rest : List Value) × (reverse xs ≡ l ∷ rest)
last_first [] l h = absurd (nothing h)
  where
    nothing : Some l ≡ None → ⊥
    nothing e = cc
last_first (x ∷ []) l h = let same : x ≡ l = cc in ([], ap (λ u. u ∷ []) same)
last_first (x ∷ y ∷ ys) l h =
    let at : length (x ∷ y ∷ ys) - 1 ≡ suc (length (y ∷ ys) - 1) = omega arith in
    let rest = last_first (y ∷ ys) l (subst (λ n. Some l ≡ slice_get (x ∷ y ∷ ys) n) at h) in
    (rest.0 ++ x ∷ [], reverse-append (x ∷ []) (y ∷ ys) ∙ ap (λ us. us ++ x ∷ []) rest.1)

said : (l v : Value) (rest : List Value) (r : Bool) → IsTrue r ↔ (l ≡ v)
    → once v (l ∷ rest) ≡ cond r (l ∷ rest) (v ∷ l ∷ rest)
said l v rest true h =
    let same : l ≡ v = h.0 refl in
    ap (λ t. cond t (v ∷ rest) (v ∷ l ∷ rest)) ((value_eq-exact l v).1 same)
    ∙ ap (λ u. u ∷ rest) (sym same)
said l v rest false h = by (value_eq l v) refl
  where
    by : (t : Bool) → value_eq l v ≡ t
        → cond t (v ∷ rest) (v ∷ l ∷ rest) ≡ v ∷ l ∷ rest
    by true e = let never = h.1 (same_is l v e) in cc
    by false e = refl

pub last_said : (xs : List Value) (l v : Value) (r : Bool)
    → Some l ≡ slice_get xs (length xs - 1) → IsTrue r ↔ (l ≡ v)
    → once v (reverse xs) ≡ cond r (reverse xs) (v ∷ reverse xs)
last_said xs l v r h is =
    let ends = last_first xs l h in
    ap (once v) ends.1 ∙ said l v ends.0 r is
    ∙ sym (ap (λ us. cond r us (v ∷ us)) ends.1)
