-- A run of one value, ahead of values above it.
use Rattle.std.proofs.Common.{◌≡◌, ◌<◌, ◌≤◌, ◌+◌, ℕ, zero, suc, Some, true, false, cond, List, [], ◌∷◌, ◌++◌, length, drop, refl, sym, ap, ◌∙◌, subst, arith}
use Rattle.std.specs.Ordering.{is_lt}
use Rattle.std.specs.Prelude.{filter, not, slice_get}
use Rattle.std.specs.List.{AllByRecursion as Each}
use Rattle.std.proofs.lemmas.List.Sums.{sum_by-cons}
use Rattle.flume_value.specs.declared.value.Value.{Value}
use Rattle.flume_value.specs.Order.{value_cmp}
use Rattle.flume_value.specs.Equality.{value_eq}
use Rattle.flume_value.specs.Bag.{put, bag_of, times}
use Rattle.flume_value.proofs.OrderLemmas.{value_cmp-same}
use Rattle.flume_value.proofs.EachLemmas.{Each-append, Each-weaker}
use Rattle.flume_value.proofs.BagLemmas.{NotBelow, Rises, apart, Each-bag_of, NotBelow-trans, times-append}
use Rattle.keyed_steps.specs.of_bag_groups.Groups.{distinct}
use Rattle.keyed_steps.proofs.of_bag_groups.MemberLemmas.{Each-distinct, filter_all}
use Rattle.keyed_steps.proofs.of_bag_groups.PairOrder.{value_eq-same, value_eq-other}

-- the values are all k
abbrev pub AreAll : Value → List Value → Type 0
AreAll k = Each (λ x. x ≡ k)

-- none of the values is k
abbrev pub AreOther : Value → List Value → Type 0
AreOther k = Each (λ x. x ≡ k → ⊥)

-- none of the values is below k
abbrev pub AreFrom : Value → List Value → Type 0
AreFrom k = Each (NotBelow k)

pub NotBelow-same : (k x : Value) → x ≡ k → NotBelow k x
NotBelow-same k x e = ap (λ y. is_lt (value_cmp y k)) e ∙ ap is_lt (value_cmp-same k)

-- ---- the bag of a run and what is above it

put-ahead : (k : Value) (b : List Value) → AreFrom k b → put k b ≡ k ∷ b
put-ahead k [] e = refl
put-ahead k (x ∷ xs) e = ap (λ t. cond t (x ∷ put k xs) (k ∷ x ∷ xs)) e.0

bag_of-ahead : (k : Value) (run rest : List Value) → AreAll k run → AreFrom k rest
    → bag_of (run ++ rest) ≡ run ++ bag_of rest
bag_of-ahead k [] rest same above = refl
bag_of-ahead k (x ∷ xs) rest same above =
    let others : AreFrom k (xs ++ bag_of rest)
    = Each-append (NotBelow k) xs (bag_of rest)
    (Each-weaker (λ y. y ≡ k) (NotBelow k) (NotBelow-same k) xs same.1)
    (Each-bag_of (NotBelow k) rest above) in
    ap (put x) (bag_of-ahead k xs rest same.1 above)
    ∙ put-ahead x (xs ++ bag_of rest)
    (subst (λ y. AreFrom y (xs ++ bag_of rest)) (sym same.0) others)

-- ---- its distinct members

distinct-first : (k x : Value) (rest : List Value) → x ≡ k → AreOther k rest
    → distinct (x ∷ rest) ≡ k ∷ distinct rest
distinct-first k x rest same other =
    ap (λ l. x ∷ l)
    (filter_all (λ w. not (value_eq w x)) (distinct rest)
    (Each-distinct (λ w. not (value_eq w x) ≡ true) rest
    (Each-weaker (λ w. w ≡ k → ⊥) (λ w. not (value_eq w x) ≡ true)
    (λ w h. ap not (value_eq-other w x (λ e. h (e ∙ same)))) rest other)))
    ∙ ap (λ v. v ∷ distinct rest) same

distinct-ahead : (k : Value) (run rest : List Value) → AreAll k run → AreOther k rest
    → 0 < length run → distinct (run ++ rest) ≡ k ∷ distinct rest
distinct-ahead k [] rest same other some = absurd (omega arith)
distinct-ahead k (x ∷ []) rest same other some = distinct-first k x rest same.0 other
distinct-ahead k (x ∷ y ∷ ys) rest same other some =
    ap (λ l. x ∷ filter (λ w. not (value_eq w x)) l)
    (distinct-ahead k (y ∷ ys) rest same.1 other (omega arith))
    ∙ ap (λ t. x ∷ cond (not t) (k ∷ filter (λ w. not (value_eq w x)) (distinct rest))
    (filter (λ w. not (value_eq w x)) (distinct rest))) (value_eq-same k x (sym same.0))
    ∙ distinct-first k x rest same.0 other

pub distinct_bag-ahead : (k : Value) (run rest : List Value) → AreAll k run → AreFrom k rest
    → AreOther k rest → 0 < length run
    → distinct (bag_of (run ++ rest)) ≡ k ∷ distinct (bag_of rest)
distinct_bag-ahead k run rest same above other some =
    ap distinct (bag_of-ahead k run rest same above)
    ∙ distinct-ahead k run (bag_of rest) same (Each-bag_of (λ x. x ≡ k → ⊥) rest other) some

-- ---- how often values are in it

pub times-cons : (x : Value) (xs : List Value) (v : Value)
    → times (x ∷ xs) v ≡ cond (value_eq x v) 1 0 + times xs v
times-cons x xs v = sum_by-cons (λ y. cond (value_eq y v) 1 0) x xs

times-none : (v : Value) (xs : List Value) → AreOther v xs → times xs v ≡ 0
times-none v [] other = refl
times-none v (x ∷ xs) other =
    times-cons x xs v
    ∙ (λ i. cond (value_eq-other x v other.0 i) 1 0 + times-none v xs other.1 i)

times-all : (k : Value) (xs : List Value) → AreAll k xs → times xs k ≡ length xs
times-all k [] same = refl
times-all k (x ∷ xs) same =
    times-cons x xs k
    ∙ (λ i. cond (value_eq-same x k same.0 i) 1 0 + times-all k xs same.1 i) ∙ omega arith

pub times-run : (k : Value) (run rest : List Value) → AreAll k run → AreOther k rest
    → times (run ++ rest) k ≡ length run
times-run k run rest same other =
    omega (arith, times-append run rest k, times-all k run same, times-none k rest other)

pub times-rest : (k : Value) (run rest : List Value) (v : Value) → AreAll k run → (v ≡ k → ⊥)
    → times (run ++ rest) v ≡ times rest v
times-rest k run rest v same apart =
    omega (
      arith,
      times-append run rest v,
      times-none v run
          (Each-weaker (λ x. x ≡ k) (λ x. x ≡ v → ⊥) (λ x e h. apart (sym h ∙ e)) run same),
    )

at_most_one : (v x : Value) → cond (value_eq x v) 1 0 ≤ 1
at_most_one v x =
    elim (value_eq x v) as (λ b. cond b 1 0 ≤ 1) [ true ↦ omega arith | false ↦ omega arith ]

pub times-le : (v : Value) (xs : List Value) → times xs v ≤ length xs
times-le v [] = omega arith
times-le v (x ∷ xs) = omega (arith, times-cons x xs v, at_most_one v x, times-le v xs)

-- ---- where a run ends

-- no value of a list that rises is below k, where the first is not
pub all_from : (k : Value) (xs : List Value) → Rises xs
    → ((v : Value) → slice_get xs 0 ≡ Some v → NotBelow k v) → AreFrom k xs
all_from k [] r first = tt
all_from k (x ∷ xs) r first = (
  first x refl,
  Each-weaker (NotBelow x) (NotBelow k) (λ y h. NotBelow-trans k x y (first x refl) h) xs r.0,
)

-- none of the values of a list that rises is k, where none is below it and the first is another
pub others_from : (k : Value) (xs : List Value) → Rises xs → AreFrom k xs
    → ((v : Value) → slice_get xs 0 ≡ Some v → v ≡ k → ⊥) → AreOther k xs
others_from k [] r above first = tt
others_from k (x ∷ xs) r above first = (
  first x refl,
  Each-weaker (NotBelow x) (λ y. y ≡ k → ⊥)
      (λ y h e. first x refl (apart x k (subst (NotBelow x) e h) above.0)) xs r.0,
)

pub slice_get-drop : {A : Type 0} (n : ℕ) (xs : List A) → slice_get (drop n xs) 0 ≡ slice_get xs n
slice_get-drop zero xs = refl
slice_get-drop (suc n) [] = refl
slice_get-drop (suc n) (x ∷ xs) = slice_get-drop n xs
