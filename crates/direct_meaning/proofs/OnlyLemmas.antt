-- Lists of just one, the values of objects one after another, and pairs with another first value.
use Rattle.std.proofs.Common.{◌≡◌, ℕ, zero, suc, ◌+◌, ◌<◌, List, [], ◌∷◌, ◌++◌, drop, get_or, length, Option, Some, None, slice_get, refl, sym, ap, ◌∙◌, add-one, append_assoc}
use Rattle.std.specs.Option.{option_and_then, option_map}
use Rattle.flume_value.specs.declared.value.Value.{Value}
use Rattle.flume_value.specs.declared.value.Value.TheVariants as value
use Rattle.bag_groups.specs.Pairs.{pair, value_of as second_of}
use Rattle.bag_groups.proofs.PairLemmas.{Parts, parts_of-pair}
use Rattle.direct_meaning.proofs.SizeLemmas.{at_index}
use Rattle.direct_meaning.specs.Objects.{only}
use Rattle.direct_meaning.specs.declared.kept.Kept.{Kept}
use Rattle.direct_meaning.specs.inner.Objects.{value_in, values_in}

-- ---- just one

pub none_only : {X : Type 0} (xs : List X) → (length xs ≡ 1 → ⊥) → None ≡ only xs
none_only [] other = refl
none_only (y ∷ []) other = absurd (other refl)
none_only (y ∷ (z ∷ zs)) other = refl

-- ---- values one after another

-- some values before others, where there are all
abbrev pub before_all : List Value → Option (List Value) → Option (List Value)
before_all so_far rest = option_map (λ vs. so_far ++ vs) rest

values_ahead : (table : List (Option Kept)) (objects : List ℕ) (i number : ℕ)
    → slice_get objects i ≡ Some number
    → values_in table (drop i objects)
    ≡ option_and_then (λ v. option_map (λ vs. v ∷ vs) (values_in table (drop (suc i) objects)))
    (value_in table number)
values_ahead table [] i number at = cc
values_ahead table (object ∷ objects) zero number at =
    let same : object ≡ number = cc in
    ap (λ (n : ℕ). option_and_then
    (λ v. option_map (λ vs. v ∷ vs) (values_in table objects)) (value_in table n)) same
values_ahead table (object ∷ objects) (suc i) number at = values_ahead table objects i number at

one_before : (so_far : List Value) (v : Value) (rest : Option (List Value))
    → before_all (so_far ++ v ∷ []) rest
    ≡ before_all so_far (option_map (λ vs. v ∷ vs) rest)
one_before so_far v None = refl
one_before so_far v (Some vs) =
    ap (λ (l : List Value). Some l) (append_assoc so_far (v ∷ []) vs)

module _ (table : List (Option Kept)) (objects : List ℕ) (i number : ℕ) (so_far : List Value)
    (whole : Option (List Value))
    (along : before_all so_far (values_in table (drop i objects)) ≡ whole) where
  step : slice_get objects i ≡ Some number
      → before_all so_far
      (option_and_then (λ v. option_map (λ vs. v ∷ vs) (values_in table (drop (suc i) objects)))
      (value_in table number))
      ≡ whole
  step at = ap (before_all so_far) (sym (values_ahead table objects i number at)) ∙ along

  pub values_more : i < length objects → number ≡ get_or objects i number → (v : Value)
      → value_in table number ≡ Some v
      → before_all (so_far ++ v ∷ []) (values_in table (drop (i + 1) objects)) ≡ whole
  values_more below at v is =
      (λ j. before_all (so_far ++ v ∷ []) (values_in table (drop (add-one i j) objects)))
      ∙ (one_before so_far v (values_in table (drop (suc i) objects))
      ∙ ((λ j. before_all so_far
      (option_and_then (λ v. option_map (λ vs. v ∷ vs) (values_in table (drop (suc i) objects)))
      (sym is j)))
      ∙ step (at_index objects i number below at)))

-- ---- a pair with another first value

pub second_of-pair : (k v : Value) → second_of (pair k v) ≡ Some v
second_of-pair k v = ap (option_map (λ (it : Parts). it.1)) (parts_of-pair k v)
