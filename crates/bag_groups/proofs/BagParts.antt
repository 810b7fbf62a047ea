-- What a function gives for those members of a list that are chosen.
use Rattle.std.proofs.Common.{◌≡◌, List, [], ◌∷◌, ◌++◌, Option, Some, None, refl, sym, ap, ◌∙◌, append-nil}
use Rattle.std.specs.Prelude.{filter_map}
use Rattle.std.specs.List.{flat_map, cons_option}
use Rattle.std.specs.Option.{option_to_list}
use Rattle.flume_value.specs.declared.value.Value.{Value}
use Rattle.flume_value.specs.Bag.{bag_of}
use Rattle.flume_value.proofs.BagLemmas.{bag_of-flat_map-bag_of}

abbrev given : {A B : Type 0} → (Value → Option A) → (A → List B) → Value → List B
given choose f x = flat_map f (option_to_list (choose x))

given_on : {A B : Type 0} (f : A → List B) (o : Option A) (xs : List A)
    → flat_map f (cons_option o xs) ≡ flat_map f (option_to_list o) ++ flat_map f xs
given_on f None xs = refl
given_on f (Some x) xs = ap (λ l. l ++ flat_map f xs) (sym (append-nil (f x)))

chosen-flat : {A B : Type 0} (choose : Value → Option A) (f : A → List B) (xs : List Value)
    → flat_map f (filter_map choose xs) ≡ flat_map (given choose f) xs
chosen-flat choose f [] = refl
chosen-flat choose f (x ∷ xs) =
    given_on f (choose x) (filter_map choose xs)
    ∙ ap (λ l. given choose f x ++ l) (chosen-flat choose f xs)

-- as a bag it depends on the bag of the list alone
pub chosen-bag_of : {A : Type 0} (choose : Value → Option A) (f : A → List Value)
    (xs : List Value)
    → bag_of (flat_map f (filter_map choose (bag_of xs)))
    ≡ bag_of (flat_map f (filter_map choose xs))
chosen-bag_of choose f xs =
    ap bag_of (chosen-flat choose f (bag_of xs))
    ∙ bag_of-flat_map-bag_of (given choose f) xs
    ∙ sym (ap bag_of (chosen-flat choose f xs))
