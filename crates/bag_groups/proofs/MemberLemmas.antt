-- What holds of each of a list's distinct members, and of what refers to its members.
use Rattle.std.proofs.Common.{◌≡◌, subst, Bool, true, false, cond, List, [], ◌∷◌, map, refl, sym, ap, ◌∙◌}
use Rattle.std.specs.Borrow.{Bor}
use Rattle.std.specs.Prelude.{filter, not, All}
use Rattle.std.specs.List.{AllByRecursion as Each}
use Rattle.std.proofs.lemmas.List.Elements.{All-from_recursion, recursion_from_All}
use Rattle.flume_value.specs.declared.value.Value.{Value}
use Rattle.flume_value.specs.Equality.{value_eq}
use Rattle.flume_value.proofs.EachLemmas.{Each-filter}
use Rattle.bag_groups.specs.Groups.{distinct}

pub Each-distinct : (P : Value → Type 0) (xs : List Value) → Each P xs → Each P (distinct xs)
Each-distinct P [] e = tt
Each-distinct P (x ∷ xs) e =
    (e.0, Each-filter P (λ w. not (value_eq w x)) (distinct xs) (Each-distinct P xs e.1))

pub filter_all : {A : Type 0} (p : A → Bool) (xs : List A) → Each (λ x. p x ≡ true) xs
    → filter p xs ≡ xs
filter_all p [] e = refl
filter_all p (x ∷ xs) e =
    ap (λ b. cond b (x ∷ filter p xs) (filter p xs)) e.0 ∙ ap (λ l. x ∷ l) (filter_all p xs e.1)

pub filter_none : {A : Type 0} (p : A → Bool) (xs : List A) → Each (λ x. p x ≡ false) xs
    → filter p xs ≡ []
filter_none p [] e = refl
filter_none p (x ∷ xs) e =
    ap (λ b. cond b (x ∷ filter p xs) (filter p xs)) e.0 ∙ filter_none p xs e.1

pub map_same : (f g : Value → Value) (xs : List Value) → Each (λ x. f x ≡ g x) xs
    → map f xs ≡ map g xs
map_same f g [] e = refl
map_same f g (x ∷ xs) e = λ i. e.0 i ∷ map_same f g xs e.1 i

-- ---- what all that is told has, all that refers to it has

each_back : {A B : Type 0} (f : A → B) (P : B → Type 0) (xs : List A) → Each P (map f xs)
    → Each (λ x. P (f x)) xs
each_back f P [] e = tt
each_back f P (x ∷ xs) e = (e.0, each_back f P xs e.1)

pub all_back : {A B : Type 0} (f : A → B) (P : B → Type 0) (xs : List A) → All P (map f xs)
    → All (λ x. P (f x)) xs
all_back f P xs all =
    All-from_recursion (λ x. P (f x)) xs
    (each_back f P xs (recursion_from_All P (map f xs) all))

pub referred_all : {A : Type 0} (P : A → Type 0) (refs : List (Bor A)) (xs : List A)
    → map (λ (r : Bor A). r.now) refs ≡ xs → All P xs → All (λ (r : Bor A). P r.now) refs
referred_all {A} P refs xs e all =
    all_back (λ (r : Bor A). r.now) P refs (subst (All P) (sym e) all)
