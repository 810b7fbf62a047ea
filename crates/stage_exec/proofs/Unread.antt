-- Collections among those that stages read.
use Rattle.std.proofs.Common.{◌≡◌, Bool, true, false, ◌||◌, List, [], ◌∷◌, ◌++◌, refl, ap, ◌∙◌, sym, append_assoc}
use Rattle.std.specs.List.{flat_map, list_any}
use Rattle.std.proofs.lemmas.List.Folds.{list_any-append}

-- among the members of lists, one behind another
pub any_inside : {A B : Type 0} (p : B → Bool) (f : A → List B) (xs : List A)
    → list_any (λ x. list_any p (f x)) xs ≡ list_any p (flat_map f xs)
any_inside p f [] = refl
any_inside p f (x ∷ xs) =
    ap (λ b. list_any p (f x) || b) (any_inside p f xs)
    ∙ sym (list_any-append p (f x) (flat_map f xs))

or_or : (a b c : Bool) → (a || b) || c ≡ a || (b || c)
or_or true b c = refl
or_or false b c = refl

pub any_flat : {A B : Type 0} (p : B → Bool) (f : A → List B) (xs : List A) (ys : List B)
    → list_any (λ x. list_any p (f x)) xs || list_any p ys ≡ list_any p (flat_map f xs ++ ys)
any_flat p f [] ys = refl
any_flat p f (x ∷ xs) ys =
    or_or (list_any p (f x)) (list_any (λ x. list_any p (f x)) xs) (list_any p ys)
    ∙ ap (λ b. list_any p (f x) || b) (any_flat p f xs ys)
    ∙ sym (list_any-append p (f x) (flat_map f xs ++ ys))
    ∙ ap (list_any p) (sym (append_assoc (f x) (flat_map f xs) ys))
