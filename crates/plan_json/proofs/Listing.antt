-- Values of lists side by side, from a place on.
use Rattle.std.proofs.Common.{◌≡◌, ℕ, suc, ◌+◌, ◌<◌, List, [], ◌∷◌, ◌++◌, length, drop, map, sym, ap, ◌∙◌, add-one, append_assoc}
use Rattle.std.specs.Prelude.{Some, slice_get}
use Rattle.std.proofs.lemmas.List.{map-append}
use Rattle.plan_writing.specs.Lists.{paired}
use Rattle.plan_writing.proofs.Listing.{cut, member_at}

-- a value more, whichever the member of the first list is
pub values_next : {X Y Z V : Type 0} (make : X → Y → Z) (view : V → Z) (values more : List V)
    (all : List Z) (xs : List X) (ys : List Y) (i : ℕ) (y : Y) (value : V) → i < length xs
    → slice_get ys i ≡ Some y
    → ((x : X) → slice_get xs i ≡ Some x → view value ≡ make x y)
    → more ≡ values ++ value ∷ []
    → map view values ++ paired make (drop i xs) (drop i ys) ≡ all
    → map view more ++ paired make (drop (i + 1) xs) (drop (i + 1) ys) ≡ all
values_next make view values more all xs ys i y value within there made pushed so_far =
    let x = member_at xs i within in
    rw (pushed, map-append view values (value ∷ []), made x.0 x.1, add-one)
    (append_assoc (map view values) (make x.0 y ∷ [])
    (paired make (drop (suc i) xs) (drop (suc i) ys))
    ∙ ap (λ rest. map view values ++ rest) (sym (cut make xs ys i x.0 y x.1 there)) ∙ so_far)
