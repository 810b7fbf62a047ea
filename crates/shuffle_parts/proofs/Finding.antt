-- What is found in each of several, one after another.
use Rattle.std.proofs.Common.{◌≡◌, ◌+◌, ◌<◌, ◌≤◌, ℕ, suc, Option, Some, None, List, [], ◌∷◌, ◌++◌, drop, get_or, length, refl, sym, ap, ◌∙◌, subst, add-one, append-nil, append_assoc}
use Rattle.std.specs.Prelude.{IsSome, IsSomeAnd, option_and_then, option_map}
use Rattle.std.specs.List.{AllZip, flat_map}
use Rattle.std.proofs.Math.Seq.{drop-cons}
use Rattle.std.proofs.lemmas.List.{drop_all}
use Rattle.shuffle_parts.specs.Outs.{all_found}

module _ {X Y : Type 0} (f : X → Option (List Y)) where
  -- what is found behind others that were found
  pub found_both : (x : X) (xs : List X) (first rest : List Y) → f x ≡ Some first
      → all_found f xs ≡ Some rest → all_found f (x ∷ xs) ≡ Some (first ++ rest)
  found_both x xs first rest e h =
      ap (option_and_then (λ a. option_map (λ b. a ++ b) (all_found f xs))) e
      ∙ ap (option_map (λ b. first ++ b)) h

  -- what is found in each comes to all
  pub found_zip : (xs : List X) (yss : List (List Y)) → AllZip (λ x ys. f x ≡ Some ys) xs yss
      → all_found f xs ≡ Some (flat_map (λ ys. ys) yss)
  found_zip [] [] all = refl
  found_zip [] (ys ∷ yss) all = absurd all
  found_zip (x ∷ xs) [] all = absurd all
  found_zip (x ∷ xs) (ys ∷ yss) all =
      found_both x xs ys (flat_map (λ ys. ys) yss) all.0 (found_zip xs yss all.1)

  -- so far, with what is found in those that are left, it comes to the whole
  abbrev pub ComesTo : List X → Option (List Y) → List Y → Type 0
  ComesTo left whole so_far = IsSomeAnd (all_found f left) (λ rest. whole ≡ Some (so_far ++ rest))

  begins_by : (o : Option (List Y)) → IsSome o → IsSomeAnd o (λ rest. o ≡ Some ([] ++ rest))
  begins_by None some = absurd (cc)
  begins_by (Some rest) some = refl

  pub begins : (xs : List X) (so_far : List Y) → so_far ≡ [] → IsSome (all_found f xs)
      → ComesTo xs (all_found f xs) so_far
  begins xs so_far none some =
      subst (ComesTo xs (all_found f xs)) (sym none) (begins_by (all_found f xs) some)

  module _ (x : X) (xs : List X) (whole : Option (List Y)) (so_far : List Y) where
    there_by : (o : Option (List Y))
        → IsSomeAnd (option_and_then (λ a. option_map (λ b. a ++ b) (all_found f xs)) o)
        (λ rest. whole ≡ Some (so_far ++ rest)) → IsSome o
    there_by None stands = absurd stands
    there_by (Some first) stands = refl

    more_by : (first more : List Y) → more ≡ so_far ++ first → (o : Option (List Y))
        → IsSomeAnd (option_map (λ b. first ++ b) o) (λ rest. whole ≡ Some (so_far ++ rest))
        → IsSomeAnd o (λ rest. whole ≡ Some (more ++ rest))
    more_by first more e None stands = stands
    more_by first more e (Some rest) stands =
        stands ∙ ap Some (sym (append_assoc so_far first rest) ∙ ap (λ l. l ++ rest) (sym e))

    pub first_there : ComesTo (x ∷ xs) whole so_far → IsSome (f x)
    first_there stands = there_by (f x) stands

    pub found_next : (first next : List Y) → f x ≡ Some first → next ≡ so_far ++ first
        → ComesTo (x ∷ xs) whole so_far → ComesTo xs whole next
    found_next first next found e stands =
        more_by first next e (all_found f xs)
        (subst (λ o. IsSomeAnd (option_and_then (λ a. option_map (λ b. a ++ b) (all_found f xs)) o)
        (λ rest. whole ≡ Some (so_far ++ rest))) found stands)

  -- ---- by the places of a list
  module _ (all : List X) (i : ℕ) (x : X) (below : i < length all) (is : x ≡ get_or all i x)
      (whole : Option (List Y)) (so_far : List Y) (stands : ComesTo (drop i all) whole so_far) where
    left : drop i all ≡ x ∷ drop (i + 1) all
    left =
        drop-cons all i x below ∙ ap (λ y. y ∷ drop (suc i) all) (sym is)
        ∙ ap (λ n. x ∷ drop n all) (sym (add-one i))

    stands_here : ComesTo (x ∷ drop (i + 1) all) whole so_far
    stands_here = subst (λ l. ComesTo l whole so_far) left stands

    pub found_here : IsSome (f x)
    found_here = there_by x (drop (i + 1) all) whole so_far (f x) stands_here

    pub found_more : (first next : List Y) → f x ≡ Some first → next ≡ so_far ++ first
        → ComesTo (drop (i + 1) all) whole next
    found_more first next found e =
        found_next x (drop (i + 1) all) whole so_far first next found e stands_here

  pub found_all : (all : List X) (i : ℕ) (whole : Option (List Y)) (so_far : List Y)
      → length all ≤ i → ComesTo (drop i all) whole so_far → whole ≡ Some so_far
  found_all all i whole so_far end stands =
      subst (λ l. ComesTo l whole so_far) (drop_all i all end) stands
      ∙ ap Some (append-nil so_far)
