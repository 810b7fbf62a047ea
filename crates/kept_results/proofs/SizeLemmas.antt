-- Sizes beside numbers, one more.
use Rattle.std.proofs.Common.{◌≡◌, ℕ, suc, ◌+◌, ◌<◌, ◌≤◌, List, [], ◌∷◌, ◌++◌, length, drop, get_or}
use Rattle.std.proofs.Common.{map, Some, slice_get, refl, sym, ap, ◌∙◌, arith, append_assoc}
use Rattle.std.proofs.Common.{append-nil}
use Rattle.std.specs.Option.{option_map}
use Rattle.std.proofs.lemmas.List.{drop_all, length-map}
use Rattle.std.proofs.lemmas.Option.{slice_get-get_or, slice_get-map, slice_get_read}
use Rattle.script_program.proofs.SourceSteps.{head_of}
use Rattle.kept_results.specs.Sizes.{size_pairs}

none_beside : (nodes : List (ℕ × List ℕ)) → size_pairs nodes [] ≡ []
none_beside [] = refl
none_beside (it ∷ nodes) = refl

-- what is told of the member at a place
told_at : {A B : Type 0} (f : A → B) (xs : List A) (i : ℕ) (x : A) → i < length xs
    → x ≡ get_or xs i x → slice_get (map f xs) i ≡ Some (f x)
told_at f xs i x within is =
    slice_get-map f xs i ∙ ap (option_map f) (slice_get_read xs (length xs) i x refl within is)

module _ (nodes : List (ℕ × List ℕ)) (sizes : List ℕ) (i : ℕ) (old whole : List (ℕ × ℕ))
    (so_far : old ++ size_pairs (drop i nodes) (drop i sizes) ≡ whole) where
  beside_next : (it : ℕ × List ℕ) (size : ℕ) (new : List (ℕ × ℕ))
      → slice_get nodes i ≡ Some it → slice_get sizes i ≡ Some size
      → new ≡ old ++ (it.0, size) ∷ []
      → new ++ size_pairs (drop (i + 1) nodes) (drop (i + 1) sizes) ≡ whole
  beside_next it size new at at_size is =
      let rest = size_pairs (drop (i + 1) nodes) (drop (i + 1) sizes) in
      let next : suc i ≡ i + 1 = omega arith in
      let step : size_pairs (drop i nodes) (drop i sizes) ≡ (it.0, size) ∷ rest
      = (λ j. size_pairs (head_of nodes i it at j) (head_of sizes i size at_size j))
      ∙ ap (λ n. (it.0, size) ∷ size_pairs (drop n nodes) (drop n sizes)) next in
      ap (λ l. l ++ rest) is
      ∙ append_assoc old ((it.0, size) ∷ []) rest
      ∙ ap (λ l. old ++ l) (sym step)
      ∙ so_far

  -- there are no more sizes
  no_size : length sizes ≤ i → old ≡ whole
  no_size end =
      sym (append-nil old)
      ∙ ap (λ l. old ++ l)
      (sym (ap (size_pairs (drop i nodes)) (drop_all i sizes end) ∙ none_beside (drop i nodes)))
      ∙ so_far

-- sizes that lines tell, one by one
module _ {X : Type 0} (f : X → ℕ) (nodes : List (ℕ × List ℕ)) (lines : List X) (i : ℕ)
    (old whole : List (ℕ × ℕ))
    (so_far : old ++ size_pairs (drop i nodes) (drop i (map f lines)) ≡ whole) where
  pub line_next : (it : ℕ × List ℕ) (line : X) (new : List (ℕ × ℕ)) → i < length nodes
      → i < length lines → line ≡ get_or lines i line
      → new ≡ old ++ ((get_or nodes i it).0, f line) ∷ []
      → new ++ size_pairs (drop (i + 1) nodes) (drop (i + 1) (map f lines)) ≡ whole
  line_next it line new below within is =
      beside_next nodes (map f lines) i old whole so_far (get_or nodes i it) (f line) new
      (slice_get-get_or nodes i it below) (told_at f lines i line within is)

  pub no_line : length lines ≤ i → old ≡ whole
  no_line past =
      no_size nodes (map f lines) i old whole so_far (omega (arith, past, length-map lines f))
