-- Sizes under the names of their collections.
use Rattle.std.proofs.Common.{◌≡◌, ℕ, zero, suc, ◌+◌, ◌<◌, List, [], ◌∷◌, ◌++◌, drop, get_or, length, map, Option, Some, None, slice_get, refl, sym, ap, ◌∙◌, arith, add-one, append_assoc}
use Rattle.std.specs.Option.{option_map}
use Rattle.flume_collection.specs.Collection.{Collection}
use Rattle.written_types.specs.Named.{Named}
use Rattle.script_program.specs.Script.{Node}
use Rattle.build_law.specs.of_direct_meaning.Direct.{sizes_from}
use Rattle.run_sizes.specs.inner.Along.{named_sizes, size_line}
use Rattle.run_sizes.proofs.Together.{sized}

-- the sizes of what is made are those of the meaning
pub meant_sizes : (nodes : Named Node) (made : List (Option Collection))
    → named_sizes nodes (map sized made) ≡ sizes_from nodes made
meant_sizes [] made = refl
meant_sizes (entry ∷ nodes) [] = refl
meant_sizes (entry ∷ nodes) (None ∷ made) = meant_sizes nodes made
meant_sizes (entry ∷ nodes) (Some c ∷ made) =
    ap (λ l. size_line entry.0 (sized (Some c)) ++ l) (meant_sizes nodes made)

-- ---- one after another

ahead : (nodes : Named Node) (sizes : List (Option ℕ)) (n : ℕ) (name : List ℕ) (size : Option ℕ)
    → option_map (λ (entry : List ℕ × Node). entry.0) (slice_get nodes n) ≡ Some name
    → slice_get sizes n ≡ Some size
    → named_sizes (drop n nodes) (drop n sizes)
    ≡ size_line name size ++ named_sizes (drop (suc n) nodes) (drop (suc n) sizes)
ahead [] sizes n name size named at = cc
ahead (entry ∷ nodes) [] n name size named at = cc
ahead (entry ∷ nodes) (made ∷ sizes) zero name size named at =
    let same : entry.0 ≡ name = cc in
    let is : made ≡ size = cc in
    λ i. size_line (same i) (is i) ++ named_sizes nodes sizes
ahead (entry ∷ nodes) (made ∷ sizes) (suc n) name size named at =
    ahead nodes sizes n name size named at

pub one_named : (nodes : Named Node) (sizes : List (Option ℕ)) (n : ℕ) (name : List ℕ)
    (size : Option ℕ) (lines more : List (List ℕ × ℕ))
    → option_map (λ (entry : List ℕ × Node). entry.0) (slice_get nodes n) ≡ Some name
    → slice_get sizes n ≡ Some size
    → more ≡ lines ++ size_line name size
    → lines ++ named_sizes (drop n nodes) (drop n sizes) ≡ named_sizes nodes sizes
    → more ++ named_sizes (drop (n + 1) nodes) (drop (n + 1) sizes) ≡ named_sizes nodes sizes
one_named nodes sizes n name size lines more named at is so_far =
    (λ i. is i ++ named_sizes (drop (add-one n i) nodes) (drop (add-one n i) sizes))
    ∙ (append_assoc lines (size_line name size)
    (named_sizes (drop (suc n) nodes) (drop (suc n) sizes))
    ∙ (ap (λ (l : List (List ℕ × ℕ)). lines ++ l)
    (sym (ahead nodes sizes n name size named at))
    ∙ so_far))

pub at_number : (sizes : List (Option ℕ)) (n : ℕ) → n < length sizes
    → slice_get sizes n ≡ Some (get_or sizes n None)
at_number [] n below = absurd (omega arith)
at_number (size ∷ sizes) zero below = refl
at_number (size ∷ sizes) (suc n) below = at_number sizes n (omega arith)
