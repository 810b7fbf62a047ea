-- Sizes under names.
use Rattle.std.proofs.Common.{◌≡◌, ◌≢◌, ℕ, true, false, ◌&&◌, List, [], ◌∷◌, length, map}
use Rattle.std.proofs.Common.{refl, arith}
use Rattle.std.proofs.lemmas.Slice.Eq.{bytes_eq-Decides}
use Rattle.std.specs.Str.{bytes_eq}
use Rattle.flume_value.proofs.BoolLemmas.{and_both, both_true}
use Rattle.saved_results.specs.declared.saved.Size.{Size}
use Rattle.kept_results.specs.inner.Named.{are_named}

pub named-length : (sizes : List Size) (names : List (List ℕ)) → length sizes ≢ length names
    → are_named sizes names ≡ false
named-length [] [] ne = absurd (ne refl)
named-length [] (name ∷ names) ne = refl
named-length (size ∷ sizes) [] ne = refl
named-length (size ∷ sizes) (name ∷ names) ne =
    elim (bytes_eq size.name name) as (λ b. b && are_named sizes names ≡ false) [
      | true ↦ named-length sizes names (λ e. ne (omega (arith, e)))
      | false ↦ refl
    ]

pub named-equal : (sizes : List Size) (names : List (List ℕ)) → are_named sizes names ≡ true
    → map (λ (size : Size). size.name) sizes ≡ names
named-equal [] [] e = refl
named-equal [] (name ∷ names) e = cc
named-equal (size ∷ sizes) [] e = cc
named-equal (size ∷ sizes) (name ∷ names) e =
    let parts = both_true (bytes_eq size.name name) (are_named sizes names) e in
    let one = (bytes_eq-Decides size.name name).0 parts.0 in
    let rest = named-equal sizes names parts.1 in
    λ i. one i ∷ rest i

pub equal-named : (sizes : List Size) (names : List (List ℕ))
    → map (λ (size : Size). size.name) sizes ≡ names → are_named sizes names ≡ true
equal-named [] [] e = refl
equal-named [] (name ∷ names) e = cc
equal-named (size ∷ sizes) [] e = cc
equal-named (size ∷ sizes) (name ∷ names) e =
    let one : size.name ≡ name = cc in
    let rest : map (λ (size : Size). size.name) sizes ≡ names = cc in
    and_both (bytes_eq size.name name) (are_named sizes names)
    ((bytes_eq-Decides size.name name).1 one) (equal-named sizes names rest)
