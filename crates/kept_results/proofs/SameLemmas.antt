-- What is kept is told by its value.
use Rattle.std.proofs.Common.{◌≡◌, ℕ, pos, List, [], ◌∷◌, map, Some, refl, sym, ap, ◌∙◌}
use Rattle.std.specs.Prelude.{option_and_then}
use Rattle.std.proofs.lemmas.Option.{some_pair_parts}
use Rattle.flume_value.specs.declared.value.Value.{Value}
use Rattle.flume_value.specs.declared.value.Value.TheVariants as variant
use Rattle.flume_value.specs.Parts.{list_layer, members_of, record_layer, text_layer, text_of}
use Rattle.flume_value.specs.Parts.{wide_layer, wide_of}
use Rattle.saved_results.specs.declared.saved.Saved.{Saved}
use Rattle.saved_results.specs.declared.saved.Size.{Size}
use Rattle.saved_results.specs.Forms.{two_among, two_of}
use Rattle.saved_results.specs.Saved.{saved_value, size_value}

two_again : (a b : Value) → two_of (variant.Rec (a ∷ b ∷ [])) ≡ Some (a, b)
two_again a b =
    ap (λ x. option_and_then two_among (record_layer x)) (variant.outs-Rec (a ∷ b ∷ []))

both_same : (a b x y : Value) → variant.Rec (a ∷ b ∷ []) ≡ variant.Rec (x ∷ y ∷ [])
    → (a ≡ x) × (b ≡ y)
both_same a b x y e = some_pair_parts a x b y (sym (two_again a b) ∙ ap two_of e ∙ two_again x y)

text_same : (a b : List ℕ) → variant.Text a ≡ variant.Text b → a ≡ b
text_same a b e =
    let is : Some a ≡ Some b =
    sym (ap text_layer (variant.outs-Text a)) ∙ ap text_of e ∙ ap text_layer (variant.outs-Text b)
    in
    cc

wide_same : (a b : ℕ) → variant.Wide (pos a) ≡ variant.Wide (pos b) → a ≡ b
wide_same a b e =
    let is : Some (pos a) ≡ Some (pos b) =
    sym (ap wide_layer (variant.outs-Wide (pos a))) ∙ ap wide_of e
    ∙ ap wide_layer (variant.outs-Wide (pos b)) in
    cc

list_same : (a b : List Value) → variant.List a ≡ variant.List b → a ≡ b
list_same a b e =
    let is : Some a ≡ Some b =
    sym (ap list_layer (variant.outs-List a)) ∙ ap members_of e
    ∙ ap list_layer (variant.outs-List b) in
    cc

size_same : (a b : Size) → size_value a ≡ size_value b → a ≡ b
size_same a b e =
    let parts =
    both_same (variant.Text a.name) (variant.Wide (pos a.members)) (variant.Text b.name)
    (variant.Wide (pos b.members)) e in
    let names = text_same a.name b.name parts.0 in
    let counts = wide_same a.members b.members parts.1 in
    λ i. record { name = names i; members = counts i }

sizes_same : (xs ys : List Size) → map size_value xs ≡ map size_value ys → xs ≡ ys
sizes_same [] [] e = refl
sizes_same [] (y ∷ ys) e = cc
sizes_same (x ∷ xs) [] e = cc
sizes_same (x ∷ xs) (y ∷ ys) e =
    let first : size_value x ≡ size_value y = cc in
    let others : map size_value xs ≡ map size_value ys = cc in
    let one = size_same x y first in
    let rest = sizes_same xs ys others in
    λ i. one i ∷ rest i

pub saved_same : (a b : Saved) → saved_value a ≡ saved_value b → a ≡ b
saved_same a b e =
    let parts =
    both_same (variant.List a.members) (variant.List (map size_value a.sizes))
    (variant.List b.members) (variant.List (map size_value b.sizes)) e in
    let members = list_same a.members b.members parts.0 in
    let sizes =
    sizes_same a.sizes b.sizes
    (list_same (map size_value a.sizes) (map size_value b.sizes) parts.1) in
    λ i. record { members = members i; sizes = sizes i }
