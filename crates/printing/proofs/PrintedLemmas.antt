-- The equations of `printed`.
use Rattle.std.proofs.Common.{◌≡◌, ℕ, ℤ, Bool, List, [], ◌∷◌, ◌++◌, codes, map, refl, ap, ◌∙◌}
use Rattle.std.specs.Fmt.{signed_decimal}
use Rattle.std.proofs.lemmas.List.Folds.{flat_map-map}
use Rattle.flume_value.specs.declared.value.Value.{Value, Value-F, out-Value, fold_out-Value, map-Value}
use Rattle.flume_value.specs.declared.value.Value.TheVariants as variant
use Rattle.printing.specs.Printed.{quoted, listed, truth, layer_printed, printed}

listed_mapped : {X : Type 0} (f : X → List ℕ) (xs : List X)
    → listed (λ text. text) (map f xs) ≡ listed f xs
listed_mapped f [] = refl
listed_mapped f (x ∷ xs) = ap (λ rest. f x ++ rest) (flat_map-map (λ text. codes ", " ++ text) f xs)

layer_mapped : (f : Value → List ℕ) (x : Value-F Value)
    → layer_printed (λ text. text) (map-Value Value (List ℕ) f x) ≡ layer_printed f x
layer_mapped f (Value-F.List members) = ap (λ inside. codes "[" ++ (inside ++ codes "]"))
    (listed_mapped f members)
layer_mapped f (Value-F.Rec parts) = ap (λ inside. codes "(" ++ (inside ++ codes ")"))
    (listed_mapped f parts)
layer_mapped f _ = refl

pub printed-step : (v : Value) → printed v ≡ layer_printed printed (out-Value v)
printed-step v = fold_out-Value (List ℕ) (layer_printed (λ text. text)) v
    ∙ layer_mapped printed (out-Value v)

pub printed-Int : (n : ℤ) → printed (variant.Int n) ≡ signed_decimal n
printed-Int n = printed-step (variant.Int n) ∙ ap (layer_printed printed) (variant.outs-Int n)

pub printed-Bool : (answer : Bool) → printed (variant.Bool answer) ≡ truth answer
printed-Bool answer = printed-step (variant.Bool answer)
    ∙ ap (layer_printed printed) (variant.outs-Bool answer)

pub printed-Text : (text : List ℕ) → printed (variant.Text text) ≡ quoted text
printed-Text text = printed-step (variant.Text text)
    ∙ ap (layer_printed printed) (variant.outs-Text text)

pub printed-List : (members : List Value)
    → printed (variant.List members) ≡ codes "[" ++ (listed printed members ++ codes "]")
printed-List members = printed-step (variant.List members)
    ∙ ap (layer_printed printed) (variant.outs-List members)

pub printed-Rec : (parts : List Value) → printed (variant.Rec parts) ≡ codes "("
    ++ (listed printed parts ++ codes ")")
printed-Rec parts = printed-step (variant.Rec parts)
    ∙ ap (layer_printed printed) (variant.outs-Rec parts)

pub printed-Left : (part : Value) → printed (variant.Left part) ≡ codes "left("
    ++ (printed part ++ codes ")")
printed-Left part = printed-step (variant.Left part)
    ∙ ap (layer_printed printed) (variant.outs-Left part)

pub printed-Right : (part : Value) → printed (variant.Right part) ≡ codes "right("
    ++ (printed part ++ codes ")")
printed-Right part = printed-step (variant.Right part)
    ∙ ap (layer_printed printed) (variant.outs-Right part)

pub printed-Wide : (n : ℤ) → printed (variant.Wide n) ≡ signed_decimal n
printed-Wide n = printed-step (variant.Wide n) ∙ ap (layer_printed printed) (variant.outs-Wide n)

pub ruleset printed_rules = (
  printed-Int,
  printed-Bool,
  printed-Text,
  printed-List,
  printed-Rec,
  printed-Left,
  printed-Right,
  printed-Wide,
)
