-- The equations of `levels_of`.
use Rattle.std.proofs.Common.{◌≡◌, ℕ, ◌+◌, ◌≤◌, max, ℤ, Bool, List, [], ◌∷◌, map, refl, sym, ap, ◌∙◌, arith}
use Rattle.std.specs.List.{AllByRecursion as Each}
use Rattle.flume_value.specs.declared.value.Value.{Value, Value-F, out-Value, fold_out-Value, map-Value}
use Rattle.flume_value.specs.declared.value.Value.TheVariants as variant
use Rattle.value_reading.specs.Levels.{greatest_by, layer_levels, levels_of}

greatest_mapped : (f : Value → ℕ) (xs : List Value)
    → greatest_by (λ n. n) (map f xs) ≡ greatest_by f xs
greatest_mapped f [] = refl
greatest_mapped f (x ∷ xs) = ap (max (f x)) (greatest_mapped f xs)

layer_mapped : (f : Value → ℕ) (x : Value-F Value)
    → layer_levels (λ n. n) (map-Value Value ℕ f x) ≡ layer_levels f x
layer_mapped f (Value-F.List xs) = ap (λ n. n + 1) (greatest_mapped f xs)
layer_mapped f (Value-F.Rec xs) = ap (λ n. n + 1) (greatest_mapped f xs)
layer_mapped f _ = refl

levels-step : (v : Value) → levels_of v ≡ layer_levels levels_of (out-Value v)
levels-step v = fold_out-Value ℕ (layer_levels (λ n. n)) v ∙ layer_mapped levels_of (out-Value v)

pub levels-Int : (n : ℤ) → levels_of (variant.Int n) ≡ 1
levels-Int n = levels-step (variant.Int n) ∙ ap (layer_levels levels_of) (variant.outs-Int n)

pub levels-Bool : (b : Bool) → levels_of (variant.Bool b) ≡ 1
levels-Bool b = levels-step (variant.Bool b) ∙ ap (layer_levels levels_of) (variant.outs-Bool b)

pub levels-Text : (s : List ℕ) → levels_of (variant.Text s) ≡ 1
levels-Text s = levels-step (variant.Text s) ∙ ap (layer_levels levels_of) (variant.outs-Text s)

pub levels-List : (xs : List Value)
    → levels_of (variant.List xs) ≡ greatest_by levels_of xs + 1
levels-List xs = levels-step (variant.List xs) ∙ ap (layer_levels levels_of) (variant.outs-List xs)

pub levels-Rec : (xs : List Value) → levels_of (variant.Rec xs) ≡ greatest_by levels_of xs + 1
levels-Rec xs = levels-step (variant.Rec xs) ∙ ap (layer_levels levels_of) (variant.outs-Rec xs)

pub levels-Left : (x : Value) → levels_of (variant.Left x) ≡ levels_of x + 1
levels-Left x = levels-step (variant.Left x) ∙ ap (layer_levels levels_of) (variant.outs-Left x)

pub levels-Right : (x : Value) → levels_of (variant.Right x) ≡ levels_of x + 1
levels-Right x = levels-step (variant.Right x) ∙ ap (layer_levels levels_of) (variant.outs-Right x)

pub levels-Wide : (n : ℤ) → levels_of (variant.Wide n) ≡ 1
levels-Wide n = levels-step (variant.Wide n) ∙ ap (layer_levels levels_of) (variant.outs-Wide n)

-- ---- a value has a level at least

layer_positive : (x : Value-F Value) → 1 ≤ layer_levels levels_of x
layer_positive (Value-F.Int n) = omega arith
layer_positive (Value-F.Bool b) = omega arith
layer_positive (Value-F.Text s) = omega arith
layer_positive (Value-F.List xs) = omega arith
layer_positive (Value-F.Rec xs) = omega arith
layer_positive (Value-F.Left x) = omega arith
layer_positive (Value-F.Right x) = omega arith
layer_positive (Value-F.Wide n) = omega arith

pub levels_positive : (v : Value) → 1 ≤ levels_of v
levels_positive v =
    let e = levels-step v in let p = layer_positive (out-Value v) in omega (arith, e, p)

-- ---- all of a list, and the greatest of them

abbrev pub Within : ℕ → List Value → Type 0
Within n xs = Each (λ x. levels_of x ≤ n) xs

pub greatest_within : (n : ℕ) (xs : List Value) → Within n xs → greatest_by levels_of xs ≤ n
greatest_within n [] h = omega arith
greatest_within n (x ∷ xs) h =
    let first : levels_of x ≤ n = h.0 in
    let others = greatest_within n xs h.1 in omega (arith, first, others)

pub within_greatest : (n : ℕ) (xs : List Value) → greatest_by levels_of xs ≤ n → Within n xs
within_greatest n [] h = tt
within_greatest n (x ∷ xs) h = (omega (arith, h), within_greatest n xs (omega (arith, h)))
