-- The equations of `fits`, and what is in range by its type.
use Rattle.std.proofs.Common.{◌≡◌, ◌<◌, ◌^◌, ℕ, ℤ, pos, negsuc, Bool, true, ◌&&◌, List, [], ◌∷◌, length, map, FitsSigned, refl, ap, ◌∙◌}
use Rattle.std.specs.List.{list_all}
use Rattle.std.specs.Int.{w64, w128}
use Rattle.std.proofs.lemmas.Bool.{lt-ltb, ltb-true}
use Rattle.std.proofs.lemmas.List.{length-map}
use Rattle.flume_value.specs.declared.value.Value.{Value, Value-F, out-Value, map-Value, fold_out-Value}
use Rattle.flume_value.specs.declared.value.Value.TheVariants as variant
use Rattle.flume_value.specs.Ranges.{fits_int, fits_wide, fits_length, layer_fits, fits}
use Rattle.flume_value.proofs.BoolLemmas.{and_both}
use Rattle.flume_value.proofs.CanonicalLemmas.{canonical_rules}

all_mapped : (f : Value → Bool) (xs : List Value) → list_all (λ b. b) (map f xs) ≡ list_all f xs
all_mapped f [] = refl
all_mapped f (x ∷ xs) = ap (λ b. f x && b) (all_mapped f xs)

layer_mapped : (f : Value → Bool) (x : Value-F Value)
    → layer_fits (λ b. b) (map-Value Value Bool f x) ≡ layer_fits f x
layer_mapped f (Value-F.List xs) = λ i. fits_length (length-map xs f i) && all_mapped f xs i
layer_mapped f (Value-F.Rec xs) = λ i. fits_length (length-map xs f i) && all_mapped f xs i
layer_mapped f _ = refl

pub fits-step : (v : Value) → fits v ≡ layer_fits fits (out-Value v)
fits-step v =
    fold_out-Value Bool (layer_fits (λ b. b)) v ∙ layer_mapped fits (out-Value v)

pub fits-Int : (n : ℤ) → fits (variant.Int n) ≡ fits_int n
fits-Int n = fits-step (variant.Int n) ∙ ap (layer_fits fits) (variant.outs-Int n)

pub fits-Bool : (b : Bool) → fits (variant.Bool b) ≡ true
fits-Bool b = fits-step (variant.Bool b) ∙ ap (layer_fits fits) (variant.outs-Bool b)

pub fits-Text : (s : List ℕ) → fits (variant.Text s) ≡ fits_length (length s)
fits-Text s = fits-step (variant.Text s) ∙ ap (layer_fits fits) (variant.outs-Text s)

pub fits-List : (xs : List Value)
    → fits (variant.List xs) ≡ fits_length (length xs) && list_all fits xs
fits-List xs = fits-step (variant.List xs) ∙ ap (layer_fits fits) (variant.outs-List xs)

pub fits-Rec : (xs : List Value)
    → fits (variant.Rec xs) ≡ fits_length (length xs) && list_all fits xs
fits-Rec xs = fits-step (variant.Rec xs) ∙ ap (layer_fits fits) (variant.outs-Rec xs)

pub fits-Left : (x : Value) → fits (variant.Left x) ≡ fits x
fits-Left x = fits-step (variant.Left x) ∙ ap (layer_fits fits) (variant.outs-Left x)

pub fits-Right : (x : Value) → fits (variant.Right x) ≡ fits x
fits-Right x = fits-step (variant.Right x) ∙ ap (layer_fits fits) (variant.outs-Right x)

pub fits-Wide : (n : ℤ) → fits (variant.Wide n) ≡ fits_wide n
fits-Wide n = fits-step (variant.Wide n) ∙ ap (layer_fits fits) (variant.outs-Wide n)

-- ---- in range by its type

pub fits_int-signed : (n : ℤ) → FitsSigned w64 n → fits_int n ≡ true
fits_int-signed (pos n) f = lt-ltb n (2 ^ 63) f.sfits
fits_int-signed (negsuc n) f = lt-ltb n (2 ^ 63) f.sfits

pub fits_wide-signed : (n : ℤ) → FitsSigned w128 n → fits_wide n ≡ true
fits_wide-signed (pos n) f = lt-ltb n (2 ^ 127) f.sfits
fits_wide-signed (negsuc n) f = lt-ltb n (2 ^ 127) f.sfits

pub signed-fits_int : (n : ℤ) → fits_int n ≡ true → FitsSigned w64 n
signed-fits_int (pos n) p = record { sfits = ltb-true n (2 ^ 63) p }
signed-fits_int (negsuc n) p = record { sfits = ltb-true n (2 ^ 63) p }

pub signed-fits_wide : (n : ℤ) → fits_wide n ≡ true → FitsSigned w128 n
signed-fits_wide (pos n) p = record { sfits = ltb-true n (2 ^ 127) p }
signed-fits_wide (negsuc n) p = record { sfits = ltb-true n (2 ^ 127) p }

pub fits_length-below : (n : ℕ) → n < 2 ^ 64 → fits_length n ≡ true
fits_length-below n low = lt-ltb n (2 ^ 64) low

pub ruleset range_rules = (
  fits-Int,
  fits-Bool,
  fits-Text,
  fits-List,
  fits-Rec,
  fits-Left,
  fits-Right,
  fits-Wide,
  fits_int-signed,
  fits_wide-signed,
  fits_length-below,
  and_both,
)

pub ruleset byte_rules = (canonical_rules, range_rules)
