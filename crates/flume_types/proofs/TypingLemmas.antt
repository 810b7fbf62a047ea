-- The equations of `has_type`.
use Rattle.std.proofs.Common.{◌≡◌, ◌≢◌, Bool, true, false, ◌&&◌, List, [], ◌∷◌, length, map, arith, refl, ap, ◌∙◌}
use Rattle.std.specs.List.{list_all}
use Rattle.flume_value.specs.declared.value.Value.{Value, Value-F, out-Value, fold_out-Value, map-Value}
use Rattle.flume_value.specs.declared.value.Value.TheVariants as variant
use Rattle.flume_types.specs.declared.types.Ty.{Ty, Ty-F, out-Ty}
use Rattle.flume_types.specs.declared.types.Ty.TheVariants as ty
use Rattle.flume_types.specs.declared.types.Field.{Field}
use Rattle.flume_types.specs.Typing.{each_has, layer_has, has_type}

all_applied : {X Y : Type 0} (R : X → Y → Bool) (xs : List X) (t : Y)
    → list_all (λ f. f t) (map R xs) ≡ list_all (λ x. R x t) xs
all_applied R [] t = refl
all_applied R (x ∷ xs) t = ap (λ b. R x t && b) (all_applied R xs t)

each_applied : {X Y : Type 0} (R : X → Y → Bool) (xs : List X) (fields : List (Field Y))
    → each_has (λ f t. f t) (map R xs) fields ≡ each_has R xs fields
each_applied R [] [] = refl
each_applied R [] (t ∷ ts) = refl
each_applied R (x ∷ xs) [] = refl
each_applied R (x ∷ xs) (t ∷ ts) = ap (λ b. R x t.ty && b) (each_applied R xs ts)

layer_applied : (R : Value → Ty → Bool) (x : Value-F Value) (t : Ty-F Ty)
    → layer_has (λ f u. f u) (map-Value Value (Ty → Bool) R x) t ≡ layer_has R x t
layer_applied R (Value-F.List xs) (Ty-F.List t) = all_applied R xs t
layer_applied R (Value-F.Rec xs) (Ty-F.Rec fields) = each_applied R xs fields
layer_applied R (Value-F.Int n) Ty-F.Int = refl
layer_applied R (Value-F.Bool b) Ty-F.Bool = refl
layer_applied R (Value-F.Text s) Ty-F.Text = refl
layer_applied R (Value-F.Left x) (Ty-F.Either t u) = refl
layer_applied R (Value-F.Right x) (Ty-F.Either t u) = refl
layer_applied R _ _ = refl

pub has_type-step : (v : Value) (t : Ty) → has_type v t
    ≡ layer_has has_type (out-Value v) (out-Ty t)
has_type-step v t =
    ap (λ f. f t) (fold_out-Value (Ty → Bool) (λ x u. layer_has (λ f w. f w) x (out-Ty u)) v)
    ∙ layer_applied has_type (out-Value v) (out-Ty t)

pub has_type-List : (xs : List Value) (t : Ty) → has_type (variant.List xs) (ty.List t)
    ≡ list_all (λ x. has_type x t) xs
has_type-List xs t = has_type-step (variant.List xs) (ty.List t)
    ∙ (λ i. layer_has has_type (variant.outs-List xs i) (ty.outs-List t i))

pub has_type-Rec : (xs : List Value) (fields : List (Field Ty))
    → has_type (variant.Rec xs) (ty.Rec fields) ≡ each_has has_type xs fields
has_type-Rec xs fields = has_type-step (variant.Rec xs) (ty.Rec fields)
    ∙ (λ i. layer_has has_type (variant.outs-Rec xs i) (ty.outs-Rec fields i))

pub has_type-Left : (x : Value) (t u : Ty) → has_type (variant.Left x) (ty.Either t u)
    ≡ has_type x t
has_type-Left x t u = has_type-step (variant.Left x) (ty.Either t u)
    ∙ (λ i. layer_has has_type (variant.outs-Left x i) (ty.outs-Either t u i))

pub has_type-Right : (x : Value) (t u : Ty) → has_type (variant.Right x) (ty.Either t u)
    ≡ has_type x u
has_type-Right x t u = has_type-step (variant.Right x) (ty.Either t u)
    ∙ (λ i. layer_has has_type (variant.outs-Right x i) (ty.outs-Either t u i))

pub each_has-length : {X Y : Type 0} (R : X → Y → Bool) (xs : List X) (fields : List (Field Y))
    → length xs ≢ length fields → each_has R xs fields ≡ false
each_has-length R [] [] ne = absurd (ne refl)
each_has-length R [] (t ∷ ts) ne = refl
each_has-length R (x ∷ xs) [] ne = refl
each_has-length R (x ∷ xs) (t ∷ ts) ne =
    elim (R x t.ty) as (λ b. b && each_has R xs ts ≡ false) [
      | true ↦ each_has-length R xs ts (λ e. ne (omega (arith, e)))
      | false ↦ refl
    ]

pub ruleset typing_rules = (has_type-List, has_type-Rec, has_type-Left, has_type-Right)
