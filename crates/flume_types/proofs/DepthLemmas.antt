-- The equations of `depth_of`.
use Rattle.std.proofs.Common.{◌≡◌, ℕ, ◌+◌, max, List, [], ◌∷◌, map, refl, ap, ◌∙◌}
use Rattle.flume_types.specs.declared.types.Ty.{Ty, Ty-F, out-Ty, map-Ty, fold_out-Ty}
use Rattle.flume_types.specs.declared.types.Ty.TheVariants as variant
use Rattle.flume_types.specs.declared.types.Field.{Field}
use Rattle.flume_types.specs.Depth.{deepest, layer_depth, depth_of}

deepest_mapped : {X Y : Type 0} (h : Field X → Field Y) (m : Y → ℕ) (n : X → ℕ)
    → ((f : Field X) → m (h f).ty ≡ n f.ty) → (fields : List (Field X)) → deepest m (map h fields)
    ≡ deepest n fields
deepest_mapped h m n e [] = refl
deepest_mapped h m n e (f ∷ fields) = λ i. max (e f i) (deepest_mapped h m n e fields i)

mapped : (n : Ty → ℕ) (t : Ty-F Ty) → layer_depth (λ m. m) (map-Ty Ty ℕ n t) ≡ layer_depth n t
mapped n (Ty-F.Rec fields) = ap (λ k. k + 1) (deepest_mapped _ (λ m. m) n (λ f. refl) fields)
mapped n _ = refl

pub depth_of-step : (t : Ty) → depth_of t ≡ layer_depth depth_of (out-Ty t)
depth_of-step t = fold_out-Ty ℕ (layer_depth (λ n. n)) t ∙ mapped depth_of (out-Ty t)

pub depth_of-Int : depth_of variant.Int ≡ 1
depth_of-Int = depth_of-step variant.Int ∙ ap (layer_depth depth_of) variant.outs-Int

pub depth_of-List : (t : Ty) → depth_of (variant.List t) ≡ depth_of t + 1
depth_of-List t = depth_of-step (variant.List t) ∙ ap (layer_depth depth_of) (variant.outs-List t)

pub depth_of-Rec : (fields : List (Field Ty)) → depth_of (variant.Rec fields)
    ≡ deepest depth_of fields + 1
depth_of-Rec fields = depth_of-step (variant.Rec fields)
    ∙ ap (layer_depth depth_of) (variant.outs-Rec fields)

pub depth_of-Either : (t u : Ty) → depth_of (variant.Either t u) ≡ max (depth_of t) (depth_of u) + 1
depth_of-Either t u = depth_of-step (variant.Either t u)
    ∙ ap (layer_depth depth_of) (variant.outs-Either t u)

pub ruleset depth_rules = (depth_of-List, depth_of-Rec, depth_of-Either)
