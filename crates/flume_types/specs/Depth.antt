-- How deep the parts of a type lie.
use Rattle.std.specs.Prelude.{ℕ, ◌+◌, max, List, [], ◌∷◌}
use Rattle.flume_types.specs.declared.types.Ty.{Ty, Ty-F, fold-Ty}
use Rattle.flume_types.specs.declared.types.Field.{Field}

-- the greatest depth among fields, where n gives that of a field's type
abbrev pub deepest : {X : Type 0} → (X → ℕ) → List (Field X) → ℕ
deepest n [] = 0
deepest n (field ∷ fields) = max (n field.ty) (deepest n fields)

-- one level, where n gives the depth of a part: 1 more than the deepest part
abbrev pub layer_depth : {X : Type 0} → (X → ℕ) → Ty-F X → ℕ
layer_depth n Ty-F.Int = 1
layer_depth n Ty-F.Bool = 1
layer_depth n Ty-F.Text = 1
layer_depth n (Ty-F.List t) = n t + 1
layer_depth n (Ty-F.Rec fields) = deepest n fields + 1
layer_depth n (Ty-F.Either t u) = max (n t) (n u) + 1

-- the depth of a type
abbrev pub depth_of : Ty → ℕ
depth_of = fold-Ty ℕ (layer_depth (λ n. n))
