-- The values of a type.
use Rattle.std.specs.Prelude.{All, IsTrue, Bool, true, false, ◌&&◌, List, [], ◌∷◌, map}
use Rattle.std.specs.List.{AllZip, list_all}
use Rattle.flume_value.specs.declared.value.Value.{Value, Value-F, fold-Value}
use Rattle.flume_types.specs.declared.types.Ty.{Ty, Ty-F, out-Ty}
use Rattle.flume_types.specs.declared.types.Field.{Field}

-- as many values as fields, each of its field's type
abbrev pub each_has : {X Y : Type 0} → (X → Y → Bool) → List X → List (Field Y) → Bool
each_has R [] [] = true
each_has R [] (field ∷ fields) = false
each_has R (x ∷ xs) [] = false
each_has R (x ∷ xs) (field ∷ fields) = R x field.ty && each_has R xs fields

-- one level, where R says whether a part has a type
abbrev pub layer_has : {X Y : Type 0} → (X → Y → Bool) → Value-F X → Ty-F Y → Bool
layer_has R (Value-F.Int n) Ty-F.Int = true
layer_has R (Value-F.Bool b) Ty-F.Bool = true
layer_has R (Value-F.Text s) Ty-F.Text = true
layer_has R (Value-F.List xs) (Ty-F.List t) = list_all (λ x. R x t) xs
layer_has R (Value-F.Rec xs) (Ty-F.Rec fields) = each_has R xs fields
layer_has R (Value-F.Left x) (Ty-F.Either t u) = R x t
layer_has R (Value-F.Right x) (Ty-F.Either t u) = R x u
layer_has R x t = false

-- whether the value has the type
abbrev pub has_type : Value → Ty → Bool
has_type = fold-Value (Ty → Bool) (λ x t. layer_has (λ f u. f u) x (out-Ty t))

-- the value has the type
abbrev pub Has : Ty → Value → Type 0
Has type value = IsTrue (has_type value type)

-- the values all have the type
abbrev pub AllHave : Ty → List Value → Type 0
AllHave type values = All (Has type) values

-- as many values as types, each of its own
abbrev pub HaveTypes : List Ty → List Value → Type 0
HaveTypes types values = AllZip Has types values

-- the types of fields, in order
abbrev pub types_of : List (Field Ty) → List Ty
types_of fields = map (λ field. field.ty) fields
