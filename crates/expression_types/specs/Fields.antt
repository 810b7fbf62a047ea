-- The parts of types.
use Rattle.std.specs.Prelude.{ℕ, suc, Bool, not, ◌&&◌, true, List, [], ◌∷◌, Option, Some, None, if◌then◌else◌}
use Rattle.std.specs.List.{list_any}
use Rattle.std.specs.Str.{bytes_eq}
use Rattle.flume_types.specs.declared.types.Ty.{Ty, Ty-F, out-Ty}
use Rattle.flume_types.specs.declared.types.Field.{Field}

-- whether no name stands twice
abbrev pub are_different : List (List ℕ) → Bool
are_different [] = true
are_different (name ∷ names) = not (list_any (bytes_eq name) names) && are_different names

-- fields of these names and types, in order
abbrev pub typed_fields : List (List ℕ) → List Ty → List (Field Ty)
typed_fields [] types = []
typed_fields (name ∷ names) [] = []
typed_fields (name ∷ names) (type ∷ types) =
    record { name = name; ty = type } ∷ typed_fields names types

-- the place and the type of the field of that name, where the first of these has the place `from`
abbrev pub named_field : List ℕ → ℕ → List (Field Ty) → Option (ℕ × Ty)
named_field name from [] = None
named_field name from (field ∷ fields) =
    if bytes_eq name field.name then Some (from, field.ty) else named_field name (suc from) fields

abbrev pub fields_layer : {X : Type 0} → Ty-F X → Option (List (Field X))
fields_layer (Ty-F.Rec fields) = Some fields
fields_layer _ = None

abbrev pub member_layer : {X : Type 0} → Ty-F X → Option X
member_layer (Ty-F.List type) = Some type
member_layer _ = None

abbrev pub side_layer : {X : Type 0} → Ty-F X → Option (X × X)
side_layer (Ty-F.Either left right) = Some (left, right)
side_layer _ = None

-- the fields of a record type
abbrev pub record_fields : Ty → Option (List (Field Ty))
record_fields type = fields_layer (out-Ty type)

-- the type of a list's members
abbrev pub member_type : Ty → Option Ty
member_type type = member_layer (out-Ty type)

-- the types of an either's sides
abbrev pub side_types : Ty → Option (Ty × Ty)
side_types type = side_layer (out-Ty type)
