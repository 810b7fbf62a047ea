-- What functions of objects take and give.
use Rattle.std.specs.Prelude.{Bool, true, false, not, List, [], ◌∷◌, ◌&&◌, Option, Some, None}
use Rattle.std.specs.List.{list_all}
use Rattle.flume_types.specs.declared.types.Ty.{Ty, Ty-F, out-Ty}
use Rattle.flume_types.specs.declared.types.Field.{Field}
use Rattle.flume_types.specs.Equality.{type_eq}
use Rattle.script_program.specs.Script.{Operand}

-- ---- objects, and collections that are none

abbrev pub are_objects : List Operand → Bool
are_objects operands = list_all (λ one. one.is_object) operands

-- two collections that are no objects
abbrev pub are_plain : Operand → Operand → Bool
are_plain left right = not left.is_object && not right.is_object

-- a collection that is no object, and an object
abbrev pub is_beside : Operand → Operand → Bool
is_beside source object = not source.is_object && object.is_object

-- ---- what is taken: the names of a record's fields do not count

-- the members of a collection that is no object
abbrev pub takes_members : Operand → Ty → Bool
takes_members source takes = not source.is_object && type_eq source.type takes

-- as many of the one as of the other, and each fits the other of its place
abbrev pub pairwise : {A B : Type 0} → (A → B → Bool) → List A → List B → Bool
pairwise fits [] [] = true
pairwise fits [] (other ∷ others) = false
pairwise fits (one ∷ ones) [] = false
pairwise fits (one ∷ ones) (other ∷ others) = fits one other && pairwise fits ones others

-- an operand of a field's type
abbrev pub fits_field : Operand → Field Ty → Bool
fits_field one field = type_eq one.type field.ty

-- as many operands as fields, each of its field's type
abbrev pub each_fits : List Operand → List (Field Ty) → Bool
each_fits operands fields = pairwise fits_field operands fields

-- a level of a type that is a record of fields of these types, in order
abbrev pub is_record_of : List Operand → Ty-F Ty → Bool
is_record_of operands (Ty-F.Rec fields) = each_fits operands fields
is_record_of operands _ = false

-- two fields of these types
abbrev pub are_both : Ty → Ty → List (Field Ty) → Bool
are_both member value (first ∷ second ∷ []) =
    type_eq member first.ty && type_eq value second.ty
are_both member value _ = false

-- a level of a type that is a record of two fields of these types
abbrev pub takes_pair : Ty → Ty → Ty-F Ty → Bool
takes_pair member value (Ty-F.Rec fields) = are_both member value fields
takes_pair member value _ = false

-- a member of such a collection and the value of an object, as a record
abbrev pub takes_both : Operand → Operand → Ty → Bool
takes_both source object takes =
    is_beside source object && takes_pair source.type object.type (out-Ty takes)

-- the value of one object, or the values of several as a record
abbrev pub takes_values : List Operand → Ty → Bool
takes_values [] takes = false
takes_values (one ∷ []) takes = type_eq one.type takes
takes_values (one ∷ other ∷ others) takes =
    is_record_of (one ∷ other ∷ others) (out-Ty takes)

abbrev pub takes_objects : List Operand → Ty → Bool
takes_objects objects takes = are_objects objects && takes_values objects takes

-- ---- what is given

-- the type of a function's only output
abbrev pub sole : List Ty → Option Ty
sole (t ∷ []) = Some t
sole _ = None
