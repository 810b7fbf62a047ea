-- The types of tables.
use Rattle.std.specs.Prelude.{[], ◌∷◌, codes}
use Rattle.flume_types.specs.declared.types.Ty.{Ty}
use Rattle.flume_types.specs.declared.types.Ty.TheVariants as ty

-- the type of the elements of a table: a record of a key and a value
abbrev pub table_of : Ty → Ty → Ty
table_of key value =
    ty.Rec
    (record { name = codes "key"; ty = key }
    ∷ record { name = codes "value"; ty = value } ∷ [])
