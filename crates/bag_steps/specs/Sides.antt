-- The type of both sides of a join.
use Rattle.std.specs.Prelude.{[], ◌∷◌, codes}
use Rattle.flume_types.specs.declared.types.Ty.{Ty}
use Rattle.flume_types.specs.declared.types.Ty.TheVariants as ty

-- the type of the record of the lists of both sides, from the types of their members
abbrev pub sides_of : Ty → Ty → Ty
sides_of left right =
    ty.Rec
    (record { name = codes "left"; ty = ty.List left }
    ∷ record { name = codes "right"; ty = ty.List right } ∷ [])
