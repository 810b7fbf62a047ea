-- The types that a combiner takes and gives.
use Rattle.std.specs.Prelude.{◌≡◌}
use Rattle.flume_types.specs.declared.types.Ty.{Ty}
use Rattle.flume_types.specs.declared.types.Ty.TheVariants as ty
use Rattle.combine_table.specs.declared.comb.Comb.{Comb}
use Rattle.combine_table.specs.declared.comb.Comb.TheVariants as by

-- the combiner takes values of the type
abbrev pub TakesType : Comb → Ty → Type 0
TakesType by.Sum t = t ≡ ty.Int
TakesType by.All t = t ≡ ty.Bool
TakesType by.Any t = t ≡ ty.Bool
TakesType by.Mean t = t ≡ ty.Int
TakesType _ t = Unit {0}

-- the type of what the combiner makes of values of the type
abbrev pub gives_type : Comb → Ty → Ty
gives_type by.Sum t = ty.Int
gives_type by.Count t = ty.Int
gives_type by.Min t = t
gives_type by.Max t = t
gives_type by.All t = ty.Bool
gives_type by.Any t = ty.Bool
gives_type (by.Top n) t = ty.List t
gives_type by.Mean t = ty.Int
gives_type by.Distinct t = ty.List t
