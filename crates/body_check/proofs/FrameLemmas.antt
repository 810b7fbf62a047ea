-- The types of a function's outputs stay as types are added.
use Rattle.std.proofs.Common.{ℕ, List, length, arith}
use Rattle.std.proofs.lemmas.Option.{slice_get-map}
use Rattle.flume_types.specs.declared.types.Ty.{Ty}
use Rattle.expression_check.specs.of_type_table.Table.{Extends}
use Rattle.expression_check.specs.of_expression_types.Held.{AreTypes}
use Rattle.expression_check.proofs.KeptLemmas.{types-kept}

pub more-types : (old new : List Ty) → Extends old new → (ids : List ℕ)
    → AreTypes (length old) ids → AreTypes (length new) ids
more-types old new more ids all = λ k d k_in. omega (arith, all k d k_in, more.longer)

pub ruleset frame_rules = (types-kept, more-types, slice_get-map)
