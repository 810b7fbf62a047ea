use Rattle.std.proofs.Common.{◌≡◌, ◌++◌, ℕ, List, map, drop}
use Rattle.flume_types.specs.declared.types.Ty.{Ty}
use Rattle.type_table.specs.Table.{type_at, field_at, AreWithin}
use Rattle.expression_types.specs.Fields.{typed_fields}
use Rattle.expression_types.specs.Held.{AreTypes}
use Rattle.expression_types.proofs.record.parts_of.Given as goal

abbrev pub invariant-loop-i : goal.invariant-loop-i
invariant-loop-i l = record {
  ok : (known : List Ty)
      → map (field_at known) l.parts ++ typed_fields (drop l.i l.names) (map (type_at known)
      (drop l.i l.types))
      ≡ typed_fields l.names (map (type_at known) l.types);
  within : (n : ℕ) → AreTypes n l.types → AreWithin n l.parts;
}
