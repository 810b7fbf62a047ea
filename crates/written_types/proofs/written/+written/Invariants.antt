use Rattle.std.proofs.Common.{◌≡◌, [], length, map, drop}
use Rattle.type_table.specs.Table.{field_at, AreWithin, Extends}
use Rattle.written_types.specs.Written.{fields_behind, written}
use Rattle.written_types.proofs.written.+written.Given as goal

abbrev pub invariant-fields-loop-i : goal.invariant-fields-loop-i
invariant-fields-loop-i l = record {
  gives :
      fields_behind l.line (written l.line) (map (field_at l.known.types) l.fields)
      (drop l.i l.names) (drop l.i l.types) l.fn.known.names
      ≡ fields_behind l.line (written l.line) [] l.names l.types l.fn.known.names;
  within : AreWithin (length l.known.types) l.fields;
  extends : Extends l.fn.known.types l.known.types;
  names : l.known.names ≡ l.fn.known.names;
}
