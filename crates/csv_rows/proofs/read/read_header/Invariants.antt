use Rattle.std.proofs.Common.{◌≡◌, ◌+◌, drop, length}
use Rattle.csv.specs.Records.{fields_of}
use Rattle.csv_rows.specs.Rows.{other_name}
use Rattle.csv_rows.proofs.read.read_header.Given as goal

abbrev pub invariant-names : goal.invariant-names
invariant-names l = record {
  same_width : length (fields_of l.names) ≡ length l.columns;
  names_left : other_name 1 l.columns (fields_of l.names) ≡ other_name (l.i + 1)
      (drop l.i l.columns) (drop l.i (fields_of l.names));
}
