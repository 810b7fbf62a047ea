use Rattle.std.proofs.Common.{◌≡◌, length}
use Rattle.csv.specs.Records.{fields_of}
use Rattle.csv_rows.proofs.RowFacts.{Reads}
use Rattle.csv_rows.proofs.read.read_row.Given as goal

abbrev pub invariant-cells : goal.invariant-cells
invariant-cells l = record {
  same_width : length (fields_of l.fields) ≡ length l.columns;
  so_far : Reads l.row l.columns (fields_of l.fields) l.cells l.i;
}
