use Rattle.std.proofs.Common.{◌≡◌, ◌++◌, [], map, take}
use Rattle.csv.specs.Records.{fields_of, partial_of}
use Rattle.csv_rows.specs.Text.{cell_text}
use Rattle.csv_rows.proofs.write.put_field.Given as goal

abbrev pub invariant-cells : goal.invariant-cells
invariant-cells l = record {
  so_far : fields_of l.row ≡ fields_of l.fn.row ++ map cell_text (take l.cell-index l.cell-items);
  partial : partial_of l.row ≡ [];
}
