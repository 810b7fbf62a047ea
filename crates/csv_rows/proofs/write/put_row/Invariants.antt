use Rattle.std.proofs.Common.{◌≡◌, ◌++◌, [], map, take}
use Rattle.std.specs.List.{flat_map}
use Rattle.csv.specs.Records.{fields_of, partial_of}
use Rattle.flume_value.specs.declared.value.Value.{out-Value}
use Rattle.flume_types.specs.Cells.{field_cells}
use Rattle.csv_rows.specs.Text.{cell_text}
use Rattle.csv_rows.proofs.write.put_row.Given as goal

abbrev pub invariant-parts : goal.invariant-parts
invariant-parts l = record {
  so_far : fields_of l.row ≡ fields_of l.fn.row ++ map cell_text
      (flat_map (λ part. field_cells part (out-Value part)) (take l.part-index l.part-items));
  partial : partial_of l.row ≡ [];
}
