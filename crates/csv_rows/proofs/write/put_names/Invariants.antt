use Rattle.std.proofs.Common.{◌≡◌, [], map, take}
use Rattle.csv.specs.Records.{fields_of, partial_of}
use Rattle.csv_rows.proofs.write.put_names.Given as goal

abbrev pub invariant-names : goal.invariant-names
invariant-names l = record {
  so_far : fields_of l.row ≡ map (λ column. column.name) (take l.column-index l.columns);
  partial : partial_of l.row ≡ [];
}
