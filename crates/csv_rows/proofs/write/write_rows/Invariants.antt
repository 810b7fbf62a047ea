use Rattle.std.proofs.Common.{◌≡◌, map, take}
use Rattle.std.specs.Prelude.{Some, IfSome}
use Rattle.csv.specs.Writing.{text_written}
use Rattle.csv_rows.specs.Text.{table_text}
use Rattle.csv_rows.specs.inner.Writers.{IsFresh}
use Rattle.csv_rows.proofs.write.write_rows.Given as goal

abbrev pub invariant-rows : goal.invariant-rows
invariant-rows l = record {
  fresh : IsFresh l.writer;
  so_far : IfSome (text_written (λ v. Some v.items) l.writer)
      (λ text. text ≡ table_text l.columns
      (map (λ value. value.now) (take l.value-index l.values)));
}
