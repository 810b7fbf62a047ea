use Rattle.std.proofs.Common.{◌≡◌, length}
use Rattle.std.specs.Prelude.{IfSome}
use Rattle.csv.specs.Reading.{expected_len}
use Rattle.csv_rows.proofs.RowFacts.{Continues}
use Rattle.csv_rows.specs.inner.Readers.{IsPlain, left_of}
use Rattle.csv_rows.proofs.read.read_rest.Given as goal

abbrev pub invariant-rows : goal.invariant-rows
invariant-rows g l = record {
  plain : IsPlain l.reader;
  width : IfSome (expected_len l.reader) (λ w. w ≡ length l.columns);
  so_far : Continues l.columns (left_of g.R.Read.remaining l.fn.reader) l.row l.rows
      (left_of g.R.Read.remaining l.reader);
}
