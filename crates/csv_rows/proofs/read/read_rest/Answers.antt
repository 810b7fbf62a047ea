use Rattle.std.proofs.lemmas.Result.{err_from_is_err_and}
use Rattle.csv.specs.Reading.{expected_len}
use Rattle.csv.specs.Records.{fields_of}
use Rattle.csv_rows.specs.inner.Readers.{left_of}
use Rattle.csv_rows.proofs.RowFacts.{row_fault, row_more, row_width, rows_end, wide_fault}
use Rattle.csv_rows.proofs.read.read_rest.Goals as goal

pub returns-in_err-value-in-Record-clause-fault :
    goal.returns-in_err-value-in-Record-clause-fault
returns-in_err-value-in-Record-clause-fault g c =
    let p =
    err_from_is_err_and c.from_residual-in_err-value-in-Record.result
    c.from_residual-in_err-value-in-Record.ensures.1 in
    let t = rw c.in-Record.is at c.in_ok-next_record.ensures.took in
    let now = c.next_record.new in
    rw (p.1, p.2)
    (λ other. row_fault c.args.columns.now (left_of g.R.Read.remaining c.args.reader.now)
    (left_of g.R.Read.remaining c.rows.reader) (left_of g.R.Read.remaining now.reader)
    c.rows.row c.rows.rows (fields_of now.row) _ c.rows.invariant.so_far t.0
    (c.in_err-value-in-Record.ensures.fault other))

pub returns-in-OtherLength-clause-fault : goal.returns-in-OtherLength-clause-fault
returns-in-OtherLength-clause-fault g c =
    let t = rw c.in-OtherLength.is at c.in_ok-next_record.ensures.took in
    λ other. rw c.bad.ensures
    (wide_fault c.args.columns.now (left_of g.R.Read.remaining c.args.reader.now)
    (left_of g.R.Read.remaining c.rows.reader) c.rows.row c.rows.rows
    (expected_len c.rows.reader) c.rows.invariant.so_far t c.rows.invariant.width)

pub returns-in-End-clause-rows : goal.returns-in-End-clause-rows
returns-in-End-clause-rows g c =
    let t = rw c.in-End.is at c.in_ok-next_record.ensures.took in
    rows_end c.args.columns.now (left_of g.R.Read.remaining c.args.reader.now)
    (left_of g.R.Read.remaining c.rows.reader) c.rows.row c.rows.rows c.rows.invariant.so_far t

pub rows-preserved : goal.rows-preserved
rows-preserved g c =
    let t = rw c.in-Record.is at c.in_ok-next_record.ensures.took in
    let now = c.next_record.new in
    let more =
    row_more c.args.columns.now (left_of g.R.Read.remaining c.args.reader.now)
    (left_of g.R.Read.remaining c.rows.reader) (left_of g.R.Read.remaining now.reader)
    c.rows.row c.rows.rows (fields_of now.row) c.in_ok-value-in-Record.value
    c.rows.invariant.so_far t.0 c.in_ok-value-in-Record.ensures.value in
    record {
      plain = t.1;
      width = rw t.2 (row_width c.rows.row c.args.columns.now (fields_of now.row)
          c.in_ok-value-in-Record.value c.in_ok-value-in-Record.ensures.value);
      so_far = rw c.in_ok-push-in-Record.ensures.ok more;
    }
