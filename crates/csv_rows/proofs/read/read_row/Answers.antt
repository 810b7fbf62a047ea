use Rattle.std.proofs.lemmas.Result.{err_from_is_err_and}
use Rattle.csv.specs.Records.{fields_of}
use Rattle.csv_rows.proofs.RowFacts.{cell_fault, cell_more}
use Rattle.csv_rows.proofs.read.read_row.Goals as goal

pub returns-in_err-cell-clause-fault : goal.returns-in_err-cell-clause-fault
returns-in_err-cell-clause-fault c =
    let end = c.from_residual-in_err-cell in
    let p = err_from_is_err_and end.result end.ensures.1 in
    rw (p.1, p.2)
    (λ other. cell_fault c.args.row c.args.columns.now
    (fields_of c.args.fields.now) c.cells.cells c.cells.i c.index-columns-i.result
    c.in-Some.field.now _ c.cells.invariant.same_width c.cells-test.true c.in-Some.ensures.value
    c.cells.invariant.so_far (c.in_err-cell.ensures.fault other))

pub cells-preserved : goal.cells-preserved
cells-preserved c = record {
  same_width = c.cells.invariant.same_width;
  so_far =
      rw c.in_ok-push.ensures.ok
      (cell_more c.args.row c.args.columns.now (fields_of c.args.fields.now) c.cells.cells
      c.cells.i c.index-columns-i.result c.in-Some.field.now c.in_ok-cell.cell
      c.cells-test.true c.in-Some.ensures.value c.cells.invariant.so_far
      c.in_ok-cell.ensures.value);
}
