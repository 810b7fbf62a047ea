use Rattle.std.proofs.Common.{◌∙◌, sym, arith}
use Rattle.csv.specs.Records.{fields_of}
use Rattle.csv_rows.proofs.RowFacts.{field_at-none, header_is, names_next}
use Rattle.csv_rows.proofs.read.read_header.Goals as goal

pub returns-in_default : goal.returns-in_default
returns-in_default c =
    let past =
    field_at-none (fields_of c.args.names.now) c.names.i (sym c.in_default.ensures.value) in
    absurd (omega (arith, past, c.names.invariant.same_width))

pub returns-then-ne : goal.returns-then-ne
returns-then-ne c =
    sym (header_is c.args.columns.now (fields_of c.args.names.now) c.names.invariant.same_width
    ∙ names_next c.args.columns.now (fields_of c.args.names.now) c.names.i
    c.index-columns-i.result c.as_bytes-name.result.now c.in-Some.other.now _ c.names-test.true
    c.in-Some.ensures.value c.as_bytes-name.ensures c.if-ne.ensures c.names.invariant.names_left)

pub names-preserved : goal.names-preserved
names-preserved c = record {
  same_width = c.names.invariant.same_width;
  names_left = names_next c.args.columns.now (fields_of c.args.names.now) c.names.i
      c.index-columns-i.result c.as_bytes-name.result.now c.in-Some.other.now _
      c.names-test.true c.in-Some.ensures.value c.as_bytes-name.ensures c.if-ne.ensures
      c.names.invariant.names_left;
}
