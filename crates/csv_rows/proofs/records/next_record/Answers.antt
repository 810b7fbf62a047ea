use Rattle.std.proofs.Common.{◌∙◌, refl, inl, sym}
use Rattle.csv.specs.Reading.{expected_len}
use Rattle.csv.specs.Records.{fields_of}
use Rattle.csv_rows.proofs.RecordFacts.{ends, other_length, same_width, takes}
use Rattle.csv_rows.proofs.records.next_record.Goals as goal

pub returns-in-Ok-true-clause-took : goal.returns-in-Ok-true-clause-took
returns-in-Ok-true-clause-took g c =
    let (ready, config, trim, flexible) = c.requires in
    let e = rw c.in-Ok-true.field-0-test at c.in-Ok-true.ensures in
    let r = e.reads trim ready in
    let widths = r.5 refl flexible in
    let new = c.read_byte_record.new.self in
    let fields = fields_of c.read_byte_record.new.row in (
      takes g.R.Read.remaining c.args.reader.now new fields config r,
      (inl (e.ready trim), r.2 ∙ config, r.3 ∙ trim, e.flexible ∙ flexible),
      widths.1,
      same_width (expected_len c.args.reader.now) (expected_len new) _ widths.0 widths.1,
    )

pub returns-in-Ok-false-clause-took : goal.returns-in-Ok-false-clause-took
returns-in-Ok-false-clause-took g c =
    let (ready, config, trim, flexible) = c.requires in
    let e = rw c.in-Ok-false.field-0-test at c.in-Ok-false.ensures in
    ends g.R.Read.remaining c.args.reader.now c.read_byte_record.new.self
    (fields_of c.read_byte_record.new.row) config (e.reads trim ready)

pub returns-in-UnequalLengths-clause-took : goal.returns-in-UnequalLengths-clause-took
returns-in-UnequalLengths-clause-took g c =
    let (ready, config, trim, flexible) = c.requires in
    let kind = sym c.kind.ensures ∙ c.in-UnequalLengths.is in
    let (_, expected, other, fields, took, same) = rw kind at (c.in-Err.ensures.why ready) in
    other_length g.R.Read.remaining c.args.reader.now c.read_byte_record.new.self fields
    c.in-UnequalLengths.expected_len c.in-UnequalLengths.len config took expected other same
