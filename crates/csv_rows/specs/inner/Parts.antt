-- What the records of a part of a file mean.
use Rattle.std.specs.Prelude.{List}
use Rattle.flume_types.specs.declared.column.Column.{Column}
use Rattle.csv_rows.specs.Rows.{ValuesOrFault, rows_from, rows_under}
use Rattle.csv_rows.specs.declared.read.Head.{Head}
use Rattle.csv_rows.specs.declared.read.Head.TheVariants as head
use Rattle.csv_rows.specs.inner.Readers.{Fields}

-- the rows of records, of which the first is the header, or none is
abbrev pub rows_behind : Head → List Column → List Fields → ValuesOrFault
rows_behind head.Names columns records = rows_under columns records
rows_behind head.NoNames columns records = rows_from 1 columns records
