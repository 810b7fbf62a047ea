-- A writer between two records.
use Rattle.std.specs.Prelude.{◌≡◌, false}
use Rattle.csv.specs.Writing.{fields_written, has_written, writer_setup}
use Rattle.csv.specs.declared.writer.Writer.{Writer}
use Rattle.csv_rows.specs.Text.{plain_writer}

-- it stands between two records, and writes them as the rows of a text are written
abbrev pub IsFresh : {W : Type 0} → Writer W → Type 0
IsFresh writer = (writer_setup writer ≡ plain_writer) × (fields_written writer ≡ 0)
    × (has_written writer ≡ false)
