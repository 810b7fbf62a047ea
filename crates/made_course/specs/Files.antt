-- What `make` writes.
use Rattle.std.specs.Prelude.{ℕ, List, [], ◌∷◌, codes, length}
use Rattle.command_words.specs.declared.workload.Workload.{Workload}
use Rattle.csv_rows.specs.Text.{table_text}
use Rattle.flume_value.specs.declared.value.Value.{Value}
use Rattle.made_rows.specs.Keyed.{sums_of}
use Rattle.made_rows.specs.Rows.{made_numbers, made_rows, made_text, total_of_numbers}
use Rattle.made_rows.specs.Sums.{sum_columns}
use Rattle.outside.specs.declared.file.File.{File}
use Rattle.run_texts.specs.Texts.{made_line}

-- the rows of a workload
abbrev pub workload_rows : Workload → List Value
workload_rows w = made_rows w.start w.rows

-- the sums of its numbers, by their keys
abbrev pub sums_for : Workload → List Value
sums_for w = sums_of (made_numbers w.start w.rows)

-- the made input, and the sorted text of its sums
abbrev pub files_for : Workload → List File
files_for w =
    record { name = codes "made.csv"; bytes = made_text w.start w.rows }
    ∷ record { name = codes "sums.csv"; bytes = table_text sum_columns (sums_for w) } ∷ []

-- the line of the screen: how many rows there are, how many keys, and the sum of all numbers
abbrev pub line_for : Workload → List ℕ
line_for w = made_line w.rows (length (sums_for w)) (total_of_numbers (made_numbers w.start w.rows))
