-- The files that are written are the made input and its sums.
use Rattle.std.proofs.Common.{◌≡◌, ◌∙◌, List, [], ◌∷◌, ◌++◌, Some, codes, map, slice_get, ap, ap₂}
use Rattle.command_words.specs.declared.workload.Workload.{Workload}
use Rattle.csv_rows.specs.Text.{table_text}
use Rattle.flume_value.specs.declared.value.Value.{Value}
use Rattle.outside.specs.Saves.{output_file}
use Rattle.outside.specs.declared.file.File.{File}
use Rattle.outside.specs.declared.saves.Output.{Output}
use Rattle.run_course.specs.inner.Course.{file_with}
use Rattle.run_texts.specs.Texts.{NamedOutput}
use Rattle.script_program.specs.Script.{Script}
use Rattle.made_rows.specs.Rows.{made_text}
use Rattle.made_rows.specs.Sums.{sum_columns, sums_script}
use Rattle.made_course.specs.Files.{files_for, sums_for}

abbrev made_file : Workload → File
made_file w = record { name = codes "made.csv"; bytes = made_text w.start w.rows }

abbrev file_of_sums : Workload → File
file_of_sums w = record {
  name = codes "sums.csv";
  bytes = table_text sum_columns (sums_for w);
}

-- the file of the script's one output has the sums
pub sums_file : (w : Workload) (script : Script) (sums : List Value) (file : File)
    → script ≡ sums_script → sums ≡ sums_for w
    → ((output : NamedOutput) → slice_get script.outputs 0 ≡ Some output
    → file ≡ file_with output sums)
    → file ≡ file_of_sums w
sums_file w script sums file is are own =
    own (codes "sums.csv", record { name = codes "s"; reads = 3; columns = sum_columns })
    (ap (λ (s : Script). slice_get s.outputs 0) is)
    ∙ ap (λ (l : List Value). record { name = codes "sums.csv"; bytes = table_text sum_columns l })
    are

-- two outputs, one pushed behind the other
pub both_files : (w : Workload) (made sums : Output) (none one both : List Output) → none ≡ []
    → one ≡ none ++ made ∷ [] → both ≡ one ++ sums ∷ [] → output_file made ≡ made_file w
    → output_file sums ≡ file_of_sums w → map output_file both ≡ files_for w
both_files w made sums none one both empty first second is are =
    ap (map output_file)
    (second ∙ ap (λ l. l ++ sums ∷ []) (first ∙ ap (λ l. l ++ made ∷ []) empty))
    ∙ ap₂ (λ (a b : File). a ∷ b ∷ []) is are
