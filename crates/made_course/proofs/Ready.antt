-- The script of the sums is ready to be run.
use Rattle.std.proofs.Common.{◌<◌, ℕ, List, codes, lit<}
use Rattle.std.specs.Prelude.{IsUtf8}
use Rattle.std.specs.List.{AllByRecursion}
use Rattle.std.proofs.lemmas.List.Elements.{All-from_recursion}
use Rattle.std.proofs.lemmas.Str.{IsUtf8-from_ascii}
use Rattle.std.proofs.lemmas.Str.Ascii.{IsAscii-from_all}
use Rattle.run_course.specs.of_script_loading.Ready.{IsNamedMade, IsReady}
use Rattle.run_texts.specs.Texts.{NamedOutput}
use Rattle.script_program.specs.Script.{Node}
use Rattle.made_rows.specs.Sums.{sums_nodes, sums_script}

ascii : (bs : List ℕ) → AllByRecursion (λ b. b < 128) bs → IsUtf8 bs
ascii bs low =
    IsUtf8-from_ascii bs (IsAscii-from_all bs (All-from_recursion (λ (b : ℕ). b < 128) bs low))

-- eight letters
made_named : IsUtf8 (codes "made.csv")
made_named =
    ascii (codes "made.csv")
    (lit< tt, (lit< tt, (lit< tt, (lit< tt, (lit< tt, (lit< tt, (lit< tt, (lit< tt, tt))))))))

sums_named : IsUtf8 (codes "sums.csv")
sums_named =
    ascii (codes "sums.csv")
    (lit< tt, (lit< tt, (lit< tt, (lit< tt, (lit< tt, (lit< tt, (lit< tt, (lit< tt, tt))))))))

pub ready : IsReady sums_script
ready = record {
  reads = All-from_recursion (λ (entry : List ℕ × Node). IsNamedMade entry.1.made) sums_nodes
      (made_named, (tt, (tt, (tt, tt))));
  writes = All-from_recursion (λ (entry : NamedOutput). IsUtf8 entry.0) sums_script.outputs
      (sums_named, tt);
  short = (tt, (tt, (tt, (tt, tt))));
}
