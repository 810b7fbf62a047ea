-- What each accepted script is ready for.
use Rattle.std.specs.Prelude.{IsUtf8, ⊤}
use Rattle.std.specs.List.{All}
use Rattle.build_law.specs.Limits.{HasShortFlattens}
use Rattle.script_program.specs.declared.made.Made.{Made}
use Rattle.script_program.specs.declared.made.Made.TheVariants as made
use Rattle.script_program.specs.Script.{Script}

-- the file that is read is named in UTF-8
abbrev pub IsNamedMade : Made → Type 0
IsNamedMade (made.Input file columns) = IsUtf8 file
IsNamedMade _ = ⊤

-- What each accepted script is ready for: its files can be asked for by name, and no statement puts
-- too many collections together.
pub record IsReady (script : Script) : Type 0 where
  pub reads : All (λ entry. IsNamedMade entry.1.made) script.nodes
  pub writes : All (λ entry. IsUtf8 entry.0) script.outputs
  pub short : HasShortFlattens script
