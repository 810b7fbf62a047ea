-- The words that ask for a run which reuses what earlier ones have kept: by the definitions of
-- `clap`, of a command line that has `run` with a flag, and no file of a plan.
use Rattle.std.specs.Prelude.{ℕ, List, Option, Some, None, codes, if◌then◌else◌, option_and_then}
use Rattle.std.specs.Str.{bytes_eq}
use Rattle.clap.specs.Words.{App, Row, Text, first_of, with_rule, with_subcommand}
use Rattle.drill_text.specs.Drills.{◌>>=◌}
use Rattle.run_settings.specs.Settings.{RunSettings}
use Rattle.command_words.specs.Options.{settings_given}
use Rattle.command_words.specs.Words.{asks_by, flag_rule, is_operand, is_set, program_app, settings_app}

-- the command `run` of a cached run, with its flag
abbrev pub cached_run_app : App
cached_run_app = with_rule settings_app (flag_rule (codes "cached"))

-- the program, with that command alone
abbrev pub cached_app : App
cached_app = with_subcommand program_app cached_run_app.top

-- what is asked for: how the run is carried out, and the name of a script
pub record CachedRun : Type 0 where
  pub settings : RunSettings
  pub script : List ℕ

-- a run by settings of the script that a word names
abbrev pub reusing : RunSettings → Option Text → Option CachedRun
reusing settings word = do
  script ← word
  if is_operand script then Some (record { settings = settings; script = script }) else None

-- the run that the matches of `run` ask for, where each option is what it has to be
abbrev pub reused_by : List Row → Option CachedRun
reused_by rows = do
  settings ← settings_given rows
  reusing settings (first_of (codes "script") rows)

-- and where the flag is set
abbrev pub cached_by : List Row → Option CachedRun
cached_by rows = if is_set (first_of (codes "cached") rows) then reused_by rows else None

-- what a command that was met asks for, by the matches of its own arguments
abbrev pub cached_at : Text → List Row → Option CachedRun
cached_at name rows = if bytes_eq name (codes "run") then cached_by rows else None

-- what the matches of the command line ask for
abbrev pub cached_of : Option (Text × List Row) → Option CachedRun
cached_of met = option_and_then (λ p. cached_at p.0 p.1) met

-- the cached run that the words ask for, where they do
abbrev pub cached_for : List Text → Option CachedRun
cached_for words = asks_by cached_app cached_of words
