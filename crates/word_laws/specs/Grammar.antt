-- The words of the grammar, written out, and what they ask for.
use Rattle.std.specs.Prelude.{◌≡◌, List, [], ◌∷◌, Option, Some, None, codes}
use Rattle.std.specs.List.{flat_map}
use Rattle.clap.specs.Words.{Text}
use Rattle.run_settings.specs.Settings.{RunSettings, standard}
use Rattle.word_laws.specs.Parts.{AskForRun, Part, part_words}
use Rattle.command_words.specs.Words.{asked_for}
use Rattle.command_words.specs.declared.words.Command.{Command}
use Rattle.command_words.specs.declared.words.Command.TheVariants.{Check, Plan, Direct, Run}
use Rattle.command_words.specs.declared.words.PlanForm.TheVariants.{Text as AsText, Json, Rewrites}

-- the words behind the program's name ask for a command on a script
abbrev pub WordsAskFor : List Text → Command → Text → Type 0
WordsAskFor words command script =
    (program : Text) → asked_for (program ∷ words)
    ≡ Some (record { command = command; script = script })

-- a command and its script; for `plan` maybe a flag, before the script or behind it; for `run`
-- options with their values, in any order and with the script among them
pub record TakesGrammar (script : Text) : Type 0 where
  pub check : WordsAskFor (codes "check" ∷ script ∷ []) Check script
  pub plan : WordsAskFor (codes "plan" ∷ script ∷ []) (Plan AsText) script
  pub json_before : WordsAskFor (codes "plan" ∷ codes "--json" ∷ script ∷ []) (Plan Json) script
  pub json_behind : WordsAskFor (codes "plan" ∷ script ∷ codes "--json" ∷ []) (Plan Json) script
  pub rewrites_before : WordsAskFor (codes "plan" ∷ codes "--rewrites" ∷ script ∷ [])
      (Plan Rewrites) script
  pub rewrites_behind : WordsAskFor (codes "plan" ∷ script ∷ codes "--rewrites" ∷ [])
      (Plan Rewrites) script
  pub direct : WordsAskFor (codes "direct" ∷ script ∷ []) Direct script
  pub run : WordsAskFor (codes "run" ∷ script ∷ []) (Run standard None) script
  pub options : (parts : List Part) (settings : RunSettings) (from : Option Text)
      → AskForRun parts script settings from
      → WordsAskFor (codes "run" ∷ flat_map part_words parts) (Run settings from) script
