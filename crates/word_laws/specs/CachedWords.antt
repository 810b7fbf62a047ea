-- The words that ask for a run which reuses what earlier ones have kept, written out.
use Rattle.std.specs.Prelude.{◌≡◌, List, [], ◌∷◌, None, Some, codes}
use Rattle.clap.specs.Words.{Text}
use Rattle.run_settings.specs.Settings.{RunSettings, standard}
use Rattle.word_laws.specs.Grammar.{WordsAskFor}
use Rattle.command_words.specs.Cached.{CachedRun, cached_for}
use Rattle.command_words.specs.declared.words.Command.TheVariants.{Run}

-- the words behind the program's name ask for a cached run of a script
abbrev pub AsksCached : List Text → RunSettings → Text → Type 0
AsksCached words settings script =
    (program : Text) → cached_for (program ∷ words)
    ≡ Some (record { settings = settings; script = script })

-- `run` and a script, with the flag before the script or behind it
pub record TakesCached (script : Text) : Type 0 where
  pub before : AsksCached (codes "run" ∷ codes "--cached" ∷ script ∷ []) standard script
  pub behind : AsksCached (codes "run" ∷ script ∷ codes "--cached" ∷ []) standard script

-- some words behind the program's name ask for this run without a cache
abbrev pub HasPlainWords : CachedRun → Type 0
HasPlainWords run = (words : List Text) × WordsAskFor words (Run run.settings None) run.script
