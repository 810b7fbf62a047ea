-- What a call asks its source for.
use Rattle.std.specs.Prelude.{◌⊎◌, ℕ, List, [], ◌∷◌, ◌++◌, Option, Some, None}
use Rattle.command_words.specs.declared.words.Command.{Command}
use Rattle.outside.specs.Asked.{Asks, AsksFront}
use Rattle.outside.specs.Seen.{SeenSource}
use Rattle.run_texts.specs.declared.status.Status.{Status}
use Rattle.run_texts.specs.declared.status.Status.TheVariants.{Done, GaveUp, PlanRefused, Usage, Trap, WriteFault, NoFile, TooLong, ReadFault, ScriptRefused, InputRefused, WantOfMemory}
use Rattle.script_loading.specs.Asks.{AsksUpTo}
use Rattle.script_loading.specs.Causes.{IsLoaded}
use Rattle.script_loading.specs.Loads.{file_names}
use Rattle.script_program.specs.Script.{Script}
use Rattle.run_course.specs.Asked.{AskFor, inputs_read, plan_read, tries_of}

-- the file of a plan, where one is named
abbrev pub plan_file : Option (List ℕ) → List (List ℕ)
plan_file None = []
plan_file (Some name) = name ∷ []

-- the files that a command reads behind the script's, in order: those of its inputs, and that of a
-- plan
abbrev pub files_behind : Command → Script → List (List ℕ)
files_behind command script =
    file_names (inputs_read command script) ++ plan_file (plan_read command)

-- the files that a command reads, in order: first its script's, which has this name
abbrev pub files_read : Command → List ℕ → Script → List (List ℕ)
files_read command name script = name ∷ files_behind command script

-- of a call with these words, by what is seen of its source before the call and after it
module _ (words : List (List ℕ)) (before after : SeenSource) where
  -- the words ask for a command on an accepted script, and all files that it reads were asked for
  abbrev pub AsksAll : Type 0
  AsksAll =
      (command : Command) × (name : List ℕ) × (script : Script) × AskFor words command name
      × IsLoaded before.files name script
      × Asks (tries_of command) (files_read command name script) before after

  -- the same, but only a front of the files was asked for
  abbrev pub AsksSome : Type 0
  AsksSome =
      (command : Command) × (name : List ℕ) × (script : Script) × AskFor words command name
      × IsLoaded before.files name script
      × AsksFront (tries_of command) (files_read command name script) before after

  -- the same, where the last file that was asked for is the one of this name
  abbrev pub AsksUntil : List ℕ → Type 0
  AsksUntil last =
      (command : Command) × (name : List ℕ) × (script : Script) × AskFor words command name
      × IsLoaded before.files name script
      × AsksUpTo (tries_of command) (files_read command name script) before after last

  -- the words ask for a command on the script of this name, and that file alone was asked for
  abbrev pub AsksScript : List ℕ → Type 0
  AsksScript name =
      (command : Command) × AskFor words command name
      × Asks (tries_of command) (name ∷ []) before after

  -- no file was asked for
  abbrev pub AsksNone : Type 0
  AsksNone = Asks 0 [] before after

  -- What was asked for, by the answer: no file where the words ask for nothing; all that the
  -- command reads where the call came to its end; those up to the file that the answer names, where
  -- it names one; and else as many as it came to.
  abbrev pub AsksFor : Status → Type 0
  AsksFor Usage = AsksNone
  AsksFor Done = AsksAll
  AsksFor (Trap origin kind element) = AsksAll
  AsksFor (GaveUp stage phase task) = AsksAll
  AsksFor (WriteFault place) = AsksAll
  AsksFor (PlanRefused step kind) = AsksAll
  AsksFor (NoFile name) = AsksScript name ⊎ AsksUntil name
  AsksFor (TooLong name limit) = AsksScript name ⊎ AsksUntil name
  AsksFor (ReadFault name) = AsksScript name ⊎ AsksUntil name
  AsksFor (InputRefused name row column kind) = AsksUntil name
  AsksFor (ScriptRefused line kind) = (name : List ℕ) × AsksScript name
  AsksFor WantOfMemory = AsksNone ⊎ (((name : List ℕ) × AsksScript name) ⊎ AsksSome)
