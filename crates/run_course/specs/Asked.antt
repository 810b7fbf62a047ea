-- The files that a call asks for, what is in them, and the turn of each.
use Rattle.std.specs.Prelude.{◌≡◌, ◌⊎◌, ℕ, List, [], ◌∷◌, ◌++◌, Option, Some, None}
use Rattle.script_loading.specs.of_direct_meaning.Inputs.{Wanted, inputs_of}
use Rattle.flume_value.specs.declared.value.Value.{Value}
use Rattle.outside.specs.declared.file.File.{File}
use Rattle.script_program.specs.Script.{Script}
use Rattle.script_loading.specs.Accepted.{Accepted}
use Rattle.script_loading.specs.Loads.{AllHaveRows, Loads}
use Rattle.command_words.specs.Words.{asked_for}
use Rattle.script_loading.specs.Limits.{script_limit, input_limit, plan_limit}
use Rattle.run_course.specs.Limits.{usual_tries}
use Rattle.command_words.specs.declared.words.Command.{Command}
use Rattle.command_words.specs.declared.words.Command.TheVariants.{Check, Plan, Direct, Run}

-- how often a file is loaded for a command before the source's failure is the answer
abbrev pub tries_of : Command → ℕ
tries_of (Run settings from) = settings.tries
tries_of _ = usual_tries

-- the words ask for this command on the script of that name
abbrev pub AskFor : List (List ℕ) → Command → List ℕ → Type 0
AskFor words command name = asked_for words ≡ Some (record { command = command; script = name })

-- the words ask for this command on a script whose bytes are accepted as this script
abbrev pub AskOn : List (List ℕ) → Option (List File) → Command → Script → Type 0
AskOn words told command script =
    (name : List ℕ) × (bytes : List ℕ) × AskFor words command name
    × Loads told name script_limit bytes × Accepted bytes script

-- the inputs that a command reads of a script: those that are needed, and none to check or plan it
abbrev pub inputs_read : Command → Script → List Wanted
inputs_read Check script = []
inputs_read (Plan form) script = []
inputs_read Direct script = inputs_of script
inputs_read (Run settings from) script = inputs_of script

-- the file of a plan that a command reads, where it names one
abbrev pub plan_read : Command → Option (List ℕ)
plan_read (Run settings from) = from
plan_read _ = None

-- it is the turn of an input: the words ask for this command, which reads it, and the inputs
-- before it have rows
abbrev pub IsTurnOf : List (List ℕ) → Option (List File) → Command → Wanted → Type 0
IsTurnOf words told command wanted =
    (script : Script) × (before : List Wanted) × (behind : List Wanted)
    × (rows : List (List Value))
    × AskOn words told command script × (inputs_read command script ≡ before ++ wanted ∷ behind)
    × AllHaveRows told before rows

-- it is the turn of the file of a plan: the words ask for this command, which reads it, on this
-- script, and all inputs that it reads have rows
abbrev pub IsPlanTurn : List (List ℕ) → Option (List File) → Command → Script → List ℕ → Type 0
IsPlanTurn words told command script name =
    (rows : List (List Value)) × AskOn words told command script
    × AllHaveRows told (inputs_read command script) rows × (plan_read command ≡ Some name)

-- the words ask for this command, and it is the turn of a file to be loaded, with that limit: the
-- script's, an input's, or a plan's
abbrev pub IsAskedFor : List (List ℕ) → Option (List File) → Command → List ℕ → ℕ → Type 0
IsAskedFor words told command name limit =
    (AskFor words command name × (limit ≡ script_limit))
    ⊎ (((wanted : Wanted) × IsTurnOf words told command wanted × (name ≡ wanted.file)
    × (limit ≡ input_limit))
    ⊎ ((script : Script) × IsPlanTurn words told command script name × (limit ≡ plan_limit)))
