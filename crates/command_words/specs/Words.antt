-- What the words of a command line ask for: by the definitions of `clap`, of the commands that
-- `flume` has.
use Rattle.std.specs.Prelude.{ℕ, Bool, true, false, not, ◌==◌, List, [], ◌∷◌, Option, Some, None, codes, if◌then◌else◌, nat_le, option_and_then, option_map}
use Rattle.std.specs.Option.{option_map_or}
use Rattle.std.specs.Str.{bytes_eq}
use Rattle.clap.specs.Words.{App, Row, Rule, Shape, Text, fault_of, first_of, new_app, new_rule, subcommand_of, with_rule, with_subcommand}
use Rattle.clap.specs.Walk.{is_empty}
use Rattle.clap.specs.declared.builder.action.ArgAction.{ArgAction}
use Rattle.clap.specs.declared.builder.action.ArgAction.TheVariants.{Set, SetTrue}
use Rattle.drill_text.specs.Drills.{◌>>=◌}
use Rattle.drill_text.specs.Numbers.{number_in}
use Rattle.run_settings.specs.Settings.{RunSettings}
use Rattle.command_words.specs.Options.{settings_given}
use Rattle.command_words.specs.declared.words.Command.{Command}
use Rattle.command_words.specs.declared.words.Command.TheVariants.{Check, Plan, Direct, Run}
use Rattle.command_words.specs.declared.words.PlanForm.{PlanForm}
use Rattle.command_words.specs.declared.words.PlanForm.TheVariants.{Text as AsText, Json, Rewrites}
use Rattle.command_words.specs.declared.workload.Workload.{Workload}

-- ---- the command line

-- a word that has to come, by its place
abbrev pub operand_rule : Text → Rule
operand_rule name = record (new_rule name) { required = true; action = Some Set }

-- the script
abbrev pub script_rule : Rule
script_rule = operand_rule (codes "script")

-- what is set so by the name that it has as a word
abbrev pub named_rule : ArgAction → Text → Rule
named_rule action name = record (new_rule name) { long = Some name; action = Some action }

-- a flag
abbrev pub flag_rule : Text → Rule
flag_rule name = named_rule SetTrue name

-- a command that takes a script
abbrev pub script_app : Text → App
script_app name = with_rule (new_app name) script_rule

-- the command `plan`, which takes flags too
abbrev pub plan_app : App
plan_app =
    with_rule (with_rule (script_app (codes "plan")) (flag_rule (codes "json")))
    (flag_rule (codes "rewrites"))

-- an option with a value
abbrev pub option_rule : Text → Rule
option_rule name = named_rule Set name

-- the command `run`, with the options that say how it is carried out
abbrev pub settings_app : App
settings_app =
    with_rule
    (with_rule
    (with_rule
    (with_rule
    (with_rule (script_app (codes "run")) (option_rule (codes "workers")))
    (option_rule (codes "shards")))
    (option_rule (codes "partitions")))
    (option_rule (codes "tries")))
    (option_rule (codes "fail"))

-- the command `run`, with its options
abbrev pub run_app : App
run_app = with_rule settings_app (option_rule (codes "plan"))

-- the command `make`, which takes two numbers
abbrev pub make_app : App
make_app =
    with_rule (with_rule (new_app (codes "make")) (operand_rule (codes "start")))
    (operand_rule (codes "rows"))

-- the program's own settings: a command has to come, and there is no help to ask for
abbrev pub asking_for_command : Shape → Shape
asking_for_command s = record s {
  subcommand_required = true;
  disable_help_flag = true;
  disable_help_subcommand = true;
}

abbrev pub program_app : App
program_app = record { top = asking_for_command (new_app (codes "flume")).top; subs = [] }

-- the program, with its five commands
abbrev pub flume_app : App
flume_app =
    with_subcommand
    (with_subcommand
    (with_subcommand
    (with_subcommand (with_subcommand program_app (script_app (codes "check")).top) plan_app.top)
    (script_app (codes "direct")).top)
    run_app.top)
    make_app.top

-- ---- what is asked for

-- the code of `-`, with which options begin
abbrev pub dash : ℕ
dash = 45

-- a word that names something: it is not empty, and no option
abbrev pub is_operand : List ℕ → Bool
is_operand [] = false
is_operand (first ∷ rest) = not (first == dash)

-- what words ask a command line for, by what is read of the command that is met and of its matches:
-- nothing where `clap` refuses them
abbrev pub asks_by : {A : Type 0} → App → (Option (Text × List Row) → Option A) → List Text
    → Option A
asks_by app read words =
    if is_empty (fault_of app words) then read (subcommand_of app words) else None

-- ---- a made workload

-- the most that either of its numbers may be
abbrev pub most_made : ℕ
most_made = 1000000

-- a number that is no more than that
abbrev pub bounded_count : Text → Option ℕ
bounded_count text =
    option_and_then (λ n. if nat_le n most_made then Some n else None) (number_in text)

-- a made workload: the number before the first row's, and how many rows there are
abbrev pub workload : ℕ → ℕ → Workload
workload start rows = record { start = start; rows = rows }

-- the workload of two words
abbrev pub workload_in : Option Text → Option Text → Option Workload
workload_in start rows =
    option_and_then (λ first. option_map (workload first) (option_and_then bounded_count rows))
    (option_and_then bounded_count start)

-- the workload of a command that was met, by the matches of its own arguments: `make` has one
abbrev pub workload_at : Text → List Row → Option Workload
workload_at name rows =
    if bytes_eq name (codes "make")
    then workload_in (first_of (codes "start") rows) (first_of (codes "rows") rows)
    else None

-- the workload of the matches of the command line
abbrev pub workload_of : Option (Text × List Row) → Option Workload
workload_of met = option_and_then (λ p. workload_at p.0 p.1) met

-- the workload that the words ask for, where they do
abbrev pub workload_for : List Text → Option Workload
workload_for words = asks_by flume_app workload_of words

-- ---- a command on a script

-- what is asked for: a command, and the name of a script
pub record Asked : Type 0 where
  pub command : Command
  pub script : List ℕ

-- a flag is set, by its text
abbrev pub is_set : Option Text → Bool
is_set flag = option_map_or (λ text. bytes_eq text (codes "true")) flag false

-- how a plan is shown, by the texts of the flags, of which one at most is set
abbrev pub form_of : Option Text → Option Text → Option PlanForm
form_of json rewrites =
    if is_set json then (if is_set rewrites then None else Some Json)
    else Some (if is_set rewrites then Rewrites else AsText)

-- the command that shows a plan so
abbrev pub command_of_plan : Option Text → Option Text → Option Command
command_of_plan json rewrites = option_map Plan (form_of json rewrites)

-- the name of a plan's file, where it names something
abbrev pub plan_named : Text → Option (Option Text)
plan_named name = if is_operand name then Some (Some name) else None

-- the file of the plan that the option's text names; none where the option is not there
abbrev pub plan_given : Option Text → Option (Option Text)
plan_given option = option_map_or plan_named option (Some None)

-- a run by settings, of the plan of a file or of the script's own
abbrev pub run_with : Option RunSettings → Option (Option Text) → Option Command
run_with given named = do
  settings ← given
  from ← named
  Some (Run settings from)

-- the run that the options give, where each option is what it has to be
abbrev pub run_of : List Row → Option Command
run_of rows = run_with (settings_given rows) (plan_given (first_of (codes "plan") rows))

-- the command of a name, by the matches of its own arguments
abbrev pub command_of : Text → List Row → Option Command
command_of name rows =
    if bytes_eq name (codes "check") then Some Check
    else if bytes_eq name (codes "plan")
    then command_of_plan (first_of (codes "json") rows) (first_of (codes "rewrites") rows)
    else if bytes_eq name (codes "direct") then Some Direct
    else if bytes_eq name (codes "run") then run_of rows
    else None

-- a command on the script that a word names
abbrev pub asking : Command → Option Text → Option Asked
asking command word = do
  script ← word
  if is_operand script then Some (record { command = command; script = script }) else None

-- what a command that was met asks for, by the matches of its own arguments
abbrev pub asked_at : Text → List Row → Option Asked
asked_at name rows = do
  command ← command_of name rows
  asking command (first_of (codes "script") rows)

-- what the matches of the command line ask for
abbrev pub asked_of : Option (Text × List Row) → Option Asked
asked_of met = option_and_then (λ p. asked_at p.0 p.1) met

-- what the words ask for: nothing where `clap` refuses them, and else what their matches say
abbrev pub asked_for : List Text → Option Asked
asked_for words = asks_by flume_app asked_of words
