-- The hosts that a call lends to the workers of a run.
use Rattle.std.specs.Prelude.{ℕ, List, take}
use Rattle.std.specs.Option.{option_map_or}
use Rattle.outside.specs.Accounts.{Account}
use Rattle.run_settings.specs.Settings.{RunSettings}
use Rattle.command_words.specs.Words.{asked_for}
use Rattle.command_words.specs.declared.words.Command.{Command}
use Rattle.command_words.specs.declared.words.Command.TheVariants.{Run}

-- how many hosts a command lends: a run one to each of its workers, and other commands none
abbrev pub lends : Command → ℕ
lends (Run s from) = s.workers
lends _ = 0

-- how many hosts a call with these words lends
abbrev pub lent_to : List (List ℕ) → ℕ
lent_to words = option_map_or (λ asked. lends asked.command) (asked_for words) 0

-- the hosts that a run lends, which are the first
abbrev pub lent : RunSettings → List Account → List Account
lent s hosts = take s.workers hosts
