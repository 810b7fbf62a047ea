-- How a run is asked to be carried out, by the matches of the options of `run`.
use Rattle.std.specs.Prelude.{ℕ, List, [], Option, Some, codes}
use Rattle.std.specs.Option.{option_map_or}
use Rattle.clap.specs.Words.{Row, Text, first_of}
use Rattle.crew.specs.declared.drill.Entry.{Entry}
use Rattle.run_settings.specs.Settings.{RunSettings, standard}
use Rattle.run_settings.specs.Limits.{most_partitions, most_shards, most_tries, most_workers}
use Rattle.drill_text.specs.Drills.{◌>>=◌, drill_in}
use Rattle.drill_text.specs.Numbers.{number_up_to}

-- the number from 1 up to a limit that an option's text spells; what is standard where the option
-- is not there
abbrev pub number_given : ℕ → ℕ → Option Text → Option ℕ
number_given usual limit option = option_map_or (number_up_to limit) option (Some usual)

-- the drill that the option's text spells; none where the option is not there
abbrev pub drill_given : Option Text → Option (List Entry)
drill_given option = option_map_or drill_in option (Some [])

-- the settings with this drill
abbrev pub settings_with : List Entry → List Row → Option RunSettings
settings_with drill rows = do
  workers ← number_given standard.workers most_workers (first_of (codes "workers") rows)
  shards ← number_given standard.shards most_shards (first_of (codes "shards") rows)
  partitions ←
      number_given standard.partitions most_partitions (first_of (codes "partitions") rows)
  tries ← number_given standard.tries most_tries (first_of (codes "tries") rows)
  Some (record {
    workers = workers;
    shards = shards;
    partitions = partitions;
    tries = tries;
    drill = drill;
  })

-- the settings that the options give, where each option is what it has to be
abbrev pub settings_given : List Row → Option RunSettings
settings_given rows = do
  drill ← drill_given (first_of (codes "fail") rows)
  settings_with drill rows
