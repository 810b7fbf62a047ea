-- The words behind `run`: parts that may come in any order.
use Rattle.std.specs.Prelude.{◌≡◌, ◌≢◌, List, [], ◌∷◌, Option, Some, codes, find, option_map}
use Rattle.std.specs.List.{AllPairs}
use Rattle.std.specs.Str.{bytes_eq}
use Rattle.clap.specs.Words.{Text}
use Rattle.run_settings.specs.Settings.{RunSettings, standard}
use Rattle.run_settings.specs.Limits.{most_partitions, most_shards, most_tries, most_workers}
use Rattle.command_words.specs.Options.{drill_given, number_given}
use Rattle.command_words.specs.Words.{dash, plan_given}

-- what stands behind `run`: the script, and options
pub data Name : Type 0 where
  Script : Name
  Workers : Name
  Shards : Name
  Partitions : Name
  Tries : Name
  Fail : Name
  PlanFile : Name

-- the name of its matches; an option's word has it behind two hyphens
abbrev pub id_of : Name → Text
id_of Script = codes "script"
id_of Workers = codes "workers"
id_of Shards = codes "shards"
id_of Partitions = codes "partitions"
id_of Tries = codes "tries"
id_of Fail = codes "fail"
id_of PlanFile = codes "plan"

-- a part of the words, with its value
pub record Part : Type 0 where
  pub name : Name
  pub value : Text

-- the words of a part: the script itself; or an option, and its value as the next word
abbrev pub words_for : Name → Text → List Text
words_for Script value = value ∷ []
words_for name value = (dash ∷ dash ∷ id_of name) ∷ value ∷ []

abbrev pub part_words : Part → List Text
part_words part = words_for part.name part.value

-- the value of the part of this name
abbrev pub part_value : Name → List Part → Option Text
part_value name parts =
    option_map (λ part. part.value) (find (λ part. bytes_eq (id_of part.name) (id_of name)) parts)

-- parts that ask for a run of the script with these settings, of the plan of a file where one is
-- named: none comes twice, the script is one of them, and what is not there is as usual
pub record AskForRun (parts : List Part) (script : Text) (settings : RunSettings)
    (from : Option Text) : Type 0 where
  pub apart : AllPairs (λ one other. one.name ≢ other.name) parts
  pub for_script : part_value Script parts ≡ Some script
  pub for_workers : number_given standard.workers most_workers (part_value Workers parts)
      ≡ Some settings.workers
  pub for_shards : number_given standard.shards most_shards (part_value Shards parts)
      ≡ Some settings.shards
  pub for_partitions : number_given standard.partitions most_partitions
      (part_value Partitions parts)
      ≡ Some settings.partitions
  pub for_tries : number_given standard.tries most_tries (part_value Tries parts)
      ≡ Some settings.tries
  pub for_drill : drill_given (part_value Fail parts) ≡ Some settings.drill
  pub for_plan : plan_given (part_value PlanFile parts) ≡ Some from
