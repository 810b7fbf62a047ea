-- What holds of a run over a sound cache.
use Rattle.std.specs.Prelude.{◌≡◌, ℕ, List, [], Option, IsSome}
use Rattle.std.specs.List.{AllByRecursion}
use Rattle.cache_store.specs.Seen.{SeenCache}
use Rattle.flume_value.specs.Ranges.{IsHeld}
use Rattle.flume_value.specs.declared.value.Value.{Value}
use Rattle.kept_results.specs.of_direct_meaning.Direct.{traps_of}
use Rattle.outside.specs.declared.file.File.{File}
use Rattle.run_course.specs.Written.{CollectionTable}
use Rattle.cached_course.specs.Answers.{HasLooked, found}
use Rattle.cached_course.specs.Kept.{HasKept, entries_kept, value_kept}
use Rattle.cached_course.specs.Looked.{not_found}
use Rattle.cached_course.specs.Promises.{IsAsMeant}
use Rattle.cached_course.specs.Reused.{IsReused}
use Rattle.cached_course.specs.Sound.{TellsSoundEntries}

-- whatever was found, what is run means what the script means
abbrev pub MeantLaw : Type 0
MeantLaw =
    (words : List (List ℕ)) (told : Option (List File)) (cache later : SeenCache)
    (it : HasLooked words told cache later) (rows : List (List Value)) (table : CollectionTable)
    → IsSome told → TellsSoundEntries cache → IsReused told it.script (found it) rows table
    → IsAsMeant told it.script (found it) rows table

-- and where that has no trap, the cache that has what is kept is sound
abbrev pub SoundLaw : Type 0
SoundLaw =
    (words : List (List ℕ)) (told : Option (List File)) (cache later : SeenCache)
    (it : HasLooked words told cache later) (rows : List (List Value)) (table : CollectionTable)
    → IsSome told → TellsSoundEntries cache → IsReused told it.script (found it) rows table
    → traps_of table ≡ []
    → AllByRecursion (λ (one : ℕ × List ℕ). IsHeld (value_kept it.script (found it) table one.0))
    (not_found it.asked it.looked)
    → HasKept (entries_kept it.script it.asked it.looked table) cache later
    → TellsSoundEntries later
