-- What a call promises over a cache.
use Rattle.std.specs.Prelude.{◌≡◌, ℕ, List, [], Some, None}
use Rattle.std.specs.Option.{option_map_or}
use Rattle.cache_store.specs.Seen.{SeenCache}
use Rattle.cached_course.specs.Promises.{ReusePromises}
use Rattle.command_words.specs.Cached.{CachedRun, cached_for}
use Rattle.command_words.specs.declared.words.Command.TheVariants.{Run}
use Rattle.made_course.specs.of_run_course.Asked.{AskFor}
use Rattle.made_course.specs.of_run_course.Outside.{Outside}
use Rattle.run_texts.specs.declared.status.Status.{Status}
use Rattle.flume_run.specs.Lent.{lends}
use Rattle.flume_run.specs.Promises.{Promises}

-- a cache that has nothing, and has failed so often
abbrev pub without_entries : ℕ → SeenCache
without_entries failures = record { entries = Some []; faults = failures }

-- how many hosts a call with these words lends
abbrev pub lends_to : List (List ℕ) → ℕ
lends_to words = option_map_or (λ run. run.settings.workers) (cached_for words) (lends words)

module _ (before after : Outside) (cache later : SeenCache) (status : Status) where
  -- a cached run promises what it does by all words that ask for the same run without a cache
  abbrev pub Reuses : CachedRun → Type 0
  Reuses run =
      (words : List (List ℕ)) → AskFor words (Run run.settings None) run.script
      → ReusePromises words before after cache later status

-- What is so after a call with these words, which found the one world and cache and left the other,
-- and answered so.
pub record CachedPromises (words : List (List ℕ)) (before after : Outside)
    (cache later : SeenCache) (status : Status) : Type 0 where
  -- words of a cached run
  pub cached : (run : CachedRun) → cached_for words ≡ Some run
      → Reuses before after cache later status run
  -- all other words: what a call without a cache promises, and the cache is untouched
  pub others : cached_for words ≡ None → Promises words before after status
  pub untouched : cached_for words ≡ None → later ≡ cache
