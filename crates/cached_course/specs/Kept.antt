-- What a run keeps, and what a cache has behind it.
use Rattle.std.specs.Prelude.{◌≡◌, ℕ, List, Option, map}
use Rattle.cache_store.specs.Entries.{with_entries}
use Rattle.cache_store.specs.declared.entry.CacheEntry.{CacheEntry}
use Rattle.cache_store.specs.Seen.{SeenCache}
use Rattle.kept_results.specs.of_direct_meaning.Direct.{made_at}
use Rattle.flume_value.specs.Canonical.{canonical}
use Rattle.flume_value.specs.declared.value.Value.{Value}
use Rattle.kept_results.specs.Keeping.{KeptUnlessFailed}
use Rattle.kept_results.specs.Lists.{found_of}
use Rattle.kept_results.specs.Sizes.{rested_nodes, to_keep}
use Rattle.outside.specs.Cause.{Rose}
use Rattle.outside.specs.Told.{WhereTold}
use Rattle.run_course.specs.Written.{CollectionTable}
use Rattle.kept_results.specs.of_saved_meaning.Found.{bag_or_none}
use Rattle.saved_results.specs.Saved.{saved_value}
use Rattle.saved_results.specs.declared.saved.Saved.{Saved}
use Rattle.script_program.specs.Script.{Script}
use Rattle.cached_course.specs.Looked.{not_found}
use Rattle.cached_course.specs.Reused.{Found, known}

-- what is kept of the collection of a number: its members, and the sizes of what it rests on, as
-- they were found or as the run gave them; as a value, and as bytes
abbrev pub value_kept : Script → Found → CollectionTable → ℕ → Value
value_kept script found table number =
    saved_value
    (to_keep (known script found table) (rested_nodes script number)
    (bag_or_none (made_at table number)))

abbrev pub bytes_kept : Script → Found → CollectionTable → ℕ → List ℕ
bytes_kept script found table number = canonical (value_kept script found table number)

-- of each collection that is asked for and was not found, its key and these bytes
abbrev pub entries_kept : Script → List (ℕ × List ℕ) → List (Option Saved) → CollectionTable
    → List CacheEntry
entries_kept script asked looked table =
    map
    (λ it. record { key = it.1; value = bytes_kept script (found_of asked looked) table it.0 })
    (not_found asked looked)

-- The cache has its entries with these, one after the other; where it failed, without some, and not
-- more of them than it failed.
pub record HasKept (kept : List CacheEntry) (before after : SeenCache) : Type 0 where
  pub some : WhereTold before.entries after.entries
      (λ old new. KeptUnlessFailed before.faults after.faults old kept new)
  pub all : (Rose before.faults after.faults → ⊥) →
      WhereTold before.entries after.entries (λ old new. new ≡ with_entries old kept)
