-- When what a cache holds may be used in place of a run.
use Rattle.std.specs.Prelude.{◌≡◌, ℕ, List, [], IfSome, IsSomeAnd, Some, map}
use Rattle.cache_store.specs.Entries.{found_in}
use Rattle.cache_store.specs.declared.entry.CacheEntry.{CacheEntry}
use Rattle.cache_store.specs.Seen.{SeenCache}
use Rattle.kept_results.specs.of_direct_meaning.Direct.{made_at}
use Rattle.flume_collection.specs.Collection.{Collection}
use Rattle.flume_value.specs.Canonical.{canonical}
use Rattle.flume_value.specs.Ranges.{IsHeld}
use Rattle.flume_value.specs.declared.value.Value.{Value}
use Rattle.key_meaning.specs.Keyed.{Keyed, key}
use Rattle.key_meaning.specs.Rested.{rested_sizes}
use Rattle.saved_results.specs.Saved.{saved_value}
use Rattle.saved_results.specs.declared.saved.Saved.{Saved}
use Rattle.saved_results.specs.declared.saved.Size.{Size}

-- a size under its name
abbrev pub line_size : List ℕ × ℕ → Size
line_size line = record { name = line.0; members = line.1 }

-- what is kept of a collection without traps, whose members these are, and which rests on so much
abbrev pub what_is_saved : Collection → List (List ℕ × ℕ) → Saved
what_is_saved collection sizes =
    record { members = collection.bag; sizes = map line_size sizes }

-- the same, as a value, of the collection that an output reads
abbrev pub value_of_kept : Keyed → Collection → Value
value_of_kept it collection =
    saved_value (what_is_saved collection (rested_sizes it.work.script it.work.made
    it.output.reads))

-- The bytes are those of the collection that this output reads, as a program holds it, and it has
-- no trap.
pub record IsValueOf (it : Keyed) (value : List ℕ) : Type 0 where
  pub collection : Collection
  pub made : made_at it.work.made it.output.reads ≡ Some collection
  pub clean : collection.traps ≡ []
  pub held : IsHeld (value_of_kept it collection)
  pub bytes : value ≡ canonical (value_of_kept it collection)

-- under each key of an output of an accepted script, over files, stands that output's value, or
-- nothing
abbrev pub AreSound : List CacheEntry → Type 0
AreSound entries = (it : Keyed) → IfSome (found_in entries (key it)) (IsValueOf it)

-- the cache tells its entries, and they are sound
abbrev pub TellsSoundEntries : SeenCache → Type 0
TellsSoundEntries cache = IsSomeAnd cache.entries AreSound
