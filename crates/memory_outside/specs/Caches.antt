-- What is seen of the cache in memory.
use Rattle.std.specs.Prelude.{ℕ, ◌≤◌, List, Result, Ok, Err, Option, length, sum_by}
use Rattle.outside.specs.Cause.{raised}
use Rattle.cache_store.specs.Entries.{entry_size}
use Rattle.cache_store.specs.declared.cache.FindFault.{FindFault}
use Rattle.cache_store.specs.declared.cache.FindFault.TheVariants.{Failed, Memory}
use Rattle.cache_store.specs.declared.entry.CacheEntry.{CacheEntry}

-- its entries, its room for entries and for bytes, the numbers of the calls that are to fail, how
-- many calls there were, and how many failed
pub record CacheInMemory : Type 0 where
  pub entries : List CacheEntry
  pub max_entries : ℕ
  pub max_bytes : ℕ
  pub fails : List ℕ
  pub calls : ℕ
  pub faults : ℕ

-- the entries are no more than that, and their bytes, keys included
abbrev pub FitsIn : ℕ → ℕ → List CacheEntry → Type 0
FitsIn max_entries max_bytes entries =
    (length entries ≤ max_entries) × (sum_by entry_size entries ≤ max_bytes)

-- the count after a look for an entry: one more where it failed, and no more where memory ran out
abbrev pub counted_find : {T : Type 0} → Result T FindFault → ℕ → ℕ
counted_find (Ok x) count = count
counted_find (Err Memory) count = count
counted_find (Err Failed) count = raised count
