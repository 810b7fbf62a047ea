-- What is seen of a cache at a moment.
use Rattle.std.specs.Prelude.{ℕ, List, Option}
use Rattle.cache_store.specs.declared.entry.CacheEntry.{CacheEntry}

-- its entries, where it tells them, and how often it has failed. The count never falls.
pub record SeenCache : Type 0 where
  pub entries : Option (List CacheEntry)
  pub faults : ℕ
