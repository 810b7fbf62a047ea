-- What a cache has where values were to be kept.
use Rattle.std.specs.Prelude.{◌≡◌, ◌⊎◌, ℕ, suc, List, [], ◌∷◌}
use Rattle.cache_store.specs.Entries.{with_cache_entry}
use Rattle.cache_store.specs.declared.entry.CacheEntry.{CacheEntry}
use Rattle.outside.specs.Cause.{RoseBy}

-- these entries were put, one after the other, but for so many
abbrev pub WereKept : ℕ → List CacheEntry → List CacheEntry → List CacheEntry → Type 0
WereKept lost before [] after = after ≡ before
WereKept lost before (entry ∷ kept) after =
    WereKept lost (with_cache_entry before entry.key entry.value) kept after
    ⊎ ((others : ℕ) × (lost ≡ suc others) × WereKept others before kept after)

-- the same of a cache whose failures were so many before and after: it failed for each of those
-- that were not put
abbrev pub KeptUnlessFailed : ℕ → ℕ → List CacheEntry → List CacheEntry → List CacheEntry → Type 0
KeptUnlessFailed first last before kept after =
    (lost : ℕ) × RoseBy lost first last × WereKept lost before kept after
