-- Told entries: a list that is searched by key.
use Rattle.std.specs.Prelude.{ℕ, ◌+◌, List, [], ◌∷◌, Option, Some, None, if◌then◌else◌, length}
use Rattle.std.specs.Str.{bytes_eq}
use Rattle.cache_store.specs.declared.entry.CacheEntry.{CacheEntry}

-- the bytes of an entry, its key included
abbrev pub entry_size : CacheEntry → ℕ
entry_size entry = length entry.key + length entry.value

-- the value of the first entry of this key
abbrev pub found_in : List CacheEntry → List ℕ → Option (List ℕ)
found_in [] key = None
found_in (entry ∷ entries) key =
    if bytes_eq entry.key key then Some entry.value else found_in entries key

-- the entries with one of this key and this value, in place of the one of that key or behind the
-- others
abbrev pub with_cache_entry : List CacheEntry → List ℕ → List ℕ → List CacheEntry
with_cache_entry [] key value = record { key = key; value = value } ∷ []
with_cache_entry (entry ∷ entries) key value =
    if bytes_eq entry.key key then record { key = key; value = value } ∷ entries
    else entry ∷ with_cache_entry entries key value

-- the entries with these, one after the other: each in place of the one of its key or behind the
-- others
abbrev pub with_entries : List CacheEntry → List CacheEntry → List CacheEntry
with_entries entries [] = entries
with_entries entries (entry ∷ others) =
    with_entries (with_cache_entry entries entry.key entry.value) others
