-- Files in slots, as the entries of a cache: a name is a key, and its bytes are the value.
use Rattle.std.specs.Prelude.{List, map}
use Rattle.memory_outside.specs.Slots.{slot_file}
use Rattle.outside.specs.declared.file.File.{File}
use Rattle.memory_outside.specs.declared.slots.Slot.{Slot}
use Rattle.cache_store.specs.declared.entry.CacheEntry.{CacheEntry}

-- a file as an entry
abbrev pub as_entry : File → CacheEntry
as_entry file = record { key = file.name; value = file.bytes }

-- the entries in slots
abbrev pub entries_of : List Slot → List CacheEntry
entries_of slots = map (λ slot. as_entry (slot_file slot)) slots
