-- The partition of a key: a hash of its canonical bytes, modulo the number of partitions.
use Rattle.std.specs.Prelude.{ℕ, ◌*◌, ◌%◌, ◌^◌, List, bit_xor}
use Rattle.std.specs.List.{fold}
use Rattle.flume_value.specs.declared.value.Value.{Value}
use Rattle.flume_value.specs.Canonical.{canonical}

-- one byte more: it is combined by exclusive or, then the hash is multiplied, modulo 2^64
unfoldable pub hash_step : ℕ → ℕ → ℕ
hash_step hash byte = bit_xor hash byte * 0x100000001b3 % 2 ^ 64

-- FNV-1a with 64 bits
abbrev pub fnv_1a : List ℕ → ℕ
fnv_1a bytes = fold hash_step 0xcbf29ce484222325 bytes

-- the partition of a key, of p
abbrev pub partition_of : Value → ℕ → ℕ
partition_of key p = fnv_1a (canonical key) % p
