-- What a value writes to a hasher: a number or a text at once, and of all others one number.
use Rattle.std.specs.Prelude.{ℕ, List, [], ◌∷◌}
use Rattle.std.specs.Hash as fed
use Rattle.std.specs.Hash.{HashWrites}
use Rattle.flume_value.specs.declared.value.Value.{Value, Value-F, out-Value}
use Rattle.flume_value.specs.Canonical.{canonical}
use Rattle.flume_value.specs.Partitions.{fnv_1a}

-- one level, where the value hashes to that number
abbrev pub layer_writes : {X : Type 0} → ℕ → Value-F X → HashWrites
layer_writes hash (Value-F.Int n) = fed.i64 n
layer_writes hash (Value-F.Text s) = s ∷ []
layer_writes hash _ = fed.u64 hash

abbrev pub writes : Value → HashWrites
writes v = layer_writes (fnv_1a (canonical v)) (out-Value v)
