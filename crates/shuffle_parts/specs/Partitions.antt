-- Pairs by the partition of their keys.
use Rattle.std.specs.Prelude.{ℕ, Bool, false, ◌==◌, List, map, filter}
use Rattle.std.specs.List.{range_with_len}
use Rattle.std.specs.Option.{option_map_or}
use Rattle.flume_value.specs.declared.value.Value.{Value}
use Rattle.flume_value.specs.Partitions.{partition_of}
use Rattle.bag_groups.specs.Pairs.{key_of}

-- whether the key is in partition p of n
abbrev pub is_in_part : ℕ → ℕ → Value → Bool
is_in_part n p k = partition_of k n == p

-- whether the key of the pair is; what is no pair is in no partition
abbrev pub falls_in : ℕ → ℕ → Value → Bool
falls_in n p pair = option_map_or (is_in_part n p) (key_of pair) false

-- the pairs of partition p of n, in order
abbrev pub pairs_in_part : ℕ → ℕ → List Value → List Value
pairs_in_part n p pairs = filter (falls_in n p) pairs

-- the pairs of each of n partitions
abbrev pub in_parts : ℕ → List Value → List (List Value)
in_parts n pairs = map (λ p. pairs_in_part n p pairs) (range_with_len 0 n)
