-- Pairs of one key that stand at the end of a list.
use Rattle.std.specs.Prelude.{◌≡◌, ◌≢◌, ◌≤◌, ◌-◌, ℕ, List, Option, Some, drop, length, slice_get, take}
use Rattle.std.specs.List.{AllByRecursion}
use Rattle.flume_value.specs.declared.value.Value.{Value}
use Rattle.bag_groups.specs.Pairs.{key_of}

-- the pairs from place n on have the key, and the one before, where there is one, has another
pub record IsLastRun (k : Option Value) (pairs : List Value) (n : ℕ) : Type 0 where
  pub within : n ≤ length pairs
  pub same : AllByRecursion (λ p. key_of p ≡ k) (drop n pairs)
  pub ends : (p : Value) → slice_get (take n pairs) (n - 1) ≡ Some p → key_of p ≢ k
