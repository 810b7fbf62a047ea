-- Runs: members of one kind that stand ahead in a list; the keys that pairs begin with.
use Rattle.std.specs.Prelude.{◌≡◌, ◌≢◌, ◌≤◌, ℕ, All, List, [], ◌∷◌, Option, Some, None, if◌then◌else◌, length, slice_get, take}
use Rattle.std.specs.Ordering.{is_lt}
use Rattle.flume_value.specs.declared.value.Value.{Value}
use Rattle.flume_value.specs.Order.{value_cmp}
use Rattle.keyed_steps.specs.of_bag_groups.Pairs.{key_of}
pub use Rattle.keyed_steps.specs.of_bag_groups.Pairs.{held_by}

-- f makes k of the first n values, and not of the next, where there is one
pub record IsRun {A : Type 0} (f : Value → A) (k : A) (values : List Value) (n : ℕ) : Type 0 where
  pub within : n ≤ length values
  pub same : All (λ v. f v ≡ k) (take n values)
  pub ends : (v : Value) → slice_get values n ≡ Some v → f v ≢ k

-- the key of the first pair, where there is one
abbrev pub first_key : List Value → Option Value
first_key [] = None
first_key (pair ∷ pairs) = key_of pair

-- the lesser of two keys, where there are two
abbrev pub least_of : Option Value → Option Value → Option Value
least_of None k = k
least_of (Some j) None = Some j
least_of (Some j) (Some k) = if is_lt (value_cmp k j) then Some k else Some j
