-- The least, the greatest and the distinct members of lists that stand in any order.
use Rattle.std.specs.Prelude.{◌≡◌, ◌↔◌, ℕ, ◌<◌, ◌≤◌, IsFalse, List, [], ◌++◌, length}
use Rattle.std.specs.List.{All, Contains}
use Rattle.std.specs.List.Sorted.{IsSorted, IsStrictlySortedBy}
use Rattle.std.specs.Ordering.{is_lt}
use Rattle.flume_value.specs.declared.value.Value.{Value}
use Rattle.flume_value.specs.Bag.{bag_of}
use Rattle.flume_value.specs.Order.{value_cmp}
use Rattle.combine_table.specs.declared.comb.Comb.{Comb}
use Rattle.combine_table.specs.declared.comb.Comb.TheVariants as by

-- ---- one

-- a member that none is before
abbrev pub IsLeastOf : List Value → Value → Type 0
IsLeastOf values v =
    Contains values v × All (λ w. IsFalse (is_lt (value_cmp w v))) values

-- a member that is before none
abbrev pub IsGreatestOf : List Value → Value → Type 0
IsGreatestOf values v =
    Contains values v × All (λ w. IsFalse (is_lt (value_cmp v w))) values

-- ---- several

-- none of the upper values is before one of the lower
abbrev pub AreBelow : List Value → List Value → Type 0
AreBelow lower upper = All (λ v. All (λ w. IsFalse (is_lt (value_cmp w v))) upper) lower

-- Some members, in ascending order, and the others are all of them. There are n at most, and fewer
-- only where no others are left.
pub record IsSelection (n : ℕ) (values kept others : List Value) : Type 0 where
  pub all : bag_of (kept ++ others) ≡ bag_of values
  pub ascending : IsSorted value_cmp kept
  pub most : length kept ≤ n
  pub none_left : length kept < n → others ≡ []

-- the n least members, all where there are fewer
pub record AreLeast (n : ℕ) (values kept : List Value) : Type 0 where
  pub others : List Value
  pub are : IsSelection n values kept others
  pub below : AreBelow kept others

-- the n greatest members, all where there are fewer
pub record AreGreatest (n : ℕ) (values kept : List Value) : Type 0 where
  pub others : List Value
  pub are : IsSelection n values kept others
  pub above : AreBelow others kept

-- the members, once each, ascending
pub record AreDistinct (values kept : List Value) : Type 0 where
  pub ascending : IsStrictlySortedBy value_cmp kept
  pub same : (v : Value) → Contains kept v ↔ Contains values v

-- ---- combiners that ask each member alone

abbrev pub AddsUp : Comb → Type 0
AddsUp by.Sum = Unit {0}
AddsUp by.Count = Unit {0}
AddsUp by.All = Unit {0}
AddsUp by.Any = Unit {0}
AddsUp by.Mean = Unit {0}
AddsUp _ = ⊥
