-- The value that stands for a bag while it is combined in parts.
use Rattle.std.specs.Prelude.{◌≤◌, ℤ, pos, ◌+ℤ◌, ◌&&◌, ◌||◌, List, [], ◌∷◌, ◌++◌, length, Result, Ok}
use Rattle.std.specs.List.{list_all, list_any}
use Rattle.std.specs.List.Sorted.{IsSorted, IsStrictlySortedBy}
use Rattle.std.specs.Int.{w128}
use Rattle.std.specs.Int.RustNames.{FitsSigned}
use Rattle.flume_value.specs.declared.value.Value.{Value, Value-F, out-Value}
use Rattle.flume_value.specs.declared.value.Value.TheVariants as value
use Rattle.flume_value.specs.declared.fault.Kind.{Kind}
use Rattle.flume_value.specs.Order.{value_cmp}
use Rattle.flume_value.specs.Bag.{bag_of}
use Rattle.flume_value.specs.Parts.{members_or_none}
use Rattle.combine_table.specs.declared.comb.Comb.{Comb}
use Rattle.combine_table.specs.declared.comb.Comb.TheVariants as by
use Rattle.combine_table.specs.Contents.{truth_of, wide_or_zero, sum_in, count_in}
use Rattle.combine_table.specs.Combinations.{int_total, wrapped, least, greatest, int_or_overflow, first_or_bad_index, mean, distinct}

-- a sum beside a count
abbrev pub sum_and_count : ℤ → ℤ → Value
sum_and_count s c = value.Rec (value.Wide s ∷ value.Wide c ∷ [])

-- the accumulator that stands for a bag
abbrev pub accumulator : Comb → List Value → Value
accumulator by.Sum b = value.Wide (wrapped (int_total b))
accumulator by.Count b = value.Wide (wrapped (pos (length b)))
accumulator by.Min b = value.List (least 1 b)
accumulator by.Max b = value.List (greatest 1 b)
accumulator by.All b = value.Bool (list_all truth_of b)
accumulator by.Any b = value.Bool (list_any truth_of b)
accumulator (by.Top n) b = value.List (greatest n b)
accumulator by.Mean b = sum_and_count (wrapped (int_total b)) (wrapped (pos (length b)))
accumulator by.Distinct b = value.List (distinct b)

-- a number of 128 bits
abbrev pub IsWideAt : Value-F Value → Type 0
IsWideAt (Value-F.Wide n) = FitsSigned w128 n
IsWideAt _ = ⊥

-- two such numbers
abbrev pub AreTwoWide : List Value → Type 0
AreTwoWide (s ∷ c ∷ []) = IsWideAt (out-Value s) × IsWideAt (out-Value c)
AreTwoWide _ = ⊥

-- wide numbers, lists of at most one, bools, ascending lists of at most n, a sum beside a count, or
-- ascending lists without repeats
abbrev pub HasShapeAt : Comb → Value-F Value → Type 0
HasShapeAt by.Sum (Value-F.Wide n) = FitsSigned w128 n
HasShapeAt by.Count (Value-F.Wide n) = FitsSigned w128 n
HasShapeAt by.Min (Value-F.List vs) = length vs ≤ 1
HasShapeAt by.Max (Value-F.List vs) = length vs ≤ 1
HasShapeAt by.All (Value-F.Bool b) = Unit {0}
HasShapeAt by.Any (Value-F.Bool b) = Unit {0}
HasShapeAt (by.Top n) (Value-F.List vs) = IsSorted value_cmp vs × (length vs ≤ n)
HasShapeAt by.Mean (Value-F.Rec vs) = AreTwoWide vs
HasShapeAt by.Distinct (Value-F.List vs) = IsStrictlySortedBy value_cmp vs
HasShapeAt _ _ = ⊥

-- whether the value can stand for a bag
abbrev pub HasShape : Comb → Value → Type 0
HasShape c a = HasShapeAt c (out-Value a)

-- the accumulator for the sum of the two bags that a and b stand for
abbrev pub merged : Comb → Value → Value → Value
merged by.Sum a b = value.Wide (wrapped (wide_or_zero a +ℤ wide_or_zero b))
merged by.Count a b = value.Wide (wrapped (wide_or_zero a +ℤ wide_or_zero b))
merged by.Min a b = value.List (least 1 (bag_of (members_or_none a ++ members_or_none b)))
merged by.Max a b = value.List (greatest 1 (bag_of (members_or_none a ++ members_or_none b)))
merged by.All a b = value.Bool (truth_of a && truth_of b)
merged by.Any a b = value.Bool (truth_of a || truth_of b)
merged (by.Top n) a b = value.List (greatest n (bag_of (members_or_none a ++ members_or_none b)))
merged by.Mean a b =
    sum_and_count (wrapped (sum_in a +ℤ sum_in b)) (wrapped (count_in a +ℤ count_in b))
merged by.Distinct a b = value.List (distinct (bag_of (members_or_none a ++ members_or_none b)))

-- what the bag that a stands for combines to
abbrev pub finished : Comb → Value → Result Value Kind
finished by.Sum a = int_or_overflow (wide_or_zero a)
finished by.Count a = int_or_overflow (wide_or_zero a)
finished by.Min a = first_or_bad_index (members_or_none a)
finished by.Max a = first_or_bad_index (members_or_none a)
finished by.Mean a = mean (sum_in a) (count_in a)
finished _ a = Ok a
