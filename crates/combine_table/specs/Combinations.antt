-- What a combiner makes of a whole bag: no order, no parts, no accumulator.
use Rattle.std.specs.Prelude.{◌≡◌, ℕ, ◌-◌, ℤ, pos, negsuc, ◌+ℤ◌, if◌then◌else◌, List, [], ◌∷◌, length, take, drop, ◌≤ℤ◌, ◌<ℤ◌, ◌*ℤ◌, zero, suc, Result, Ok, Err}
use Rattle.std.specs.List.{list_all, list_any, dedup}
use Rattle.std.specs.Int.{int_wrap, int_div_euclid, w128}
use Rattle.flume_value.specs.declared.value.Value.{Value}
use Rattle.flume_value.specs.declared.value.Value.TheVariants as value
use Rattle.flume_value.specs.declared.fault.Kind.{Kind}
use Rattle.flume_value.specs.declared.fault.Kind.TheVariants.{Overflow, BadIndex}
use Rattle.flume_value.specs.declared.fault.CallFault.{CallFault}
use Rattle.flume_value.specs.declared.fault.CallFault.TheVariants.{Trap, Memory}
use Rattle.flume_value.specs.Equality.{value_eq}
use Rattle.flume_value.specs.Ranges.{fits_int}
use Rattle.combine_table.specs.declared.comb.Comb.{Comb}
use Rattle.combine_table.specs.declared.comb.Comb.TheVariants as by
use Rattle.combine_table.specs.Contents.{IsInt, IsBool, int_or_zero, truth_of}

-- the values that the combiner takes
abbrev pub Suits : Comb → Value → Type 0
Suits by.Sum v = IsInt v
Suits by.All v = IsBool v
Suits by.Any v = IsBool v
Suits by.Mean v = IsInt v
Suits _ v = Unit {0}

-- the sum of a bag's ints
abbrev pub int_total : List Value → ℤ
int_total [] = pos 0
int_total (v ∷ vs) = int_or_zero v +ℤ int_total vs

-- a number as 128 bits with a sign hold it
abbrev pub wrapped : ℤ → ℤ
wrapped n = int_wrap w128 n

-- the number, or the trap where it is not an int
abbrev pub int_or_overflow : ℤ → Result Value Kind
int_or_overflow n = if fits_int n then Ok (value.Int n) else Err Overflow

-- q is the quotient of s by a positive c, rounded down
abbrev pub IsQuotient : ℤ → ℕ → ℤ → Type 0
IsQuotient s c q = ((q *ℤ pos c) ≤ℤ s) × (s <ℤ ((q *ℤ pos c) +ℤ pos c))

-- the one such quotient
abbrev pub mean_quotient : ℤ → ℕ → ℤ
mean_quotient s c = int_div_euclid s (pos c)

-- the mean of values with that sum and count
abbrev pub mean : ℤ → ℤ → Result Value Kind
mean s (pos zero) = Err BadIndex
mean s (pos (suc n)) = int_or_overflow (mean_quotient s (suc n))
mean s (negsuc n) = Err Overflow

-- the first n members of a bag, all where there are fewer
abbrev pub least : ℕ → List Value → List Value
least n b = take n b

-- the last n members of a bag, all where there are fewer
abbrev pub greatest : ℕ → List Value → List Value
greatest n b = drop (length b - n) b

-- the members of a bag, each once
abbrev pub distinct : List Value → List Value
distinct b = dedup value_eq b

-- the first of the list, or the trap where there is none
abbrev pub first_or_bad_index : List Value → Result Value Kind
first_or_bad_index [] = Err BadIndex
first_or_bad_index (v ∷ vs) = Ok v

-- what the values come to, or why they trap
abbrev pub combined : Comb → List Value → Result Value Kind
combined by.Sum b = int_or_overflow (wrapped (int_total b))
combined by.Count b = int_or_overflow (wrapped (pos (length b)))
combined by.Min b = first_or_bad_index (least 1 b)
combined by.Max b = first_or_bad_index (greatest 1 b)
combined by.All b = Ok (value.Bool (list_all truth_of b))
combined by.Any b = Ok (value.Bool (list_any truth_of b))
combined (by.Top n) b = Ok (value.List (greatest n b))
combined by.Mean b = mean (wrapped (int_total b)) (wrapped (pos (length b)))
combined by.Distinct b = Ok (value.List (distinct b))

-- the answer of a call that takes no memory
abbrev pub answer : Result Value Kind → Result Value CallFault
answer (Ok v) = Ok v
answer (Err kind) = Err (Trap kind)

-- a call's fault: the trap, where there is one; want of memory at any time
abbrev pub IsTrapFault : Result Value Kind → CallFault → Type 0
IsTrapFault (Err kind) (Trap given) = given ≡ kind
IsTrapFault (Ok v) (Trap given) = ⊥
IsTrapFault _ Memory = Unit {0}
