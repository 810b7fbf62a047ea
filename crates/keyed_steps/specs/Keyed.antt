-- Pairs of a key and a list, and the faults where each list is combined.
use Rattle.std.specs.Prelude.{◌≡◌, All, List, Some, slice_get}
use Rattle.std.specs.Option.{IsSomeAnd}
use Rattle.flume_value.specs.declared.fault.Kind.{Kind}
use Rattle.flume_value.specs.declared.value.Value.{Value}
use Rattle.bag_groups.specs.Combining.{group_of}
use Rattle.combine_table.specs.declared.comb.Comb.{Comb}
use Rattle.combine_table.specs.Combinations.{Suits}
use Rattle.keyed_steps.specs.declared.fault.KeyFault.{KeyFault}
use Rattle.keyed_steps.specs.declared.fault.KeyFault.TheVariants.{Trap, Memory}

-- a pair of a key and a list whose members all suit the combiner
abbrev pub IsGroup : Comb → Value → Type 0
IsGroup comb group = IsSomeAnd (group_of group) (λ it. All (Suits comb) it.1)

-- a fault names the first of the traps; want of memory comes at any time
abbrev pub IsFirst : List (Kind × Value) → KeyFault → Type 0
IsFirst traps (Trap kind key) = slice_get traps 0 ≡ Some (kind, key)
IsFirst traps Memory = Unit {0}
