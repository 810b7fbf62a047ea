-- Calls that trap, and the order in which a set of them stands. A trap names the script node that
-- the call is of, the element, and why it trapped.
use Rattle.std.specs.Prelude.{ℕ, Bool, IsFalse, not, List}
use Rattle.std.specs.declared.cmp.Ordering.{Ordering}
use Rattle.std.specs.List.{All, Contains}
use Rattle.std.specs.Ordering.{is_lt, nat_cmp, ordering_then}
use Rattle.flume_value.specs.declared.fault.Kind.{Kind}
use Rattle.flume_value.specs.declared.fault.Kind.TheVariants as kind
use Rattle.flume_value.specs.Order.{value_cmp}
use Rattle.flume_collection.specs.declared.trap.Trap.{Trap}
use Rattle.flume_collection.specs.Sets.{set_of}

-- the place of a kind among the kinds
abbrev pub kind_place : Kind → ℕ
kind_place kind.Overflow = 0
kind_place kind.DivideByZero = 1
kind_place kind.BadIndex = 2
kind_place kind.BadNumber = 3
kind_place kind.NotOne = 4

-- traps are ordered by the script node, then by element, then by kind
abbrev pub trap_cmp : Trap → Trap → Ordering
trap_cmp a b =
    ordering_then (nat_cmp a.origin b.origin)
    (ordering_then (value_cmp a.element b.element)
    (nat_cmp (kind_place a.kind) (kind_place b.kind)))

-- whether the first trap is at most the second
abbrev pub trap_le : Trap → Trap → Bool
trap_le a b = not (is_lt (trap_cmp b a))

-- the set of some traps
abbrev pub trap_set : List Trap → List Trap
trap_set traps = set_of trap_le traps

-- the trap is one of these, and none of them stands before it
abbrev pub IsLeast : List Trap → Trap → Type 0
IsLeast traps trap =
    Contains traps trap × All (λ other. IsFalse (is_lt (trap_cmp other trap))) traps
