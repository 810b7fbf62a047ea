-- Objects, worked out: the sum of some numbers as one value, each number's share of it in percent,
-- and the sum again where it is above 3.
use Rattle.std.specs.Prelude.{ℕ, pos, List, [], ◌∷◌, map, Option, Some, Ok}
use Rattle.flume_value.specs.declared.fault.Kind.{Kind}
use Rattle.flume_value.specs.declared.value.Value.{Value}
use Rattle.flume_value.specs.declared.value.Value.TheVariants as value
use Rattle.flume_collection.specs.Calls.{Called, trap_named}
use Rattle.flume_collection.specs.Collection.{Collection}

abbrev pub int : ℕ → Value
int n = value.Int (pos n)

-- the collection of these numbers, behind no trap
abbrev pub ints : List ℕ → Collection
ints numbers = record { bag = map int numbers; traps = [] }

-- nothing, behind one trap of the collection of number 3
abbrev pub behind_one_trap : Kind → Value → Collection
behind_one_trap why element = record { bag = []; traps = trap_named 3 (why, element) ∷ [] }

-- the record of two numbers
abbrev pub two_ints : ℕ → ℕ → Value
two_ints x t = value.Rec (int x ∷ int t ∷ [])

-- the answer of a call that emits these numbers
abbrev pub emits : List ℕ → Option Called
emits numbers = Some (Ok (map int numbers ∷ []))
