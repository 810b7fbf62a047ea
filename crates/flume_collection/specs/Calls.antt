-- A step's call on one element, and what the calls on all members of a collection give.
use Rattle.std.specs.Prelude.{ℕ, List, [], ◌∷◌, ◌++◌, Option, Some, None, Result, Ok, Err}
use Rattle.std.specs.List.{flat_map, slice_get}
use Rattle.flume_value.specs.declared.value.Value.{Value}
use Rattle.flume_value.specs.declared.fault.Kind.{Kind}
use Rattle.flume_value.specs.Bag.{bag_of}
use Rattle.flume_collection.specs.declared.trap.Trap.{Trap}
use Rattle.flume_collection.specs.Traps.{trap_set}
use Rattle.flume_collection.specs.Collection.{Collection}

-- one list of emissions for each output; or why it traps, and the element that the trap names
abbrev pub Called : Type 0
Called = Result (List (List Value)) (Kind × Value)

abbrev pub or_none : Option (List Value) → List Value
or_none None = []
or_none (Some values) = values

-- what is emitted to the output of that place: nothing where the call traps
abbrev pub emissions : ℕ → Called → List Value
emissions at (Ok outputs) = or_none (slice_get outputs at)
emissions at (Err trap) = []

-- a trap of a script node: why, and the element that it names
abbrev pub trap_named : ℕ → Kind × Value → Trap
trap_named origin trap = record { origin = origin; element = trap.1; kind = trap.0 }

-- the trap of a call of a script node, where it is one
abbrev pub trap_of : ℕ → Called → List Trap
trap_of origin (Ok outputs) = []
trap_of origin (Err trap) = trap_named origin trap ∷ []

-- what a function of a script node gives to its output of that place, called on each member: the
-- bag of its emissions, and its traps beside those behind the members
abbrev pub passed : ℕ → ℕ → (Value → Called) → Collection → Collection
passed origin at f c = record {
  bag = bag_of (flat_map (λ x. emissions at (f x)) c.bag);
  traps = trap_set (c.traps ++ flat_map (λ x. trap_of origin (f x)) c.bag);
}
