-- Objects: collections of one value, and what a function is called on that takes objects.
use Rattle.std.specs.Prelude.{List, [], ◌∷◌, Option, Some, None, Ok, Err}
use Rattle.flume_value.specs.declared.value.Value.{Value}
use Rattle.flume_value.specs.declared.value.Value.TheVariants as value
use Rattle.flume_collection.specs.Calls.{Called}
use Rattle.flume_collection.specs.Collection.{Collection, together, unless_trapped}

-- the member of a list that has just one
abbrev pub only : {X : Type 0} → List X → Option X
only [] = None
only (x ∷ []) = Some x
only (x ∷ (y ∷ ys)) = None

-- the value of an object; there is none where it has a trap
abbrev pub value_in : Collection → Option Value
value_in c = only (unless_trapped c.traps c.bag)

-- nothing, with the traps behind all of these collections
abbrev pub nothing_behind : List Collection → Collection
nothing_behind cs = record { bag = []; traps = (together cs).traps }

-- what a call is on: the value of the one object, or the record of the values of several
abbrev pub argument_of : List Value → Value
argument_of [] = value.Rec []
argument_of (v ∷ []) = v
argument_of (v ∷ (u ∷ vs)) = value.Rec (v ∷ (u ∷ vs))

-- what a call answers, whose trap, where it is one, names x
abbrev pub naming : Value → Called → Called
naming x (Ok outputs) = Ok outputs
naming x (Err trap) = Err (trap.0, x)
