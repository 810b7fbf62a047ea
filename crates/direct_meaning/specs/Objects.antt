-- Objects: what `combineall`, `operate` and `do .. with` make of collections.
--
-- An object is a collection that is one value: its bag has one member, or none exactly where it has
-- a trap.
use Rattle.std.specs.Prelude.{◌≡◌, ℕ, pos, List, [], ◌∷◌, length, Option, Some, None, Result, Ok, Err, option_map, option_and_then}
use Rattle.flume_value.specs.declared.fault.Kind.{Kind}
use Rattle.flume_value.specs.declared.fault.Kind.TheVariants as kind
use Rattle.flume_value.specs.declared.value.Value.{Value}
use Rattle.flume_value.specs.declared.value.Value.TheVariants as value
use Rattle.combine_table.specs.Combinations.{combined}
use Rattle.combine_table.specs.declared.comb.Comb.{Comb}
use Rattle.flume_collection.specs.Calls.{Called, emissions, trap_named}
use Rattle.flume_collection.specs.Collection.{Collection}
pub use Rattle.flume_collection.specs.Objects.{argument_of, naming, nothing_behind, only, value_in as value_of}
use Rattle.flume_collection.specs.declared.trap.Trap.{Trap}
use Rattle.direct_meaning.specs.Calls.{called_by, answers_on}

-- ---- objects

-- how many members an object has behind these traps: one, and none where there is a trap
abbrev pub members_behind : List Trap → ℕ
members_behind [] = 1
members_behind (trap ∷ traps) = 0

-- the collection is an object: it has one member, or none exactly where it has a trap
abbrev pub IsObject : Collection → Type 0
IsObject c = length c.bag ≡ members_behind c.traps

-- the object that comes to that: a value, or a trap of its own in place of one
abbrev pub object_as : Result Value Trap → Collection
object_as (Ok v) = record { bag = v ∷ []; traps = [] }
object_as (Err trap) = record { bag = []; traps = trap ∷ [] }

-- the values of several objects, where each has one
abbrev pub object_values : List Collection → Option (List Value)
object_values [] = Some []
object_values (c ∷ cs) =
    option_and_then (λ v. option_map (λ vs. v ∷ vs) (object_values cs)) (value_of c)

-- ---- combineall: all members as one value

-- what they come to; the trap, where it is one, has the element Int 0
abbrev pub whole_value : ℕ → Result Value Kind → Result Value Trap
whole_value origin (Ok v) = Ok v
whole_value origin (Err why) = Err (trap_named origin (why, value.Int (pos 0)))

-- the same, but nothing where a trap is behind them
abbrev pub whole_behind : ℕ → List Trap → Result Value Kind → Collection
whole_behind origin [] whole = object_as (whole_value origin whole)
whole_behind origin (trap ∷ traps) whole = record { bag = []; traps = trap ∷ traps }

abbrev pub combined_whole : ℕ → Comb → Collection → Collection
combined_whole origin comb c = whole_behind origin c.traps (combined comb c.bag)

-- ---- operate: one call on the values of objects

-- the one emission of a call on x; where there is not just one, a trap that has x
abbrev pub emission_on : ℕ → Value → Option Value → Result Value Trap
emission_on origin x (Some v) = Ok v
emission_on origin x None = Err (trap_named origin (kind.NotOne, x))

-- what a call on x that answers so comes to: its one emission, or its trap
abbrev pub answered_once : ℕ → Value → Called → Result Value Trap
answered_once origin x (Ok outputs) = emission_on origin x (only (emissions 0 (Ok outputs)))
answered_once origin x (Err trap) = Err (trap_named origin trap)

module _ (origin : ℕ) (answer : Value → Option Called) where
  -- the object of the call on that value
  abbrev pub called_once : Value → Option Collection
  called_once x = option_map (λ called. object_as (answered_once origin x called)) (answer x)

  -- the same of the values of these objects; nothing where one has none
  abbrev pub operated_on : Option (List Value) → List Collection → Option Collection
  operated_on (Some vs) objects = called_once (argument_of vs)
  operated_on None objects = Some (nothing_behind objects)

  abbrev pub operated_by : List Collection → Option Collection
  operated_by objects = operated_on (object_values objects) objects

-- ---- do .. with: a call on each member beside the value of an object

-- what is answered of a member beside a value: the call is on the record of both, and its trap
-- names the member
abbrev pub answer_beside : (Value → Option Called) → Value → Value → Option Called
answer_beside answer v x = option_map (naming x) (answer (value.Rec (x ∷ v ∷ [])))

module _ (origin : ℕ) (answer : Value → Option Called) where
  -- what the calls on the members of a collection emit, beside the value of an object; nothing
  -- where it has none
  abbrev pub done_on : Option Value → Collection → Collection → Option Collection
  done_on (Some v) c object =
      option_map (called_by origin 0 c.traps) (answers_on (answer_beside answer v) c.bag)
  done_on None c object = Some (nothing_behind (c ∷ object ∷ []))

  abbrev pub done_beside : Collection → Collection → Option Collection
  done_beside c object = done_on (value_of object) c object
