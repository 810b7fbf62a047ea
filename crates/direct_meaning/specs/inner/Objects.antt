-- What is kept of objects, and of what is made of their values.
use Rattle.std.specs.Prelude.{◌≡◌, ◌||◌, ◌++◌, ℕ, Bool, List, [], ◌∷◌, Option, Some, None, option_map, option_and_then}
use Rattle.std.specs.List.{list_any}
use Rattle.flume_value.specs.Bag.{bag_of}
use Rattle.flume_value.specs.declared.value.Value.{Value}
use Rattle.combine_table.specs.Combinations.{combined}
use Rattle.combine_table.specs.declared.comb.Comb.{Comb}
use Rattle.flume_collection.specs.Calls.{Called}
use Rattle.flume_collection.specs.Collection.{Collection}
use Rattle.flume_collection.specs.declared.trap.Trap.{Trap}
use Rattle.direct_meaning.specs.Objects.{answer_beside, argument_of, called_once, object_as, only, whole_value}
use Rattle.direct_meaning.specs.declared.kept.Kept.{Kept}
use Rattle.direct_meaning.specs.inner.Kept.{Keeps, is_trapped, kept_in, unless_behind}
use Rattle.direct_meaning.specs.inner.Slots.{IsDoneBy}

-- ---- values of objects

-- the value of an object, where it has one
abbrev pub value_kept : Kept → Option Value
value_kept kept = only (unless_behind kept.trapped kept.members)

abbrev pub value_in : List (Option Kept) → ℕ → Option Value
value_in table number = option_and_then value_kept (kept_in table number)

-- the values of the objects of these numbers, where each has one
abbrev pub values_in : List (Option Kept) → List ℕ → Option (List Value)
values_in table [] = Some []
values_in table (number ∷ numbers) =
    option_and_then (λ v. option_map (λ vs. v ∷ vs) (values_in table numbers))
    (value_in table number)

-- ---- what is made of them

-- the object that members come to
abbrev pub whole_of : ℕ → Comb → List Value → Collection
whole_of origin by members = object_as (whole_value origin (combined by (bag_of members)))

-- a collection is kept whose traps are all new, and found
pub record IsKeptNew (c : Collection) (kept : Kept) (before after : List Trap) : Type 0 where
  pub keeps : Keeps kept c
  pub found : after ≡ before ++ c.traps

abbrev pub IsAnyNew : Option Collection → Kept → List Trap → List Trap → Type 0
IsAnyNew None kept before after = ⊥
IsAnyNew (Some c) kept before after = IsKeptNew c kept before after

-- nothing is kept, behind a trap or behind none, and no trap is found
pub record IsNothing (trapped : Bool) (kept : Kept) (before after : List Trap) : Type 0 where
  pub members : kept.members ≡ []
  pub behind : kept.trapped ≡ trapped
  pub found : after ≡ before

-- what is kept of the call on these values, where there are any
abbrev pub IsOperatedOn : ℕ → (Value → Option Called) → Bool → Option (List Value) → Kept
    → List Trap → List Trap → Type 0
IsOperatedOn origin answer trapped None kept before after = IsNothing trapped kept before after
IsOperatedOn origin answer trapped (Some vs) kept before after =
    IsAnyNew (called_once origin answer (argument_of vs)) kept before after

-- what is kept of the call on the values of the objects of these numbers
abbrev pub IsOperated : ℕ → (Value → Option Called) → List (Option Kept) → List ℕ → Kept
    → List Trap → List Trap → Type 0
IsOperated origin answer table objects kept before after =
    IsOperatedOn origin answer (list_any (λ object. is_trapped (kept_in table object)) objects)
    (values_in table objects) kept before after

-- what is kept of the calls on members beside this value, where there is one
abbrev pub IsDoneOn : ℕ → (Value → Option Called) → Bool → Option Value → Kept → Kept
    → List Trap → List Trap → Type 0
IsDoneOn origin answer trapped None source kept before after =
    IsNothing trapped kept before after
IsDoneOn origin answer trapped (Some v) source kept before after =
    IsDoneBy origin 0 (answer_beside answer v) source kept before after

-- what is kept of the calls on members beside the value of an object
abbrev pub IsDoneBeside : ℕ → (Value → Option Called) → Kept → Kept → Kept → List Trap
    → List Trap → Type 0
IsDoneBeside origin answer source object kept before after =
    IsDoneOn origin answer (source.trapped || object.trapped) (value_kept object) source kept
    before after
