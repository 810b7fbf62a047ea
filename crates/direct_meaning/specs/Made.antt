-- What a script's meaning is for each of its nodes: a collection of the node's type, where the node
-- is needed.
use Rattle.std.specs.Prelude.{◌≡◌, ℕ, ◌<◌, true, List, Option, IfSome, is_some, length}
use Rattle.std.specs.List.{AllZip}
use Rattle.std.specs.List.Sorted.{IsSorted}
use Rattle.flume_value.specs.Order.{value_cmp}
use Rattle.flume_types.specs.Typing.{AllHave}
use Rattle.flume_types.specs.declared.types.Ty.{Ty}
use Rattle.flume_collection.specs.Collection.{Collection}
use Rattle.flume_collection.specs.Traps.{trap_set}
use Rattle.script_laws.specs.of_written_types.Named.{Named}
use Rattle.script_program.specs.Script.{Node, Script}
use Rattle.script_program.specs.Kinds.{gives_object}
use Rattle.script_program.specs.Needed.{is_needed}
use Rattle.direct_meaning.specs.Direct.{made_at}
use Rattle.direct_meaning.specs.Objects.{IsObject}

-- The members have the type and stand in ascending order, and the traps are a set of traps.
pub record IsCollectionOf (type : Ty) (c : Collection) : Type 0 where
  pub typed : AllHave type c.bag
  pub ascending : IsSorted value_cmp c.bag
  pub set : trap_set c.traps ≡ c.traps

-- what is made for a node, if anything is, is a collection of its type
abbrev pub IsMadeFor : List ℕ × Node → Option Collection → Type 0
IsMadeFor entry made = IfSome made (IsCollectionOf entry.1.type)

-- what is made for a node that gives an object, if anything is, is one
abbrev pub IsObjectFor : List ℕ × Node → Option Collection → Type 0
IsObjectFor entry made = IfSome made (λ c. gives_object entry.1.made ≡ true → IsObject c)

-- For each of these first nodes of a script a collection of its type, where it is needed, and an
-- object where the node gives one.
pub record AreMade (script : Script) (nodes : Named Node)
    (made : List (Option Collection)) : Type 0 where
  pub each : AllZip IsMadeFor nodes made
  pub objects : AllZip IsObjectFor nodes made
  pub needed : (number : ℕ) → number < length nodes →
      is_some (made_at made number) ≡ is_needed script number
