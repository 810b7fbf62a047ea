-- What the evaluation of a program comes to, by the script that the program is.
use Rattle.std.specs.Prelude.{◌≡◌, ℕ, List, Option, Some, map, option_map, slice_get}
use Rattle.std.specs.List.{All}
use Rattle.std.specs.Option.{option_flatten}
use Rattle.flume_value.specs.declared.value.Value.{Value}
use Rattle.flume_types.specs.Typing.{AllHave}
use Rattle.flume_types.specs.declared.types.Ty.{Ty}
use Rattle.flume_collection.specs.Collection.{Collection}
use Rattle.script_program.specs.declared.made.Output.{Output}
use Rattle.script_program.specs.Script.{Script}
use Rattle.script_laws.specs.WellFormed.{members_at}
use Rattle.direct_meaning.specs.Direct.{made_at, meaning, sizes_of, traps_of}
use Rattle.direct_meaning.specs.declared.told.Direct.{Direct}

-- what is at a number's place, where there is something
abbrev pub bag_at : List (Option (List Value)) → ℕ → Option (List Value)
bag_at bags number = option_flatten (slice_get bags number)

-- the members of a collection, where it is made
abbrev pub bag_made : Option Collection → Option (List Value)
bag_made made = option_map (λ c. c.bag) made

-- The members that an output writes are those of the collection that it reads, of the node's type.
pub record AreWritten (script : Script) (made : List (Option Collection))
    (bags : List (Option (List Value))) (output : Output) : Type 0 where
  pub collection : Collection
  pub reads : made_at made output.reads ≡ Some collection
  pub bag : bag_at bags output.reads ≡ Some collection.bag
  pub type : Ty
  pub has : members_at script.nodes output.reads ≡ Some type
  pub typed : AllHave type collection.bag

-- The evaluation over these inputs is the meaning of the script: the members of each collection,
-- among them those that outputs write, the names and the sizes of all, and all traps.
pub record IsDirect (script : Script) (inputs : List (List Value)) (it : Direct) : Type 0 where
  pub made : List (Option Collection)
  pub means : meaning script inputs ≡ Some made
  pub bags : it.bags.items ≡ map bag_made made
  pub written : All (λ entry. AreWritten script made it.bags.items entry.1) script.outputs
  pub sizes : it.sizes.items ≡ sizes_of script made
  pub traps : it.traps.items ≡ traps_of made
