-- What is kept of the collections that nodes read.
use Rattle.std.proofs.Common.{◌≡◌, ℕ, ◌<◌, List, length, Option, Some, slice_get, sym, ◌∙◌, subst}
use Rattle.std.specs.Prelude.{All}
use Rattle.std.specs.List.Sorted.{IsSorted}
use Rattle.flume_value.specs.Order.{value_cmp}
use Rattle.flume_types.specs.Tables.{table_of}
use Rattle.flume_types.specs.Typing.{AllHave}
use Rattle.flume_types.specs.declared.types.Ty.{Ty}
use Rattle.flume_types.specs.declared.types.Ty.TheVariants as ty
use Rattle.bag_groups.specs.Pairs.{IsPair}
use Rattle.combine_table.specs.declared.comb.Comb.{Comb}
use Rattle.keyed_steps.proofs.TypedFacts.{all_pairs, all_suited}
use Rattle.keyed_steps.specs.Keyed.{IsGroup}
use Rattle.flume_collection.specs.Collection.{Collection}
use Rattle.script_laws.specs.of_written_types.Named.{Named}
use Rattle.script_laws.specs.of_script_rules.Operations.{combined_type}
use Rattle.script_program.specs.Script.{Function, Script}
use Rattle.script_laws.specs.WellFormed.{IsWellTyped, function_at}
use Rattle.direct_meaning.proofs.PlaceLemmas.{mapped, within}
use Rattle.direct_meaning.proofs.StandLemmas.{Source, held_ascending, held_typed}
use Rattle.direct_meaning.proofs.TypeLemmas.{taken}
use Rattle.direct_meaning.specs.declared.kept.Kept.{Kept}

-- a function of a script, by its number
pub record HasCallee (script : Script) (called : ℕ) : Type 0 where
  pub function : Function
  pub at : function_at script.functions called ≡ Some function
  pub typed : IsWellTyped function

module _ (kept : List (Option Kept)) (table : List (Option Collection)) (number : ℕ) where
  -- a collection of members of some type
  pub record AnyRead : Type 0 where
    pub type : Ty
    pub source : Source kept table number type

  -- a table
  pub record TableRead : Type 0 where
    pub key : Ty
    pub value : Ty
    pub source : Source kept table number (table_of key value)

  -- groups whose members suit a combiner
  pub record GroupsRead (by : Comb) : Type 0 where
    pub key : Ty
    pub member : Ty
    pub value : Ty
    pub suits : combined_type by member ≡ Some value
    pub source : Source kept table number (table_of key (ty.List member))

  -- members that a function of a script takes
  pub record CalledRead (script : Script) (called output : ℕ) : Type 0 where
    pub callee : HasCallee script called
    pub open callee use *
    pub source : Source kept table number function.signature.takes

  module _ (held : Kept) (at : slice_get kept number ≡ Some (Some held)) where
    pub called_read : (script : Script) (called output : ℕ) (it : CalledRead script called output)
        → (f : Function) → function_at script.functions called ≡ Some f
        → AllHave f.signature.takes held.members
    called_read script called output it f f_at =
        let both : Some it.function ≡ Some f = sym it.at ∙ f_at in
        let same : it.function ≡ f = cc in
        subst (λ (g : Function). AllHave g.signature.takes held.members) same
        (held_typed kept table number it.function.signature.takes it.source held at)

    pub pairs_read : TableRead → All IsPair held.members
    pairs_read it =
        all_pairs it.key it.value held.members
        (held_typed kept table number (table_of it.key it.value) it.source held at)

    pub table_ascending : TableRead → IsSorted value_cmp held.members
    table_ascending it =
        held_ascending kept table number (table_of it.key it.value) it.source held at

    pub any_ascending : AnyRead → IsSorted value_cmp held.members
    any_ascending it = held_ascending kept table number it.type it.source held at

    pub groups_read : (by : Comb) → GroupsRead by → All (IsGroup by) held.members
    groups_read by it =
        all_suited by it.key it.member held.members (taken by it.member it.value it.suits).0
        (held_typed kept table number (table_of it.key (ty.List it.member)) it.source held at)

pub function_within : (functions : Named Function) (number : ℕ) (function : Function)
    → function_at functions number ≡ Some function → number < length functions
function_within functions number function at =
    let entry = mapped (λ (e : List ℕ × Function). e.1) (slice_get functions number) function at in
    within functions number entry.0 entry.1
