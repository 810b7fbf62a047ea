-- The world of a script is typed by the script's signatures.
use Rattle.std.proofs.Common.{◌≡◌, ℕ, zero, suc, List, [], ◌∷◌, Option, Some, None, slice_get, refl, sym, subst}
use Rattle.std.specs.Prelude.{Ok, Err, slice_index_or}
use Rattle.std.proofs.lemmas.List.Elements.{All-from_recursion}
use Rattle.flume_value.specs.declared.value.Value.{Value}
use Rattle.flume_types.specs.declared.types.Ty.{Ty}
use Rattle.flume_types.specs.Typing.{AllHave, Has}
use Rattle.flume_collection.specs.Calls.{Called}
use Rattle.exec_graph.specs.Typing.{IsWorldTyped, EmitsTyped}
use Rattle.build_law.specs.of_script_program.Script.{Function, Script}
use Rattle.build_law.specs.of_script_laws.WellFormed.{IsWellFormed, IsWellTyped, function_at}
use Rattle.build_law.specs.of_direct_meaning.Calls.{answer_of}
use Rattle.build_law.specs.of_direct_meaning.Inputs.{AreInputs, AreLists, Sourced}
use Rattle.build_law.proofs.of_direct_meaning.CallLemmas.{CalledOf, answers}
use Rattle.build_law.proofs.of_direct_meaning.MakeLemmas.{well_typed}
use Rattle.build_law.specs.Signatures.{given_by, signatures_of, source_type, sources_of, taken_by}
use Rattle.build_law.specs.Worlds.{answered_by, or_silent, script_world}
use Rattle.build_law.proofs.SourceLists.{lists_by_number}

-- ---- lists of sources

lists_typed : (sources : List Sourced) (lists : List (List Value)) → AreLists sources lists
    → (r : ℕ) → AllHave (source_type (slice_get sources r)) (slice_index_or lists r [])
lists_typed [] [] have r =
    All-from_recursion (Has (source_type None)) [] tt
lists_typed [] (list ∷ lists) have r = absurd have
lists_typed (one ∷ sources) [] have r = absurd have
lists_typed (one ∷ sources) (list ∷ lists) have zero = have.0.typed
lists_typed (one ∷ sources) (list ∷ lists) have (suc r) = lists_typed sources lists have.1 r

-- ---- calls

answer_typed : (gives : List Ty) (called : Called) → CalledOf gives called → EmitsTyped gives called
answer_typed gives (Ok lists) has = has
answer_typed gives (Err trap) has = tt

call_typed : (function : Function) → IsWellTyped function → (x : Value)
    → Has function.signature.takes x
    → EmitsTyped function.signature.gives (or_silent (answer_of function x))
call_typed function typed x has =
    let it = answers function typed x has in
    subst (λ o. EmitsTyped function.signature.gives (or_silent o)) (sym it.is)
    (answer_typed function.signature.gives it.called it.has)

function_typed : (found : Option Function)
    → ((function : Function) → found ≡ Some function → IsWellTyped function)
    → (x : Value) → Has (taken_by found) x → EmitsTyped (given_by found) (answered_by found x)
function_typed None typed x has = tt
function_typed (Some function) typed x has = call_typed function (typed function refl) x has

pub world_typed : (script : Script) (inputs : List (List Value)) → IsWellFormed script
    → AreInputs script inputs → IsWorldTyped (signatures_of script) (script_world script inputs)
world_typed script inputs well have = record {
  rows = lists_typed (sources_of script) inputs (lists_by_number script inputs have);
  called = λ f x has. function_typed (function_at script.functions f)
      (well_typed script well.functions f) x has;
}
