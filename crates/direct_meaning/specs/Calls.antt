-- The calls of a function on values, by the meaning of its parsed body.
use Rattle.std.specs.Prelude.{ℕ, List, [], ◌∷◌, ◌++◌, Option, Some, None, Ok, Err, length, option_map, option_and_then}
use Rattle.std.specs.List.{flat_map}
use Rattle.flume_value.specs.Bag.{bag_of}
use Rattle.flume_value.specs.declared.value.Value.{Value}
use Rattle.dofn_eval.specs.Outcome.{Outcome, Gives, Traps, Stuck}
use Rattle.body_check.specs.Call.{means}
use Rattle.script_program.specs.Script.{Function}
use Rattle.flume_collection.specs.Calls.{Called, emissions, trap_of}
use Rattle.flume_collection.specs.Collection.{Collection}
use Rattle.flume_collection.specs.Traps.{trap_set}
use Rattle.flume_collection.specs.declared.trap.Trap.{Trap}

-- what a call that comes to this answers: a trap names the call's element; what is stuck answers
-- nothing
abbrev pub call_answered : Value → Outcome (List (List Value)) → Option Called
call_answered element (Gives outputs) = Some (Ok outputs)
call_answered element (Traps kind) = Some (Err (kind, element))
call_answered element Stuck = None

-- what a call of a function on an element answers, by the meaning of its body
unfoldable pub answer_of : Function → Value → Option Called
answer_of function element =
    call_answered element
    (means function.types (length function.signature.gives) function.argument
    function.signature.takes function.body element)

-- the answers of the calls on these elements, in order; none where one of them has no answer
abbrev pub answers_on : (Value → Option Called) → List Value → Option (List Called)
answers_on answer [] = Some []
answers_on answer (element ∷ elements) =
    option_and_then (λ called. option_map (λ calls. called ∷ calls) (answers_on answer elements))
    (answer element)

-- what calls give to the output of that place, behind these traps
abbrev pub called_by : ℕ → ℕ → List Trap → List Called → Collection
called_by origin output traps calls = record {
  bag = bag_of (flat_map (emissions output) calls);
  traps = trap_set (traps ++ flat_map (trap_of origin) calls);
}
