-- The calls of a function with slots, and what is read off each.
use Rattle.std.specs.Prelude.{◌≡◌, ◌||◌, ◌++◌, ℕ, List, [], Option, Some, None, Result, IfOk}
use Rattle.std.specs.List.{flat_map}
use Rattle.flume_value.specs.Bag.{bag_of}
use Rattle.flume_value.specs.declared.value.Value.{Value}
use Rattle.dofn_eval.specs.Function.{SlotFunction as Fun}
use Rattle.dofn_eval.specs.Run.{slots_mean}
use Rattle.flume_collection.specs.Calls.{Called, emissions, trap_of}
use Rattle.flume_collection.specs.declared.trap.Trap.{Trap}
use Rattle.script_program.specs.Script.{Function}
use Rattle.direct_meaning.specs.Calls.{answer_of, call_answered}
use Rattle.direct_meaning.specs.declared.kept.Kept.{Kept}
use Rattle.direct_meaning.specs.inner.Kept.{has_traps}

-- what a call of a function with slots on an element answers
unfoldable pub slots_answer : Fun → Value → Option Called
slots_answer fun element = call_answered element (slots_mean fun.outputs fun.body element)

-- what is emitted to the output of that place, where there is an answer
abbrev pub emitted_by : ℕ → Option Called → List Value
emitted_by output None = []
emitted_by output (Some called) = emissions output called

-- the trap of a call, where there is one
abbrev pub trapped_by : ℕ → Option Called → List Trap
trapped_by origin None = []
trapped_by origin (Some called) = trap_of origin called

-- the traps of calls on elements that are answered so
abbrev pub traps_on : ℕ → (Value → Option Called) → List Value → List Trap
traps_on origin answer elements = flat_map (λ x. trapped_by origin (answer x)) elements

-- What is kept is what calls on what was kept before emit to an output, where they are answered so,
-- and the traps found are those before, and theirs.
pub record IsDoneBy (origin output : ℕ) (answer : Value → Option Called) (source result : Kept)
    (before after : List Trap) : Type 0 where
  pub members : result.members
      ≡ bag_of (flat_map (λ x. emitted_by output (answer x)) source.members)
  pub found : after ≡ before ++ traps_on origin answer source.members
  pub trapped : result.trapped
      ≡ (source.trapped || has_traps (traps_on origin answer source.members))

-- the same of a function, where there is memory
abbrev pub IsDone : {E : Type 0} → ℕ → ℕ → Function → Kept → List Trap → Result Kept E → List Trap
    → Type 0
IsDone origin output function source before result after =
    IfOk result (λ kept. IsDoneBy origin output (answer_of function) source kept before after)
