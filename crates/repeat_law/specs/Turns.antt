-- What the turns of a repeat make of the collections that enter: no script, no number in one, and
-- no copy of a body is known here. What stands outside is a table of collections, and a trap of
-- its own of a let in a turn carries what `origin` says of that turn and of the let's place.
use Rattle.std.specs.Prelude.{◌≡◌, ℕ, zero, suc, ◌-◌, List, [], ◌∷◌, ◌++◌, map, Option, Some}
use Rattle.std.specs.Prelude.{IsTrue, slice_get, take}
use Rattle.flume_value.specs.declared.value.Value.{Value}
use Rattle.flume_collection.specs.Collection.{Collection}
use Rattle.written_types.specs.Named.{Named}
use Rattle.script_program.specs.declared.made.Made.{Made}
use Rattle.script_program.specs.Needed.{is_needed}
use Rattle.script_program.specs.Script.{Function, Script}
use Rattle.script_rules.specs.Repeats.{Repeat, last_gives}
use Rattle.script_laws.specs.Fitting.{lets_of}
use Rattle.direct_meaning.specs.Direct.{made_as, made_at, meaning}
use Rattle.repeat_law.specs.Reading.{let_number}

-- these functions, and nothing else
abbrev pub functions_alone : Named Function → Script
functions_alone functions = record { functions = functions; nodes = []; outputs = [] }

-- the collections of lets, the first of which has that place in the body, behind those in front
abbrev pub with_lets : Named Function → (ℕ → ℕ) → ℕ → List Made → List (Option Collection)
    → List (Option Collection)
with_lets functions origin place [] table = table
with_lets functions origin place (how ∷ lets) table =
    with_lets functions origin (suc place) lets
    (table ++ made_as (functions_alone functions) (origin place) how [] table ∷ [])

module _ (functions : Named Function) (origin : ℕ → ℕ → ℕ) (repeat : Repeat)
    (outside : List (Option Collection)) where
  -- what one turn gives: the direct meaning of the body's lets, over what enters the turn
  abbrev pub turn_over : ℕ → List (Option Collection) → List (Option Collection)
  turn_over turn entering =
      map
      (made_at (with_lets functions (origin turn) 0 (lets_of repeat) (outside ++ entering)))
      repeat.gives

  -- so many turns, the first of which has that number
  abbrev pub turns_left : ℕ → ℕ → List (Option Collection) → List (Option Collection)
  turns_left zero turn entering = entering
  turns_left (suc left) turn entering = turns_left left (suc turn) (turn_over turn entering)

  -- the turns of these numbers, from the first to the last
  abbrev pub turns : ℕ → ℕ → List (Option Collection) → List (Option Collection)
  turns turn last entering = turns_left (suc last - turn) turn entering

-- In the meaning of a script with that repeat each needed collection that the last turn gives is
-- what the turns make of the collections that enter the first one. Own traps of a let in a turn
-- carry the collection of that let in that turn.
abbrev pub MeansTurns : Script → Repeat → Type 0
MeansTurns script repeat =
    (inputs : List (List Value)) (made : List (Option Collection)) (place number : ℕ)
    → meaning script inputs ≡ Some made
    → slice_get (last_gives repeat) place ≡ Some number
    → IsTrue (is_needed script number)
    → made_at made number
    ≡ made_at
    (turns script.functions (let_number repeat) repeat (take repeat.outside made) 1 repeat.turns
    (map (made_at made) repeat.from))
    place
