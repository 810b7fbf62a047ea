-- What is given to a run that reuses what earlier runs have kept.
use Rattle.std.specs.Prelude.{◌≡◌, ◌==◌, ℕ, List, [], ◌∷◌, ◌++◌, Option, Some, None, map, if◌then◌else◌}
use Rattle.std.specs.List.{flat_map}
use Rattle.flume_collection.specs.Collection.{Collection}
use Rattle.flume_value.specs.declared.value.Value.{Value}
use Rattle.saved_results.specs.declared.saved.Saved.{Saved}
use Rattle.script_program.specs.declared.made.Made.{Made}
use Rattle.script_program.specs.declared.made.Made.TheVariants as made
use Rattle.script_program.specs.Needed.{needed_nodes, collections_numbered}
use Rattle.script_program.specs.Saved.{with_saved}
use Rattle.script_program.specs.Script.{Script}
use Rattle.saved_meaning.specs.of_direct_meaning.Direct.{made_at}
use Rattle.saved_meaning.specs.Found.{marked_ones, bag_or_none, needs_input}

-- ---- what is found

-- of what is asked for, by number and key, and what was found of each: what is found, by numbers
abbrev pub found_of : List (ℕ × List ℕ) → List (Option Saved) → List (ℕ × Saved)
found_of [] looked = []
found_of (it ∷ asked) [] = []
found_of (it ∷ asked) (None ∷ looked) = found_of asked looked
found_of (it ∷ asked) (Some saved ∷ looked) = (it.0, saved) ∷ found_of asked looked

-- ---- as a table

-- what is found for a number, as a collection without a trap
abbrev pub found_at_number : List (ℕ × Saved) → ℕ → Option Collection
found_at_number [] number = None
found_at_number (it ∷ found) number =
    if it.0 == number then Some (record { bag = it.1.members; traps = [] })
    else found_at_number found number

-- by number, the collections that are found
abbrev pub kept_table : Script → List (ℕ × Saved) → List (Option Collection)
kept_table script found =
    map (λ it. found_at_number found it.0) (collections_numbered 0 script.nodes)

-- a table has these members under this number
abbrev pub HasMembers : List (Option Collection) → ℕ × Saved → Type 0
HasMembers table it = bag_or_none (made_at table it.0) ≡ it.1.members

-- ---- as lists

abbrev pub number_of_input : ℕ → Made → List ℕ
number_of_input number (made.Input file columns) = number ∷ []
number_of_input number _ = []

-- the numbers of the inputs that a script needs, in order
abbrev pub input_numbers : Script → List ℕ
input_numbers script = flat_map (λ it. number_of_input it.0 it.1.1.made) (needed_nodes script)

-- the rows of those of these inputs that the later script still needs, and behind them these lists
abbrev pub rows_given : Script → List ℕ → List (List Value) → List (List Value)
    → List (List Value)
rows_given later inputs rows kept = marked_ones (map (needs_input later) inputs) rows ++ kept

-- ---- of what is found

-- the script in which that is kept
abbrev pub later_of : Script → List (ℕ × Saved) → Script
later_of script found = with_saved (map (λ it. it.0) found) script

-- what is given to it
abbrev pub rows_for_script : Script → List (ℕ × Saved) → List (List Value) → List (List Value)
rows_for_script script found rows =
    rows_given (later_of script found) (input_numbers script) rows
    (map (λ it. it.1.members) found)
