-- The sources of a script: what is given to its run, as lists. They are the rows of the inputs that
-- it needs, in order, and behind them the members of the kept collections that it needs, in order.
use Rattle.std.specs.Prelude.{ℕ, suc, Bool, true, false, List, [], ◌∷◌, ◌++◌, drop, take}
use Rattle.std.specs.List.{flat_map}
use Rattle.script_program.specs.declared.made.Made.{Made}
use Rattle.script_program.specs.declared.made.Made.TheVariants as made
use Rattle.script_program.specs.Needed.{needed_nodes}
use Rattle.script_program.specs.Script.{Script}

-- of a source, whether it is a kept collection
abbrev pub source_kind : Made → List Bool
source_kind (made.Input file columns) = false ∷ []
source_kind (made.Saved is_object call) = true ∷ []
source_kind _ = []

-- the same of each source of a script, in order of the script
abbrev pub source_kinds : Script → List Bool
source_kinds script = flat_map (λ it. source_kind it.1.1.made) (needed_nodes script)

-- how many of them are inputs
abbrev pub input_count : List Bool → ℕ
input_count [] = 0
input_count (false ∷ kinds) = suc (input_count kinds)
input_count (true ∷ kinds) = input_count kinds

-- ---- the numbers of sources

-- by the order of the script, where the next input has one number and the next kept collection
-- another
abbrev pub numbers_by_kind : ℕ → ℕ → List Bool → List ℕ
numbers_by_kind input kept [] = []
numbers_by_kind input kept (false ∷ kinds) = input ∷ numbers_by_kind (suc input) kept kinds
numbers_by_kind input kept (true ∷ kinds) = kept ∷ numbers_by_kind input (suc kept) kinds

-- the numbers of the sources, in order of the script
abbrev pub source_numbers : Script → List ℕ
source_numbers script =
    numbers_by_kind 0 (input_count (source_kinds script)) (source_kinds script)

-- ---- their lists

-- two rows of lists as one, in the order of these kinds; what is too many stands behind
abbrev pub lists_in_turn : {X : Type 0} → List Bool → List X → List X → List X
lists_in_turn [] rows kept = rows ++ kept
lists_in_turn (false ∷ kinds) [] kept = kept
lists_in_turn (false ∷ kinds) (list ∷ rows) kept = list ∷ lists_in_turn kinds rows kept
lists_in_turn (true ∷ kinds) rows [] = rows
lists_in_turn (true ∷ kinds) rows (list ∷ kept) = list ∷ lists_in_turn kinds rows kept

abbrev pub by_kinds : {X : Type 0} → List Bool → List X → List X
by_kinds kinds lists =
    lists_in_turn kinds (take (input_count kinds) lists) (drop (input_count kinds) lists)

-- the lists of sources, in order of the script
abbrev pub in_order : {X : Type 0} → Script → List X → List X
in_order script lists = by_kinds (source_kinds script) lists
