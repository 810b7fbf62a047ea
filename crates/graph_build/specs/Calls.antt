-- The calls of a script's functions: which outputs of a call are needed, and the numbers of these.
--
-- The names of one statement stand one after another, one for each output of the function: where
-- the first name has the number `first`, the collection first + k is the output k of the call. Some
-- of them may be kept by an earlier run: those the call need not emit.
use Rattle.std.specs.Prelude.{ℕ, ◌+◌, ◌-◌, Bool, true, false, List, [], ◌∷◌, ◌++◌, Option, Some, None, length, slice_get}
use Rattle.std.specs.Prelude.{if◌then◌else◌}
use Rattle.std.proofs.Common.{zero, suc}
use Rattle.std.specs.Option.{option_map}
use Rattle.script_program.specs.declared.made.Emitted.{Emitted}
use Rattle.script_program.specs.declared.made.Made.{Made}
use Rattle.script_program.specs.declared.made.Made.TheVariants as made
use Rattle.script_program.specs.Script.{Function, Script}
pub use Rattle.script_program.specs.Kinds.{emitted_as}
use Rattle.graph_build.specs.Wanted.{wanted_at}

-- ---- which outputs

-- a call emits it, where it is needed; a kept one is not emitted
abbrev pub is_emitted : Option Made → Bool
is_emitted (Some (made.Do source function output)) = true
is_emitted _ = false

-- whether there is a collection of that number that is needed and that a call emits
abbrev pub emitted_at : Script → ℕ → Bool
emitted_at script number = is_emitted (wanted_at script number)

-- how many outputs a function has beside its first
abbrev pub beside_first : Option Function → ℕ
beside_first None = 0
beside_first (Some function) = length function.signature.gives - 1

-- how many names a call of the function of that number has beside its first
abbrev pub other_names : Script → ℕ → ℕ
other_names script function =
    beside_first (option_map (λ entry. entry.1) (slice_get script.functions function))

-- of so many collections, from that number on, whether each is needed of a call
abbrev pub needed_from : Script → ℕ → ℕ → List Bool
needed_from script number zero = []
needed_from script number (suc more) =
    emitted_at script number ∷ needed_from script (suc number) more

-- of the outputs of a call, whether each is needed of it
abbrev pub names_needed : Script → ℕ → ℕ → List Bool
names_needed script first function = needed_from script first (suc (other_names script function))

-- ---- their numbers

-- an output that is needed has the next number, another has none
abbrev pub number_if : Bool → ℕ → Option ℕ
number_if true next = Some next
number_if false next = None

abbrev pub next_if : Bool → ℕ → ℕ
next_if true next = next + 1
next_if false next = next

-- the numbers of outputs, of which the first that is needed has the number `next`
abbrev pub output_numbers : ℕ → List Bool → List (Option ℕ)
output_numbers next [] = []
output_numbers next (needed ∷ rest) =
    number_if needed next ∷ output_numbers (next_if needed next) rest

-- the next number behind these outputs
abbrev pub number_behind : ℕ → List Bool → ℕ
number_behind next [] = next
number_behind next (needed ∷ rest) = number_behind (next_if needed next) rest

-- ---- kept names

abbrev pub is_saved_made : Option Made → Bool
is_saved_made (Some (made.Saved is_object call)) = true
is_saved_made _ = false

-- whether there is a collection of that number that is needed and kept
abbrev pub is_kept_at : Script → ℕ → Bool
is_kept_at script number = is_saved_made (wanted_at script number)

-- the numbers of those among so many collections, from that number on
abbrev pub numbers_kept_from : Script → ℕ → ℕ → List ℕ
numbers_kept_from script number zero = []
numbers_kept_from script number (suc more) =
    (if is_kept_at script number then number ∷ [] else [])
    ++ numbers_kept_from script (suc number) more

-- the number of the first that a call emits among so many collections, if it emits one
abbrev pub first_emitted : Script → ℕ → ℕ → List ℕ
first_emitted script number zero = []
first_emitted script number (suc more) =
    if emitted_at script number then number ∷ [] else first_emitted script (suc number) more

-- what is built at the names of a call, one behind the other: its kept names, and then the call, by
-- the first name that it emits
abbrev pub call_built : Script → ℕ → ℕ → List ℕ
call_built script first function =
    numbers_kept_from script first (suc (other_names script function))
    ++ first_emitted script first (suc (other_names script function))
