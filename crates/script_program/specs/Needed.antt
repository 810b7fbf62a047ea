-- Which collections of a script are needed: those from which a path of reads leads to an output.
use Rattle.std.specs.Prelude.{◌==◌, ℕ, suc, Bool, List, [], ◌∷◌, ◌++◌, map, IsSomeAnd, slice_get}
use Rattle.std.specs.Prelude.{if◌then◌else◌}
use Rattle.std.specs.List.{Contains, filter, list_any}
use Rattle.body_check.specs.of_written_types.Named.{Named}
use Rattle.script_program.specs.declared.made.Made.{Made}
pub use Rattle.script_program.specs.Kinds.{operands}
use Rattle.script_program.specs.Script.{Node, Script}

-- how a script's collections are made, in order
abbrev pub made_of : Script → List Made
made_of script = map (λ entry. entry.1.made) script.nodes

-- the collection of the first number is made from the one of the other
abbrev pub Reads : Script → ℕ → ℕ → Type 0
Reads script reader number =
    IsSomeAnd (slice_get (made_of script) reader) (λ how. Contains (operands how) number)

-- the numbers of the collections that outputs read
abbrev pub outputs_read : Script → List ℕ
outputs_read script = map (λ entry. entry.1.reads) script.outputs

-- a path of reads leads from a collection to an output: each next one reads the one before, and an
-- output reads the last
abbrev pub LeadsToOutput : Script → ℕ → List ℕ → Type 0
LeadsToOutput script number [] = Contains (outputs_read script) number
LeadsToOutput script number (reader ∷ path) =
    Reads script reader number × LeadsToOutput script reader path

-- the collection of that number is needed: a path of reads leads from it to an output
abbrev pub IsNeeded : Script → ℕ → Type 0
IsNeeded script number = (path : List ℕ) × LeadsToOutput script number path

-- ---- the same, as it is computed from the last collection to the first

abbrev pub holds_number : List ℕ → ℕ → Bool
holds_number numbers number = list_any (λ it. it == number) numbers

-- what a collection is made from, where it is read itself, before what is read behind it
abbrev pub with_reads : List ℕ → ℕ → Made → List ℕ
with_reads later number how = if holds_number later number then operands how ++ later else later

-- the numbers that outputs read, and the needed ones of the collections from a number on
abbrev pub read_from : List ℕ → ℕ → List Made → List ℕ
read_from outputs number [] = outputs
read_from outputs number (how ∷ rest) = with_reads (read_from outputs (suc number) rest) number how

-- whether the collection of that number is needed; for well-formed scripts this is `IsNeeded`
abbrev pub is_needed : Script → ℕ → Bool
is_needed script number = holds_number (read_from (outputs_read script) 0 (made_of script)) number

-- collections with their numbers, from one on
abbrev pub collections_numbered : ℕ → Named Node → List (ℕ × (List ℕ × Node))
collections_numbered number [] = []
collections_numbered number (entry ∷ entries) =
    (number, entry) ∷ collections_numbered (suc number) entries

-- the needed collections of a script under their names, with their numbers, in order
abbrev pub needed_nodes : Script → List (ℕ × (List ℕ × Node))
needed_nodes script = filter (λ it. is_needed script it.0) (collections_numbered 0 script.nodes)
