-- A script in which some collections are those that an earlier run has kept, in place of how it
-- makes them.
use Rattle.std.specs.Prelude.{ℕ, suc, List, [], ◌∷◌, ⊤, if◌then◌else◌}
use Rattle.std.specs.List.{AllByRecursion}
use Rattle.body_check.specs.of_written_types.Named.{Named}
use Rattle.script_program.specs.declared.made.Made.{Made}
use Rattle.script_program.specs.declared.made.Made.TheVariants as made
use Rattle.script_program.specs.Kinds.{emitted_as, gives_object}
use Rattle.script_program.specs.Needed.{holds_number}
use Rattle.script_program.specs.Script.{Node, Script}

-- how a collection is made that is kept: it is an object, or an output of a call, where it was
abbrev pub saved_as : Made → Made
saved_as how = made.Saved (gives_object how) (emitted_as how)

abbrev pub saved_node : Node → Node
saved_node node = record node { made = saved_as node.made }

-- the collection of that number, which is a kept one where the number is among those found
abbrev pub kept_at : {N : Type 0} → (N → N) → List ℕ → ℕ → List ℕ × N → List ℕ × N
kept_at kept found number entry =
    if holds_number found number then (entry.0, kept entry.1) else entry

-- the collections from a number on
abbrev pub kept_from : {N : Type 0} → (N → N) → List ℕ → ℕ → Named N → Named N
kept_from kept found number [] = []
kept_from kept found number (entry ∷ nodes) =
    kept_at kept found number entry ∷ kept_from kept found (suc number) nodes

abbrev pub saved_among : List ℕ → ℕ → Named Node → Named Node
saved_among found number nodes = kept_from saved_node found number nodes

-- the script in which the collections of these numbers are kept ones; what alone they read is not
-- needed any more
abbrev pub with_saved : List ℕ → Script → Script
with_saved found script = record script { nodes = saved_among found 0 script.nodes }

-- ---- scripts as they are written

abbrev pub IsUnsaved : Made → Type 0
IsUnsaved (made.Saved is_object call) = ⊥
IsUnsaved _ = ⊤

-- no collection is a kept one
abbrev pub HasNoSaved : Script → Type 0
HasNoSaved script = AllByRecursion (λ entry. IsUnsaved entry.1.made) script.nodes
