-- Flags that tell which collections are needed.
use Rattle.std.specs.Prelude.{◌≡◌, ℕ, ◌<◌, Bool, false, List, length, map, slice_index_or}
use Rattle.body_check.specs.of_written_types.Named.{Named}
use Rattle.script_program.specs.declared.made.Made.{Made}
use Rattle.script_program.specs.declared.made.Node.{Node as HeldNode}
use Rattle.script_program.specs.declared.made.Output.{Output}
use Rattle.script_program.specs.Needed.{holds_number, read_from}

-- each flag tells whether its number is among these
abbrev pub AreFlags : List ℕ → List Bool → Type 0
AreFlags numbers flags =
    (n : ℕ) → n < length flags → slice_index_or flags n false ≡ holds_number numbers n

-- how collections in memory are made, in order
abbrev pub held_made : Named HeldNode → List Made
held_made nodes = map (λ entry. entry.1.made) nodes

-- the numbers of the collections that outputs read
abbrev pub held_reads : Named Output → List ℕ
held_reads outputs = map (λ entry. entry.1.reads) outputs

-- there is a flag for each collection, which tells whether it is needed
pub record TellNeeded (nodes : Named HeldNode) (outputs : Named Output)
    (flags : List Bool) : Type 0 where
  pub many : length flags ≡ length nodes
  pub told : AreFlags (read_from (held_reads outputs) 0 (held_made nodes)) flags
