-- When the types of a repeat fit, each let's by the rules that hold of each collection of a script.
use Rattle.std.specs.Prelude.{◌≡◌, ℕ, suc, ◌≤◌, List, [], ◌∷◌, ◌++◌, Some, length, map, ⊤}
use Rattle.std.specs.List.{AllZip}
use Rattle.script_rules.specs.of_written_types.Named.{Named}
use Rattle.script_rules.specs.of_script_program.declared.made.Made.{Made}
use Rattle.script_rules.specs.of_script_program.declared.made.Made.TheVariants as made
use Rattle.script_rules.specs.of_script_program.Script.{Function, Node}
use Rattle.script_rules.specs.of_script_program.Kinds.{gives_object}
use Rattle.script_rules.specs.Repeats.{Repeat}
use Rattle.script_laws.specs.WellFormed.{AllFit, AllReadKinds, members_at, object_at}

-- how the lets of a body are made, in order
abbrev pub lets_of : Repeat → List Made
lets_of repeat = map (λ entry. entry.1.made) repeat.body

-- the collection of that number has members of the type of that entry, and is an object where that
-- is one
pub record IsOfType (nodes : Named Node) (number : ℕ) (entry : List ℕ × Node) : Type 0 where
  pub members : members_at nodes number ≡ Some entry.1.type
  pub kind : object_at nodes number ≡ Some (gives_object entry.1.made)

-- a let at that place of a body reads no file and nothing that is kept, and stands behind the
-- earlier outputs of its call
abbrev pub IsInPlace : ℕ → Made → Type 0
IsInPlace place (made.Input file columns) = ⊥
IsInPlace place (made.Do source called output) = output ≤ place
IsInPlace place (made.Saved is_object call) = ⊥
IsInPlace place _ = ⊤

-- the same of each let, where the first has that place
abbrev pub AreInPlace : ℕ → List Made → Type 0
AreInPlace place [] = ⊤
AreInPlace place (how ∷ lets) = IsInPlace place how × AreInPlace (suc place) lets

-- A repeat fits behind these collections: what enters it has the types and the kinds of some
-- entries, its body fits behind those, and what a turn gives has those of these entries again.
pub record RepeatFits (functions : Named Function) (before : Named Node) (repeat : Repeat)
    : Type 0 where
  -- what enters a turn, under the names that it has there
  pub entering : Named Node
  pub many : length before ≡ repeat.outside
  pub enter : AllZip (IsOfType before) repeat.from entering
  pub in_place : AreInPlace 0 (lets_of repeat)
  pub lets : AllFit functions (before ++ entering) repeat.body
  pub kinds : AllReadKinds (before ++ entering) repeat.body
  pub given : AllZip (IsOfType (before ++ entering ++ repeat.body)) repeat.gives entering
