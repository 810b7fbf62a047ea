-- Names of a let and of a repeat, as they are added one after another.
use Rattle.std.specs.Prelude.{◌≡◌, ℕ, List, [], ◌∷◌, false, is_some, ⊤}
use Rattle.operation_check.specs.of_written_types.Named.{find}
use Rattle.script_program.specs.declared.made.Standing.TheVariants.{Hidden}
use Rattle.script_program.specs.Script.{Making, State, with_standing, with_node}

-- each name is new behind the names before it
abbrev pub AreNew : List (List ℕ) → List Making → State → Type 0
AreNew [] makings s = ⊤
AreNew (name ∷ names) [] s = ⊤
AreNew (name ∷ names) (making ∷ makings) s =
    (is_some (find name s.names) ≡ false) × AreNew names makings (with_node name making s)

-- each name is taken by none of those before it
abbrev pub AreFree : List (List ℕ) → State → Type 0
AreFree [] s = ⊤
AreFree (name ∷ names) s =
    (is_some (find name s.names) ≡ false) × AreFree names (with_standing name Hidden s)
