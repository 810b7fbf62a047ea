-- What stands behind names that are taken, and whether a name is.
use Rattle.std.proofs.Common.{◌≡◌, ℕ, Bool, true, false, ◌||◌, cond, List, [], ◌∷◌}
use Rattle.std.proofs.Common.{Option, Some, is_some, refl}
use Rattle.std.specs.List.{list_any}
use Rattle.std.specs.Map.{keys_of}
use Rattle.std.specs.Str.{bytes_eq}
use Rattle.script_program.specs.of_written_types.Named.{Named, find}
use Rattle.script_program.specs.declared.made.Standing.TheVariants.{Hidden}
use Rattle.script_program.specs.Script.{State, with_hidden, with_standing}

pub nodes-hidden : (names : List (List ℕ)) (s : State) → (with_hidden names s).nodes ≡ s.nodes
nodes-hidden [] s = refl
nodes-hidden (name ∷ names) s = nodes-hidden names (with_standing name Hidden s)

at-key : {A : Type 0} (b : Bool) (x : A) (o : Option A) (r : Bool) → is_some o ≡ r
    → is_some (cond b (Some x) o) ≡ (b || r)
at-key true x o r e = refl
at-key false x o r e = e

-- a name stands for something where it is among the names
pub has-key : {A : Type 0} (name : List ℕ) (names : Named A)
    → is_some (find name names) ≡ list_any (bytes_eq name) (keys_of names)
has-key name [] = refl
has-key name (entry ∷ names) =
    at-key (bytes_eq name entry.0) entry.1 (find name names)
    (list_any (bytes_eq name) (keys_of names)) (has-key name names)
