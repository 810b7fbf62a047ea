-- Names with what they stand for.
use Rattle.std.specs.Prelude.{ℕ, not, is_some, List, Option}
use Rattle.std.specs.Str.{bytes_eq}
use Rattle.std.specs.Map.{lookup}
use Rattle.flume_grammar.specs.declared.fault.ScriptKind.TheVariants.{Twice}
use Rattle.written_types.specs.Answer.{Checked, unless}

-- names with what they stand for, in the order of their definitions
abbrev pub Named : Type 0 → Type 0
Named A = List (List ℕ × A)

-- what a name stands for
abbrev pub find : {A : Type 0} → List ℕ → Named A → Option A
find name names = lookup (bytes_eq name) names

-- a name that stands for nothing yet
abbrev pub fresh : {A : Type 0} → ℕ → List ℕ → Named A → Checked (Unit {0})
fresh line name names = unless line Twice (not (is_some (find name names)))
