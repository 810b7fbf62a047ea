-- The collections that are asked for and were not found, as a run goes on with them.
use Rattle.std.specs.Prelude.{◌≡◌, ◌==◌, ℕ, List, [], ◌∷◌, Option, Some, None, if◌then◌else◌}
use Rattle.std.specs.List.{AllZip}
use Rattle.cache_store.specs.declared.entry.CacheEntry.{CacheEntry}
use Rattle.flume_value.specs.Canonical.{canonical}
use Rattle.flume_value.specs.declared.value.Value.{Value}
use Rattle.kept_results.specs.Sizes.{rested_nodes, to_keep}
use Rattle.saved_results.specs.Saved.{saved_value}
use Rattle.script_program.specs.Script.{Script}
use Rattle.script_program.specs.declared.made.Output.{Output}
use Rattle.written_types.specs.Named.{Named}
use Rattle.cached_course.specs.declared.missing.Missing.{Missing}

-- one goes on with its number and key, and with what it rests on
pub record IsMissing (script : Script) (it : ℕ × List ℕ) (missing : Missing) : Type 0 where
  pub number : missing.number ≡ it.0
  pub key : missing.key ≡ it.1
  pub nodes : missing.nodes.items ≡ rested_nodes script it.0

-- so do all, in order
abbrev pub AreMissing : Script → List (ℕ × List ℕ) → List Missing → Type 0
AreMissing script asked missing = AllZip (IsMissing script) asked missing

-- what the first output that reads that collection writes, where outputs write these members
abbrev pub members_for : Named Output → List (List Value) → ℕ → List Value
members_for [] written number = []
members_for (entry ∷ outputs) [] number = []
members_for (entry ∷ outputs) (members ∷ written) number =
    if entry.1.reads == number then members else members_for outputs written number

-- one, where there is one
abbrev pub one_of : Option Missing → List Missing
one_of None = []
one_of (Some missing) = missing ∷ []

-- what is kept of one, as a value, and its entry
abbrev pub kept_value : Script → List (ℕ × ℕ) → List (List Value) → Missing → Value
kept_value script known written it =
    saved_value (to_keep known it.nodes.items (members_for script.outputs written it.number))

abbrev pub entry_of : Script → List (ℕ × ℕ) → List (List Value) → Missing → CacheEntry
entry_of script known written it =
    record { key = it.key; value = canonical (kept_value script known written it) }
