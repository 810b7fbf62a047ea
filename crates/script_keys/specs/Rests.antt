-- Which statements of a script belong to the key of a collection: those that it rests on, and the
-- types before it.
use Rattle.std.specs.Prelude.{ℕ, Bool, false, List, [], ◌∷◌, ◌++◌, if◌then◌else◌}
use Rattle.std.specs.List.{list_any}
use Rattle.std.specs.Str.{bytes_eq}
use Rattle.script_keys.specs.declared.outline.Outline.{Outline}
use Rattle.script_keys.specs.declared.outline.Outline.TheVariants as outline
use Rattle.script_keys.specs.declared.rests.Names.{Names}

-- the name is among these
abbrev pub holds_name : List (List ℕ) → List ℕ → Bool
holds_name names name = list_any (λ own. bytes_eq own name) names

-- the name of a collection alone
abbrev pub name_alone : List ℕ → Names
name_alone name = record { collections = name ∷ []; functions = [] }

-- a statement defines one of these names
abbrev pub is_named : Names → Outline → Bool
is_named names (outline.Input name file) = holds_name names.collections name
is_named names (outline.Function name) = holds_name names.functions name
is_named names (outline.Let own reads calls) = list_any (holds_name names.collections) own
is_named names _ = false

-- these names, and those of what a statement reads and calls
abbrev pub with_named : Names → Outline → Names
with_named names (outline.Let own reads calls) = record {
  collections = names.collections ++ reads;
  functions = names.functions ++ calls;
}
with_named names _ = names

-- what is rested on before a statement, by what is rested on behind it: where the statement defines
-- some of that, also what it reads and calls
abbrev pub names_before : Names → Outline → Names
names_before names it = if is_named names it then with_named names it else names

-- what a collection rests on, by names, before these statements, which are all behind them
abbrev pub rested_on : List ℕ → List Outline → Names
rested_on name [] = name_alone name
rested_on name (it ∷ others) = names_before (rested_on name others) it

-- a statement defines the collection of that name
abbrev pub defines : Outline → List ℕ → Bool
defines (outline.Input own file) name = bytes_eq own name
defines (outline.Let names reads calls) name = holds_name names name
defines _ name = false

-- one of these does
abbrev pub is_defined : List ℕ → List Outline → Bool
is_defined name others = list_any (λ it. defines it name) others

-- A statement belongs to a key, where these names are rested on behind it, and the collection is
-- defined behind it or not: a type before the collection, or what defines one of the names.
abbrev pub belongs_by : Names → Bool → Outline → Bool
belongs_by names found outline.Type = found
belongs_by names found it = is_named names it

-- a statement belongs to the key of the collection of that name, where these are behind it
abbrev pub belongs : List ℕ → List Outline → Outline → Bool
belongs name others it = belongs_by (rested_on name others) (is_defined name others) it

-- the same of each statement
abbrev pub flags_from : List ℕ → List Outline → List Bool
flags_from name [] = []
flags_from name (it ∷ others) = belongs name others it ∷ flags_from name others
