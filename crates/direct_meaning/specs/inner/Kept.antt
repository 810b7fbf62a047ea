-- What is kept of collections: their members, and whether a trap is behind them.
use Rattle.std.specs.Prelude.{◌≡◌, ◌-◌, ◌^◌, ◌++◌, ℕ, Bool, true, false, List, [], ◌∷◌, Option, Some, None, ⊤, length, min, slice_get}
use Rattle.std.specs.Option.{option_flatten}
use Rattle.flume_value.specs.declared.value.Value.{Value}
use Rattle.flume_collection.specs.Collection.{Collection}
use Rattle.flume_collection.specs.declared.trap.Trap.{Trap}
use Rattle.script_laws.specs.of_written_types.Named.{Named}
use Rattle.script_program.specs.Script.{Node}
use Rattle.direct_meaning.specs.declared.kept.Kept.{Kept}

abbrev pub has_traps : List Trap → Bool
has_traps [] = false
has_traps (trap ∷ traps) = true

-- these, but none where a trap is behind them
abbrev pub unless_behind : {X : Type 0} → Bool → List X → List X
unless_behind true members = []
unless_behind false members = members

-- its members are kept of a collection, and whether it has a trap
pub record Keeps (kept : Kept) (c : Collection) : Type 0 where
  pub members : kept.members ≡ c.bag
  pub trapped : kept.trapped ≡ has_traps c.traps

abbrev pub KeepsAny : Option Kept → Option Collection → Type 0
KeepsAny None None = ⊤
KeepsAny None (Some c) = ⊥
KeepsAny (Some kept) None = ⊥
KeepsAny (Some kept) (Some c) = Keeps kept c

-- ---- what is kept at a place, or nothing

abbrev pub kept_in : List (Option Kept) → ℕ → Option Kept
kept_in table number = option_flatten (slice_get table number)

abbrev pub members_of : Option Kept → List Value
members_of None = []
members_of (Some kept) = kept.members

abbrev pub is_trapped : Option Kept → Bool
is_trapped None = false
is_trapped (Some kept) = kept.trapped

-- the members are kept, where there are any
abbrev pub bag_kept : Option Kept → Option (List Value)
bag_kept None = None
bag_kept (Some kept) = Some kept.members

-- how many members are kept, as far as 64 bits count
abbrev pub size_kept : Kept → ℕ
size_kept kept = min (length kept.members) (2 ^ 64 - 1)

-- the name and the size of a collection, where it is kept
abbrev pub size_line : List ℕ → Option Kept → List (List ℕ × ℕ)
size_line name None = []
size_line name (Some kept) = (name, size_kept kept) ∷ []

-- the name and the size of each collection that is kept, in order of these nodes
abbrev pub sizes_kept : Named Node → List (Option Kept) → List (List ℕ × ℕ)
sizes_kept [] table = []
sizes_kept (entry ∷ nodes) [] = []
sizes_kept (entry ∷ nodes) (kept ∷ table) = size_line entry.0 kept ++ sizes_kept nodes table
