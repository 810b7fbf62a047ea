-- When collections of two scripts are the same: a trap names its collection by a number, which is
-- told by the name that this number has in the trap's script.
use Rattle.std.specs.Prelude.{◌≡◌, ℕ, List, Option}
use Rattle.std.specs.List.{Contains, slice_get}
use Rattle.std.specs.Option.{option_map}
use Rattle.flume_collection.specs.Collection.{Collection}
use Rattle.flume_collection.specs.declared.trap.Trap.{Trap}
use Rattle.written_types.specs.Named.{Named}
use Rattle.script_program.specs.Script.{Node}

-- the name of the collection of a number, where there is one
abbrev pub name_at : Named Node → ℕ → Option (List ℕ)
name_at nodes number = option_map (λ entry. entry.0) (slice_get nodes number)

-- traps of collections of one name, of one element and for one reason
pub record IsSameTrap (nodes others : Named Node) (trap other : Trap) : Type 0 where
  pub name : name_at nodes trap.origin ≡ name_at others other.origin
  pub element : trap.element ≡ other.element
  pub kind : trap.kind ≡ other.kind

-- for each of some traps there is such a one among others
abbrev pub AreAmong : (Trap → Trap → Type 0) → List Trap → List Trap → Type 0
AreAmong R traps others =
    (trap : Trap) → Contains traps trap → (other : Trap) × Contains others other × R trap other

-- the same members, and the same traps by name
pub record IsSameCollection (nodes others : Named Node) (c d : Collection) : Type 0 where
  pub bag : c.bag ≡ d.bag
  pub forth : AreAmong (IsSameTrap nodes others) c.traps d.traps
  pub back : AreAmong (λ trap other. IsSameTrap nodes others other trap) d.traps c.traps
