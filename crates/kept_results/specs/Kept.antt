-- What may be kept of a collection, and when it is found.
use Rattle.std.specs.Prelude.{◌≡◌, ◌⊎◌, ℕ, suc, true, List, [], ◌∷◌, Option, Some, None, IfNone, IfSome, ⊤, length, map, slice_get}
use Rattle.std.specs.List.{AllZip}
use Rattle.std.specs.List.Sorted.{IsSorted}
use Rattle.flume_types.specs.Typing.{AllHave}
use Rattle.flume_value.specs.Order.{value_cmp}
use Rattle.flume_value.specs.declared.value.Value.{Value}
use Rattle.cache_store.specs.Entries.{found_in}
use Rattle.cache_store.specs.declared.entry.CacheEntry.{CacheEntry}
use Rattle.outside.specs.Cause.{RoseBy}
use Rattle.saved_results.specs.Saved.{AreCounts, saved_value}
use Rattle.saved_results.specs.declared.saved.Saved.{Saved}
use Rattle.script_program.specs.Kinds.{gives_object}
use Rattle.script_program.specs.Rested.{rested_names}
use Rattle.script_program.specs.Script.{Node, Script}
use Rattle.value_reading.specs.Written.{IsCanonical}

-- these have the collection's type and ascend, and of an object there is just one
pub record AreMembersFor (node : Node) (members : List Value) : Type 0 where
  pub typed : AllHave node.type members
  pub ascending : IsSorted value_cmp members
  pub one : gives_object node.made ≡ true → length members ≡ 1

-- The members may be those of the collection of that number. The sizes are of the collections that
-- it rests on, in order.
pub record IsKeptOf (script : Script) (number : ℕ) (saved : Saved) : Type 0 where
  pub entry : List ℕ × Node
  pub at : slice_get script.nodes number ≡ Some entry
  pub members : AreMembersFor entry.1 saved.members
  pub names : map (λ size. size.name) saved.sizes ≡ rested_names script number
  pub counts : AreCounts saved

-- under this key the entries have the bytes of that, and that may be kept of the collection of this
-- number
abbrev pub IsFound : Script → ℕ → List ℕ → List CacheEntry → Saved → Type 0
IsFound script number key entries saved =
    (bytes : List ℕ) × (found_in entries key ≡ Some bytes) × IsCanonical (saved_value saved) bytes
    × IsKeptOf script number saved

-- just what may be kept is found: nothing else is, and it is where it stands under this key
pub record Finds (script : Script) (number : ℕ) (key : List ℕ) (entries : List CacheEntry)
    (found : Option Saved) : Type 0 where
  pub some : IfSome found (IsFound script number key entries)
  pub none : IfNone found ((saved : Saved) → IsFound script number key entries saved → ⊥)

-- ---- of each collection that is asked for

-- what is found of each may be kept of it
abbrev pub AreKept : Script → List (ℕ × List ℕ) → List (Option Saved) → Type 0
AreKept script asked looked =
    AllZip (λ it found. IfSome found (IsKeptOf script it.0)) asked looked

-- and stands under its key
abbrev pub AreFound : Script → List CacheEntry → List (ℕ × List ℕ) → List (Option Saved) → Type 0
AreFound script entries asked looked =
    AllZip (λ it found. IfSome found (IsFound script it.0 it.1 entries)) asked looked

-- just what may be kept is found of each
abbrev pub FindsEach : Script → List CacheEntry → List (ℕ × List ℕ) → List (Option Saved)
    → Type 0
FindsEach script entries asked looked =
    AllZip (λ it found. Finds script it.0 it.1 entries found) asked looked

-- the same, but for so many of which nothing is found
abbrev pub FindsBut : ℕ → Script → List CacheEntry → List (ℕ × List ℕ) → List (Option Saved)
    → Type 0
FindsBut lost script entries [] [] = ⊤
FindsBut lost script entries [] (found ∷ looked) = ⊥
FindsBut lost script entries (it ∷ asked) [] = ⊥
FindsBut lost script entries (it ∷ asked) (found ∷ looked) =
    (Finds script it.0 it.1 entries found × FindsBut lost script entries asked looked)
    ⊎ ((others : ℕ) × (lost ≡ suc others) × (found ≡ None)
    × FindsBut others script entries asked looked)

-- the same of a cache whose failures were so many before and after: it failed for each of those
abbrev pub FindsUnlessFailed : ℕ → ℕ → Script → List CacheEntry → List (ℕ × List ℕ)
    → List (Option Saved) → Type 0
FindsUnlessFailed first last script entries asked looked =
    (lost : ℕ) × RoseBy lost first last × FindsBut lost script entries asked looked
