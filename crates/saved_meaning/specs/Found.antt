-- What is given to a script in which some collections are kept ones: rows of the inputs that it
-- still needs, and for each kept collection what the script itself means.
use Rattle.std.specs.Prelude.{◌≡◌, ◌&&◌, ℕ, Bool, true, false, List, [], ◌∷◌, ◌++◌, Option, Some, None, IsSomeAnd, if◌then◌else◌, slice_get}
use Rattle.std.specs.List.{flat_map}
use Rattle.flume_value.specs.declared.value.Value.{Value}
use Rattle.flume_collection.specs.Collection.{Collection}
use Rattle.script_program.specs.declared.made.Made.{Made}
use Rattle.script_program.specs.declared.made.Made.TheVariants as made
use Rattle.script_program.specs.Kinds.{gives_object}
use Rattle.script_program.specs.Needed.{is_needed, made_of, needed_nodes}
use Rattle.script_program.specs.Script.{Node, Script}
use Rattle.direct_meaning.specs.Direct.{made_at, meaning}
use Rattle.direct_meaning.specs.Inputs.{IsListOf}

-- ---- rows

abbrev pub is_input : Option Made → Bool
is_input (Some (made.Input file columns)) = true
is_input _ = false

-- whether a script needs the collection of that number, and as an input
abbrev pub needs_input : Script → ℕ → Bool
needs_input script number = is_needed script number && is_input (slice_get (made_of script) number)

-- of an input, whether another script needs it too
abbrev pub needed_too : Script → ℕ → Made → List Bool
needed_too later number (made.Input file columns) = needs_input later number ∷ []
needed_too later number _ = []

-- the same of each input that a script needs, in order
abbrev pub still_needed : Script → Script → List Bool
still_needed script later =
    flat_map (λ it. needed_too later it.0 it.1.1.made) (needed_nodes script)

-- those that are marked
abbrev pub marked_ones : {X : Type 0} → List Bool → List X → List X
marked_ones [] xs = []
marked_ones (mark ∷ marks) [] = []
marked_ones (true ∷ marks) (x ∷ xs) = x ∷ marked_ones marks xs
marked_ones (false ∷ marks) (x ∷ xs) = marked_ones marks xs

-- ---- what is kept

abbrev pub bag_or_none : Option Collection → List Value
bag_or_none None = []
bag_or_none (Some c) = c.bag

-- of a kept collection the members by this table
abbrev pub members_kept : List (Option Collection) → ℕ → Made → List (List Value)
members_kept table number (made.Saved is_object call) = bag_or_none (made_at table number) ∷ []
members_kept table number _ = []

-- the same of each that a script needs, in order
abbrev pub all_kept : Script → List (Option Collection) → List (List Value)
all_kept script table =
    flat_map (λ it. members_kept table it.0 it.1.1.made) (needed_nodes script)

-- ---- both

-- what is given to a later script, where a script means this table over these rows
abbrev pub lists_for : Script → Script → List (List Value) → List (Option Collection)
    → List (List Value)
lists_for script later rows table =
    marked_ones (still_needed script later) rows ++ all_kept later table

-- members of a collection's type, and just one of an object
abbrev pub IsKeptList : Script → List (Option Collection) → ℕ → Type 0
IsKeptList script kept number =
    (entry : List ℕ × Node) → slice_get script.nodes number ≡ Some entry
    → IsListOf (record { type = entry.1.type; is_object = gives_object entry.1.made })
    (bag_or_none (made_at kept number))

-- a collection that may be found: it is made, without a trap
abbrev pub MayBeFound : List (Option Collection) → ℕ → Type 0
MayBeFound table number = IsSomeAnd (made_at table number) (λ c. c.traps ≡ [])

-- a collection, where it is needed
abbrev pub where_needed : Bool → Option Collection → Option Collection
where_needed true c = c
where_needed false c = None

-- one table is another, by number, where a script needs that
abbrev pub IsSame : Script → List (Option Collection) → List (Option Collection) → Type 0
IsSame script table own =
    (number : ℕ) → made_at own number
    ≡ where_needed (is_needed script number) (made_at table number)

-- Over that a later script has a meaning: by number the collections of the script, where it needs
-- them.
pub record MeansSame (script later : Script) (rows : List (List Value))
    (table : List (Option Collection)) : Type 0 where
  pub own : List (Option Collection)
  pub means : meaning later (lists_for script later rows table) ≡ Some own
  pub same : IsSame later table own
