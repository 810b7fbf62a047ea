-- The direct meaning of a script: a collection for each of its needed nodes, by one equation for
-- each way in which a collection is made. It knows no order of members, no parts and no graph.
use Rattle.std.specs.Prelude.{ℕ, ◌-◌, ◌^◌, List, [], ◌∷◌, ◌++◌, length, map, min, Option, Some, None, option_map, option_and_then, if◌then◌else◌}
use Rattle.std.specs.List.{flat_map, slice_get}
use Rattle.std.specs.Option.{option_flatten}
use Rattle.flume_value.specs.Bag.{bag_of}
use Rattle.flume_value.specs.declared.value.Value.{Value}
use Rattle.bag_groups.specs.Combining.{combined_each, traps_of_each}
use Rattle.combine_table.specs.Combinations.{combined, greatest}
use Rattle.combine_table.specs.declared.comb.Comb.{Comb}
use Rattle.bag_steps.specs.Counts.{counted, counted_traps}
use Rattle.bag_steps.specs.Joins.{joined}
use Rattle.flume_collection.specs.Calls.{trap_named}
use Rattle.flume_collection.specs.Collection.{Collection, by_key, together, unless_trapped}
use Rattle.flume_collection.specs.Traps.{trap_set}
use Rattle.flume_collection.specs.declared.trap.Trap.{Trap}
use Rattle.script_laws.specs.of_written_types.Named.{Named}
use Rattle.script_program.specs.declared.made.Made.{Made}
use Rattle.script_program.specs.declared.made.Made.TheVariants as made
use Rattle.script_program.specs.Script.{Function, Node, Script}
use Rattle.script_laws.specs.WellFormed.{function_at}
use Rattle.direct_meaning.specs.Calls.{answer_of, answers_on}
pub use Rattle.direct_meaning.specs.Calls.{called_by}
use Rattle.direct_meaning.specs.Objects.{combined_whole, done_beside, operated_by}
use Rattle.script_program.specs.Needed.{is_needed}
use Rattle.script_program.specs.Sources.{in_order}

-- ---- one equation for each way in which a collection is made

-- from the rows of an input, or from what is kept of the collection
abbrev pub rows_as : List Value → Collection
rows_as rows = record { bag = bag_of rows; traps = [] }

-- what a function, called on each member, gives to its output of that place: what the calls emit
-- to it that do not trap. The origin is the number of the statement's first name.
abbrev pub done_by : ℕ → ℕ → Function → Collection → Option Collection
done_by origin output function c =
    option_map (called_by origin output c.traps) (answers_on (answer_of function) c.bag)

-- each group with its list combined, but those that trap
abbrev pub combined_by : ℕ → Comb → Collection → Collection
combined_by origin comb c = record {
  bag = combined_each (combined comb) c.bag;
  traps = trap_set (c.traps ++ map (trap_named origin) (traps_of_each (combined comb) c.bag));
}

-- the distinct members with how often each occurs, and the traps of those that are too many; where
-- a trap is behind them there are none
abbrev pub counts_behind : ℕ → List Trap → List Value → Collection
counts_behind origin [] bag = record {
  bag = counted bag;
  traps = trap_set (map (trap_named origin) (counted_traps bag));
}
counts_behind origin (trap ∷ traps) bag = record { bag = []; traps = trap ∷ traps }

abbrev pub counted_by : ℕ → Collection → Collection
counted_by origin c = counts_behind origin c.traps c.bag

-- both sides of each key of two tables; none where a trap is behind either
abbrev pub joined_collections : Collection → Collection → Collection
joined_collections a b = record {
  bag = unless_trapped (a.traps ++ b.traps) (joined a.bag b.bag);
  traps = trap_set (a.traps ++ b.traps);
}

-- so many of the greatest members; none where a trap is behind them
abbrev pub top_by : ℕ → Collection → Collection
top_by number c = record {
  bag = unless_trapped c.traps (greatest number c.bag);
  traps = c.traps;
}

-- ---- all nodes of a script

-- the collection of that number, where it is made
abbrev pub made_at : List (Option Collection) → ℕ → Option Collection
made_at table number = option_flatten (slice_get table number)

-- the collections of these numbers; none where one of them is not made
abbrev pub all_made : List (Option Collection) → List ℕ → Option (List Collection)
all_made table [] = Some []
all_made table (number ∷ numbers) =
    option_and_then (λ c. option_map (λ cs. c ∷ cs) (all_made table numbers))
    (made_at table number)

-- what a function makes of the collection of a number
abbrev pub done_at : ℕ → ℕ → Function → ℕ → List (Option Collection) → Option Collection
done_at origin output function source table =
    option_and_then (done_by origin output function) (made_at table source)

-- the join of the collections of two numbers
abbrev pub joined_at : ℕ → ℕ → List (Option Collection) → Option Collection
joined_at left right table =
    option_and_then (λ a. option_map (joined_collections a) (made_at table right))
    (made_at table left)

-- what a function makes of the objects of these numbers
abbrev pub operated_at : ℕ → Function → List ℕ → List (Option Collection) → Option Collection
operated_at origin function objects table =
    option_and_then (operated_by origin (answer_of function)) (all_made table objects)

-- what a function makes of the collection of a number beside the object of another
abbrev pub done_beside_at : ℕ → Function → ℕ → ℕ → List (Option Collection) → Option Collection
done_beside_at origin function source object table =
    option_and_then (λ c.
    option_and_then (done_beside origin (answer_of function) c) (made_at table object))
    (made_at table source)

-- what the node of that number makes of the lists of the sources to come and of the collections
-- made before it; there is none where it reads what is not made, or where a call has no answer
abbrev pub made_as : Script → ℕ → Made → List (List Value) → List (Option Collection)
    → Option Collection
made_as script number (made.Input file columns) [] table = None
made_as script number (made.Input file columns) (rows ∷ inputs) table = Some (rows_as rows)
made_as script number (made.Do source called output) inputs table =
    option_and_then (λ function. done_at (number - output) output function source table)
    (function_at script.functions called)
made_as script number (made.Group source) inputs table =
    option_map by_key (made_at table source)
made_as script number (made.Combine source by) inputs table =
    option_map (combined_by number by) (made_at table source)
made_as script number (made.Flatten sources) inputs table =
    option_map together (all_made table sources)
made_as script number (made.Count source) inputs table =
    option_map (counted_by number) (made_at table source)
made_as script number (made.Join left right) inputs table = joined_at left right table
made_as script number (made.Top many source) inputs table =
    option_map (top_by many) (made_at table source)
made_as script number (made.CombineAll source by) inputs table =
    option_map (combined_whole number by) (made_at table source)
made_as script number (made.Operate objects called) inputs table =
    option_and_then (λ function. operated_at number function objects table)
    (function_at script.functions called)
made_as script number (made.DoWith source called object) inputs table =
    option_and_then (λ function. done_beside_at number function source object table)
    (function_at script.functions called)
made_as script number (made.Saved is_object call) [] table = None
made_as script number (made.Saved is_object call) (rows ∷ inputs) table = Some (rows_as rows)

-- the lists of the sources to come behind a node
abbrev pub inputs_behind : Made → List (List Value) → List (List Value)
inputs_behind (made.Input file columns) [] = []
inputs_behind (made.Input file columns) (rows ∷ inputs) = inputs
inputs_behind (made.Saved is_object call) [] = []
inputs_behind (made.Saved is_object call) (rows ∷ inputs) = inputs
inputs_behind _ inputs = inputs

-- nodes in order, behind those that made this table: one that is not needed makes nothing
abbrev pub collections : Script → Named Node → List (List Value) → List (Option Collection)
    → Option (List (Option Collection))
collections script [] [] table = Some table
collections script [] (rows ∷ inputs) table = None
collections script (entry ∷ nodes) inputs table =
    if is_needed script (length table)
    then option_and_then (λ c.
    collections script nodes (inputs_behind entry.1.made inputs) (table ++ Some c ∷ []))
    (made_as script (length table) entry.1.made inputs table)
    else collections script nodes inputs (table ++ None ∷ [])

-- The direct meaning of a script over the rows of its needed inputs, in their order, and behind
-- them the members of its needed kept collections, in theirs: by number, the collection of each
-- needed node. There is none where there are not as many lists.
abbrev pub meaning : Script → List (List Value) → Option (List (Option Collection))
meaning script inputs = collections script script.nodes (in_order script inputs) []

-- ---- what is told of it

-- the traps behind a collection that is made
abbrev pub traps_behind : Option Collection → List Trap
traps_behind None = []
traps_behind (Some c) = c.traps

-- the traps of a script: those behind all that is made
abbrev pub traps_of : List (Option Collection) → List Trap
traps_of made = trap_set (flat_map traps_behind made)

-- how many members a collection has, as far as 64 bits count
abbrev pub size_of : Collection → ℕ
size_of c = min (length c.bag) (2 ^ 64 - 1)

-- the name and the size of each collection that is made, in order
abbrev pub sizes_from : Named Node → List (Option Collection) → List (List ℕ × ℕ)
sizes_from [] made = []
sizes_from (entry ∷ nodes) [] = []
sizes_from (entry ∷ nodes) (None ∷ made) = sizes_from nodes made
sizes_from (entry ∷ nodes) (Some c ∷ made) = (entry.0, size_of c) ∷ sizes_from nodes made

abbrev pub sizes_of : Script → List (Option Collection) → List (List ℕ × ℕ)
sizes_of script made = sizes_from script.nodes made
