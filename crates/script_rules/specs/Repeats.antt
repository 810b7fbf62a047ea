-- A repeat, and its turns as collections of the script: a copy of its body for each turn.
use Rattle.std.specs.Prelude.{ℕ, zero, suc, ◌+◌, ◌-◌, List, [], ◌∷◌, ◌++◌, length, map}
use Rattle.std.specs.Prelude.{nat_lt, decimal, slice_index_or, if◌then◌else◌}
use Rattle.std.specs.List.{range_with_len}
use Rattle.script_program.specs.of_written_types.Named.{Named}
use Rattle.script_program.specs.declared.made.Made.{Made}
use Rattle.script_program.specs.declared.made.Made.TheVariants as made
use Rattle.script_program.specs.Script.{Node}

-- A body counts what it can read in an order of its own: first the collections that stand outside
-- it, then those that enter a turn, then its own lets. A let of several names is as many lets, one
-- for each output of its call.
pub record Repeat : Type 0 where
  -- how many collections stand outside
  pub outside : ℕ
  pub turns : ℕ
  -- those that enter the first turn
  pub from : List ℕ
  pub body : Named Node
  -- what a turn gives to the next, by the body's own order
  pub gives : List ℕ

-- ---- one turn

-- what a turn reads beside the collections outside, by the body's own order: those that enter the
-- turn, and its own lets, the first of which has that number in the script
abbrev pub seen : Repeat → List ℕ → ℕ → List ℕ
seen repeat entering start = entering ++ range_with_len start (length repeat.body)

-- for which collection of the script a number of the body stands in a turn that sees these
abbrev pub stands_for : ℕ → List ℕ → ℕ → ℕ
stands_for outside seen number =
    if nat_lt number outside then number else slice_index_or seen (number - outside) 0

-- the same way to make a collection, from other numbers
abbrev pub made_from_others : (ℕ → ℕ) → Made → Made
made_from_others to (made.Input file columns) = made.Input file columns
made_from_others to (made.Do source called output) = made.Do (to source) called output
made_from_others to (made.Group source) = made.Group (to source)
made_from_others to (made.Combine source by) = made.Combine (to source) by
made_from_others to (made.Flatten sources) = made.Flatten (map to sources)
made_from_others to (made.Count source) = made.Count (to source)
made_from_others to (made.Join left right) = made.Join (to left) (to right)
made_from_others to (made.Top many source) = made.Top many (to source)
made_from_others to (made.CombineAll source by) = made.CombineAll (to source) by
made_from_others to (made.Operate objects called) = made.Operate (map to objects) called
made_from_others to (made.DoWith source called object) =
    made.DoWith (to source) called (to object)
made_from_others to (made.Saved is_object call) = made.Saved is_object call

-- the name of a let in a turn: `y@i`
abbrev pub name_in_turn : ℕ → List ℕ → List ℕ
name_in_turn turn name = name ++ 64 ∷ decimal turn

abbrev pub copied_let : ℕ → (ℕ → ℕ) → List ℕ × Node → List ℕ × Node
copied_let turn to entry = (
  name_in_turn turn entry.0,
  record {
    made = made_from_others to entry.1.made;
    type = entry.1.type;
    statement = entry.1.statement;
  },
)

-- for which collections the numbers of the body stand in a turn which these enter, and whose first
-- let has the number `start`
abbrev pub turn_to : Repeat → List ℕ → ℕ → ℕ → ℕ
turn_to repeat entering start = stands_for repeat.outside (seen repeat entering start)

-- the collections of that turn
abbrev pub turn_nodes : Repeat → List ℕ → ℕ → ℕ → Named Node
turn_nodes repeat entering start turn =
    map (copied_let turn (turn_to repeat entering start)) repeat.body

-- those that it gives
abbrev pub turn_gives : Repeat → List ℕ → ℕ → List ℕ
turn_gives repeat entering start = map (turn_to repeat entering start) repeat.gives

-- ---- all turns

-- the collections of so many turns, where that turn is the first
abbrev pub nodes_left : Repeat → ℕ → ℕ → List ℕ → ℕ → Named Node
nodes_left repeat zero turn entering start = []
nodes_left repeat (suc left) turn entering start =
    turn_nodes repeat entering start turn
    ++ nodes_left repeat left (suc turn) (turn_gives repeat entering start)
    (start + length repeat.body)

-- those that the last of them gives
abbrev pub gives_left : Repeat → ℕ → List ℕ → ℕ → List ℕ
gives_left repeat zero entering start = entering
gives_left repeat (suc left) entering start =
    gives_left repeat left (turn_gives repeat entering start) (start + length repeat.body)

-- the collections of all turns, and those that the last one gives
abbrev pub unrolled : Repeat → Named Node
unrolled repeat = nodes_left repeat repeat.turns 1 repeat.from repeat.outside

abbrev pub last_gives : Repeat → List ℕ
last_gives repeat = gives_left repeat repeat.turns repeat.from repeat.outside
