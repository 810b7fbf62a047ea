-- Two repeats, worked out: three calls of a function one after another, and a collection put
-- together with itself three times.
use Rattle.std.specs.Prelude.{ℕ, pos, List, [], ◌∷◌, Option, Some, codes, replicate}
use Rattle.flume_collection.specs.Collection.{Collection}
use Rattle.flume_types.specs.declared.types.Ty.TheVariants as ty
use Rattle.flume_value.specs.declared.value.Value.TheVariants as value
use Rattle.written_types.specs.Named.{Named}
use Rattle.script_program.specs.declared.made.Made.{Made}
use Rattle.script_program.specs.declared.made.Made.TheVariants as made
use Rattle.script_program.specs.Script.{Node}
use Rattle.script_rules.specs.Repeats.{Repeat, name_in_turn}

abbrev pub int_node : Made → Node
int_node how = record { made = how; type = ty.Int; statement = 1 }

-- `let t = repeat 3 from a as c { let d = .. give d }`, where `a` is all that stands outside: the
-- body's order is a, c, d
abbrev pub three_of : Made → Repeat
three_of how = record {
  outside = 1;
  turns = 3;
  from = 0 ∷ [];
  body = (codes "d", int_node how) ∷ [];
  gives = 2 ∷ [];
}

-- `do c f`
abbrev pub calls : Repeat
calls = three_of (made.Do 1 0 0)

abbrev pub called_nodes : Named Node
called_nodes =
    (name_in_turn 1 (codes "d"), int_node (made.Do 0 0 0)) ∷
    (name_in_turn 2 (codes "d"), int_node (made.Do 1 0 0))
    ∷ (name_in_turn 3 (codes "d"), int_node (made.Do 2 0 0)) ∷ []

-- `flatten c, c`
abbrev pub doubles : Repeat
doubles = three_of (made.Flatten (1 ∷ 1 ∷ []))

abbrev pub doubled_nodes : Named Node
doubled_nodes =
    (name_in_turn 1 (codes "d"), int_node (made.Flatten (0 ∷ 0 ∷ [])))
    ∷ (name_in_turn 2 (codes "d"), int_node (made.Flatten (1 ∷ 1 ∷ [])))
    ∷ (name_in_turn 3 (codes "d"), int_node (made.Flatten (2 ∷ 2 ∷ []))) ∷ []

-- so many sevens
abbrev pub sevens : ℕ → List (Option Collection)
sevens n = Some (record { bag = replicate n (value.Int (pos 7)); traps = [] }) ∷ []
