-- A repeat in memory, with types under numbers.
use Rattle.std.specs.Prelude.{List, map}
use Rattle.flume_types.specs.declared.types.Ty.{Ty}
use Rattle.script_state.specs.Held.{operand_in}
use Rattle.script_program.specs.inner.Tables.{node_of}
use Rattle.let_check.specs.declared.repeats.Entry.{Entry as HeldEntry}
use Rattle.let_check.specs.declared.turns.Repeat.{Repeat as HeldRepeat}
use Rattle.script_rules.specs.Repeats.{Repeat}
use Rattle.script_rules.specs.Rules.{Entry}

-- what enters a repeat, with its types
abbrev pub entry_in : List Ty → HeldEntry → Entry
entry_in types held = record {
  from = map (operand_in types) held.from;
  turns = held.turns;
}

-- a repeat, with the types of its body's lets
abbrev pub repeat_in : List Ty → HeldRepeat → Repeat
repeat_in types held = record {
  outside = held.outside;
  turns = held.turns;
  from = held.from;
  body = map (node_of types) held.body;
  gives = held.gives;
}
