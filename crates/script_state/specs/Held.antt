-- What the statements so far define, over types under numbers.
use Rattle.std.specs.Prelude.{List, map}
use Rattle.flume_types.specs.declared.types.Ty.{Ty}
use Rattle.type_table.specs.Table.{type_at}
use Rattle.script_state.specs.declared.operand.Operand.{Operand as HeldOperand}
use Rattle.script_state.specs.declared.operand.Callee.{Callee as HeldCallee}
use Rattle.script_program.specs.Script.{State, Operand, Callee}

-- the types under numbers, and what the statements so far define
pub record Checking : Type 0 where
  pub types : List Ty
  pub state : State

-- an operand in memory, with its type
abbrev pub operand_in : List Ty → HeldOperand → Operand
operand_in types held = record {
  number = held.number;
  type = type_at types held.ty;
  is_object = held.is_object;
}

-- a function as an operand in memory, with its types
abbrev pub callee_in : List Ty → HeldCallee → Callee
callee_in types held = record {
  number = held.number;
  takes = type_at types held.signature.now.takes;
  gives = map (type_at types) held.signature.now.gives;
}
