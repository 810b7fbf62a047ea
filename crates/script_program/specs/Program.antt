-- A program: a script over types under numbers.
use Rattle.std.specs.Prelude.{◌≡◌, ◌<◌, List, length, map, take}
use Rattle.flume_value.specs.declared.value.Value.{Value}
use Rattle.flume_types.specs.declared.types.Ty.{Ty}
use Rattle.dofn_eval.specs.Run.{slots_mean}
use Rattle.dofn_eval.specs.Function.{SlotFunction as Fun, FunTyped}
use Rattle.body_check.specs.Call.{means}
use Rattle.type_table.specs.Table.{type_at}
use Rattle.body_check.specs.of_expression_types.Held.{AreTypes}
use Rattle.body_check.specs.of_written_types.Known.{Known}
use Rattle.script_program.specs.declared.made.Signature.{Signature as HeldSignature}
use Rattle.script_program.specs.declared.made.Function.{Function as HeldFunction}
use Rattle.script_program.specs.declared.made.Making.{Making as HeldMaking}
use Rattle.script_program.specs.declared.made.Node.{Node as HeldNode}
use Rattle.script_program.specs.Script.{Signature, Function, Making, Node, Script}

-- the types under numbers with their names, and the script
pub record Numbered : Type 0 where
  pub known : Known
  pub script : Script

abbrev pub signature_in : List Ty → HeldSignature → Signature
signature_in types held = record {
  takes = type_at types held.takes;
  gives = map (type_at types) held.gives;
  scale = held.scale;
}

-- what a function takes and gives are numbers of types
abbrev pub HasTypes : List Ty → HeldSignature → Type 0
HasTypes types held = (held.takes < length types) × AreTypes (length types) held.gives

-- a function in memory, with its types and with the names of types that are known in its body
abbrev pub function_in : Known → HeldFunction → Function
function_in known held = record {
  types = take held.type_names known.names;
  argument = held.argument;
  signature = signature_in known.types held.signature;
  body = held.body;
}

-- a collection in memory, with its type
abbrev pub node_in : List Ty → HeldNode → Node
node_in types held = record {
  made = held.made;
  type = type_at types held.ty;
  statement = held.statement;
}

-- what a statement makes in memory, with its type
abbrev pub making_in : List Ty → HeldMaking → Making
making_in types held = record { made = held.made; type = type_at types held.ty }

-- A function with slots does what a function with names does: it is well typed at the types of the
-- argument and the outputs, of which it has as many, and means by slots what the parsed body means
-- by names.
pub record DoesAsWritten (fun : Fun) (function : Function) : Type 0 where
  pub typed : FunTyped function.signature.takes function.signature.gives fun
  pub means : (x : Value)
      → means function.types fun.outputs function.argument function.signature.takes function.body x
      ≡ slots_mean fun.outputs fun.body x
