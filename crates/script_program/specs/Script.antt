-- What a script defines: functions, collections and outputs, in the order of their definitions.
use Rattle.std.specs.Prelude.{ℕ, suc, List, [], ◌∷◌, ◌++◌, Option, None, slice_get, length, map}
use Rattle.std.specs.Prelude.{Bool, take, drop, option_and_then}
use Rattle.std.specs.List.{position_or_len}
use Rattle.std.specs.Option.{option_map}
use Rattle.std.specs.Str.{bytes_eq}
use Rattle.std.specs.Map.{keys_of}
use Rattle.flume_types.specs.declared.types.Ty.{Ty}
use Rattle.flume_grammar.specs.declared.tree.Body.{Body}
use Rattle.flume_grammar.specs.declared.tree.Function.{Function as Written}
use Rattle.body_check.specs.of_written_types.Named.{Named, find}
use Rattle.script_program.specs.declared.made.Made.{Made}
use Rattle.script_program.specs.declared.made.Output.{Output}
use Rattle.script_program.specs.declared.made.Standing.{Standing}
use Rattle.script_program.specs.declared.made.Standing.TheVariants.{Collection, Hidden}
use Rattle.script_program.specs.Kinds.{gives_object}

-- what a function takes, what it gives to each output, and how many emissions are expected of a
-- hundred calls
pub record Signature : Type 0 where
  pub takes : Ty
  pub gives : List Ty
  pub scale : ℕ

-- a function as it is written: what names of types stand for in its body, the name of its argument,
-- and its body, with its types
pub record Function : Type 0 where
  pub types : Named Ty
  pub argument : List ℕ
  pub signature : Signature
  pub body : List Body

-- what a statement makes: how a collection is made, and the type of its members
pub record Making : Type 0 where
  pub made : Made
  pub type : Ty

-- a collection: how it is made, the type of its members, and the number of the statement that makes
-- it, from 0
pub record Node : Type 0 where
  pub made : Made
  pub type : Ty
  pub statement : ℕ

-- A script: its functions and collections, each numbered from 0 in this order, and its outputs by
-- their files. A collection has the name that it is told by.
pub record Script : Type 0 where
  pub functions : Named Function
  pub nodes : Named Node
  pub outputs : Named Output

-- What the statements so far define: types too, what names of collections stand for, and how many
-- statements there are.
pub record State : Type 0 where
  pub types : Named Ty
  pub functions : Named Function
  pub nodes : Named Node
  pub names : Named Standing
  pub outputs : Named Output
  pub statements : ℕ

-- a function as it is written, with its types, where names stand for types as in this state
abbrev pub function_from : Written → Signature → State → Function
function_from function signature s = record {
  types = s.types;
  argument = function.argument;
  signature = signature;
  body = function.body;
}

-- what a statement of that number makes
abbrev pub node_from : ℕ → Making → Node
node_from statement making = record {
  made = making.made;
  type = making.type;
  statement = statement;
}

abbrev pub empty_state : State
empty_state = record {
  types = [];
  functions = [];
  nodes = [];
  names = [];
  outputs = [];
  statements = 0;
}

abbrev pub script_from : State → Script
script_from s = record { functions = s.functions; nodes = s.nodes; outputs = s.outputs }

-- ---- one more

abbrev pub with_named_type : List ℕ → Ty → State → State
with_named_type name t s = record s { types = s.types ++ (name, t) ∷ [] }

abbrev pub with_function : List ℕ → Function → State → State
with_function name function s = record s { functions = s.functions ++ (name, function) ∷ [] }

-- a collection more, which this statement makes; the name stands for it
abbrev pub with_node : List ℕ → Making → State → State
with_node name making s = record s {
  nodes = s.nodes ++ (name, node_from s.statements making) ∷ [];
  names = s.names ++ (name, Collection (length s.nodes)) ∷ [];
}

-- for each name a collection more, in order
abbrev pub with_nodes : List (List ℕ) → List Making → State → State
with_nodes [] makings s = s
with_nodes (name ∷ names) [] s = s
with_nodes (name ∷ names) (making ∷ makings) s =
    with_nodes names makings (with_node name making s)

abbrev pub with_output : List ℕ → Output → State → State
with_output file output s = record s { outputs = s.outputs ++ (file, output) ∷ [] }

-- the same, behind one statement more
abbrev pub with_statement : State → State
with_statement s = record s { statements = suc s.statements }

-- ---- the body of a repeat

-- a name more, which stands for that
abbrev pub with_standing : List ℕ → Standing → State → State
with_standing name standing s = record s { names = s.names ++ (name, standing) ∷ [] }

-- names more, which are taken and stand for no collection
abbrev pub with_hidden : List (List ℕ) → State → State
with_hidden [] s = s
with_hidden (name ∷ names) s = with_hidden names (with_standing name Hidden s)

-- the first so many collections alone
abbrev pub with_front : ℕ → State → State
with_front number s = record s { nodes = take number s.nodes }

-- collections more, for which no name stands yet
abbrev pub with_copies : Named Node → State → State
with_copies nodes s = record s { nodes = s.nodes ++ nodes }

-- the first names stand for the collections of these numbers, and those behind them for none
abbrev pub given : List ℕ → Named Standing → Named Standing
given [] names = map (λ entry. (entry.0, Hidden)) names
given (number ∷ numbers) [] = []
given (number ∷ numbers) (entry ∷ names) =
    (entry.0, Collection number) ∷ given numbers names

-- the same of the names from a place on
abbrev pub with_given : ℕ → List ℕ → State → State
with_given first numbers s = record s {
  names = take first s.names ++ given numbers (drop first s.names);
}

-- ---- operands

-- where a name stands
abbrev pub name_place : {A : Type 0} → List ℕ → Named A → ℕ
name_place name names = position_or_len (bytes_eq name) (keys_of names)

-- a collection as an operand: its number, the type of its members, and whether it is an object
pub record Operand : Type 0 where
  pub number : ℕ
  pub type : Ty
  pub is_object : Bool

-- the collection of a number, where there is one
abbrev pub operand_at : Named Node → ℕ → Option Operand
operand_at nodes number =
    option_map
    (λ entry. record {
      number = number;
      type = entry.1.type;
      is_object = gives_object entry.1.made;
    })
    (slice_get nodes number)

-- what a name stands for, where it is a collection's
abbrev pub operand_of : Named Node → Standing → Option Operand
operand_of nodes (Collection number) = operand_at nodes number
operand_of nodes Hidden = None

-- the collection of a name
abbrev pub find_node : List ℕ → State → Option Operand
find_node name s = option_and_then (operand_of s.nodes) (find name s.names)

-- a function as an operand: its number, what it takes, and what it gives to each output
pub record Callee : Type 0 where
  pub number : ℕ
  pub takes : Ty
  pub gives : List Ty

abbrev pub find_function : List ℕ → Named Function → Option Callee
find_function name functions =
    option_map
    (λ function. record {
      number = name_place name functions;
      takes = function.signature.takes;
      gives = function.signature.gives;
    })
    (find name functions)
