-- Which scripts are well formed: each collection is made from collections that stand before it, of
-- types that fit, and from objects just where their values are read, the outputs of a call stand
-- one after another, each output of the script has the columns of the collection that it reads,
-- and each function's body is well typed.
use Rattle.std.specs.Prelude.{◌≡◌, ℕ, ◌+◌, ◌<◌, ◌≤◌, List, [], ◌∷◌, ◌++◌, Option, Some, None, Ok, length}
use Rattle.std.specs.Prelude.{slice_get, Bool, true, false, IsSomeAnd, ⊤}
use Rattle.std.specs.List.{All, AllByRecursion as Each, AllZip}
use Rattle.std.specs.Option.{option_map}
use Rattle.flume_types.specs.declared.types.Ty.{Ty}
use Rattle.flume_types.specs.declared.types.Ty.TheVariants as ty
use Rattle.flume_types.specs.declared.types.Field.{Field}
use Rattle.flume_types.specs.Columns.{columns_of, input_columns_of}
use Rattle.flume_types.specs.Tables.{table_of}
use Rattle.flume_types.specs.Typing.{types_of}
use Rattle.combine_table.specs.declared.comb.Comb.{Comb}
use Rattle.script_rules.specs.of_written_types.Named.{Named}
use Rattle.script_rules.specs.of_body_check.Bodies.{body_of}
use Rattle.script_rules.specs.of_script_program.Limits.{most_collections, most_outputs}
use Rattle.script_rules.specs.of_script_program.declared.made.Emitted.{Emitted}
use Rattle.script_rules.specs.of_script_program.declared.made.Made.{Made}
use Rattle.script_rules.specs.of_script_program.declared.made.Made.TheVariants as made
use Rattle.script_rules.specs.of_script_program.declared.made.Output.{Output}
use Rattle.script_rules.specs.of_script_program.Kinds.{emitted_as, gives_object, members_read, values_read}
use Rattle.script_rules.specs.of_script_program.Needed.{made_of}
use Rattle.script_rules.specs.of_script_program.Script.{Function, Node, Script}
use Rattle.script_rules.specs.Operations.{sides_of, combined_type}

-- ---- what numbers stand for

-- the type of the members of the collection of a number, where there is one
abbrev pub members_at : Named Node → ℕ → Option Ty
members_at nodes number = option_map (λ entry. entry.1.type) (slice_get nodes number)

-- whether the collection of a number is an object, where there is one
abbrev pub object_at : Named Node → ℕ → Option Bool
object_at nodes number =
    option_map (λ entry. gives_object entry.1.made) (slice_get nodes number)

-- the function of a number, where there is one
abbrev pub function_at : Named Function → ℕ → Option Function
function_at functions number = option_map (λ entry. entry.1) (slice_get functions number)

-- ---- how a collection is made

-- by a function that takes the members and gives this type to the output of that number
pub record ComesOfDo (functions : Named Function) (nodes : Named Node)
    (source called output : ℕ) (type : Ty) : Type 0 where
  pub function : Function
  pub calls : function_at functions called ≡ Some function
  pub takes : members_at nodes source ≡ Some function.signature.takes
  pub gives : slice_get function.signature.gives output ≡ Some type

-- as the groups of a table
pub record ComesOfGroup (nodes : Named Node) (source : ℕ) (type : Ty) : Type 0 where
  pub key : Ty
  pub value : Ty
  pub reads : members_at nodes source ≡ Some (table_of key value)
  pub gives : type ≡ table_of key (ty.List value)

-- by combining the lists of groups, whose members suit the combiner
pub record ComesOfCombine (nodes : Named Node) (source : ℕ) (by : Comb) (type : Ty) : Type 0 where
  pub key : Ty
  pub member : Ty
  pub value : Ty
  pub reads : members_at nodes source ≡ Some (table_of key (ty.List member))
  pub suits : combined_type by member ≡ Some value
  pub gives : type ≡ table_of key value

-- from collections of one type, at least one
pub record IsFlattened (nodes : Named Node) (sources : List ℕ) (type : Ty) : Type 0 where
  pub some : 0 < length sources
  pub read : All (λ source. members_at nodes source ≡ Some type) sources

-- as the distinct members with how often each occurs
pub record IsCounted (nodes : Named Node) (source : ℕ) (type : Ty) : Type 0 where
  pub member : Ty
  pub reads : members_at nodes source ≡ Some member
  pub gives : type ≡ table_of member ty.Int

-- from two tables of one type of keys
pub record IsJoined (nodes : Named Node) (left right : ℕ) (type : Ty) : Type 0 where
  pub key : Ty
  pub left_value : Ty
  pub right_value : Ty
  pub reads_left : members_at nodes left ≡ Some (table_of key left_value)
  pub reads_right : members_at nodes right ≡ Some (table_of key right_value)
  pub gives : type ≡ table_of key (sides_of left_value right_value)

-- from the greatest members, so many of them as may be asked for
pub record IsTop (nodes : Named Node) (number source : ℕ) (type : Ty) : Type 0 where
  pub least : 1 ≤ number
  pub most : number ≤ 1000
  pub reads : members_at nodes source ≡ Some type

-- as what a combiner makes of all members, which suit it
pub record ComesOfCombineAll (nodes : Named Node) (source : ℕ) (by : Comb) (type : Ty)
    : Type 0 where
  pub member : Ty
  pub reads : members_at nodes source ≡ Some member
  pub suits : combined_type by member ≡ Some type

-- the type of records of fields of these types, in order
pub record IsRecord (types : List Ty) (t : Ty) : Type 0 where
  pub fields : List (Field Ty)
  pub record_of : t ≡ ty.Rec fields
  pub in_order : types_of fields ≡ types

-- what a function of objects takes: the type of the one object's value, or of the record of several
abbrev pub IsArgument : List Ty → Ty → Type 0
IsArgument [] t = ⊥
IsArgument (one ∷ []) t = t ≡ one
IsArgument (one ∷ other ∷ types) t = IsRecord (one ∷ other ∷ types) t

-- by a function of one output that takes the values of objects
pub record IsOperated (functions : Named Function) (nodes : Named Node)
    (objects : List ℕ) (called : ℕ) (type : Ty) : Type 0 where
  pub function : Function
  pub calls : function_at functions called ≡ Some function
  -- the types of the values
  pub types : List Ty
  pub reads : AllZip (λ object t. members_at nodes object ≡ Some t) objects types
  pub takes : IsArgument types function.signature.takes
  pub gives : function.signature.gives ≡ type ∷ []

-- by a function of one output that takes the record of a member and of an object's value
pub record IsDoneWith (functions : Named Function) (nodes : Named Node)
    (source called object : ℕ) (type : Ty) : Type 0 where
  pub function : Function
  pub calls : function_at functions called ≡ Some function
  pub member : Ty
  pub value : Ty
  pub reads : members_at nodes source ≡ Some member
  pub reads_object : members_at nodes object ≡ Some value
  pub takes : IsRecord (member ∷ value ∷ []) function.signature.takes
  pub gives : function.signature.gives ≡ type ∷ []

-- as an output of a call, whose function gives this type to it
pub record IsEmitted (functions : Named Function) (it : Emitted) (type : Ty) : Type 0 where
  pub function : Function
  pub calls : function_at functions it.function ≡ Some function
  pub gives : slice_get function.signature.gives it.output ≡ Some type

-- as an earlier run has kept it, which was an output of a call or not
abbrev pub ComesOfEarlierRun : Named Function → Option Emitted → Ty → Type 0
ComesOfEarlierRun functions None type = ⊤
ComesOfEarlierRun functions (Some it) type = IsEmitted functions it type

-- how a collection behind these nodes is made fits the type of its members
abbrev pub Fits : Named Function → Named Node → Made → Ty → Type 0
Fits functions nodes (made.Input file columns) type = input_columns_of type ≡ Some columns
Fits functions nodes (made.Do source function output) type =
    ComesOfDo functions nodes source function output type
Fits functions nodes (made.Group source) type = ComesOfGroup nodes source type
Fits functions nodes (made.Combine source by) type = ComesOfCombine nodes source by type
Fits functions nodes (made.Flatten sources) type = IsFlattened nodes sources type
Fits functions nodes (made.Count source) type = IsCounted nodes source type
Fits functions nodes (made.Join left right) type = IsJoined nodes left right type
Fits functions nodes (made.Top number source) type = IsTop nodes number source type
Fits functions nodes (made.CombineAll source by) type = ComesOfCombineAll nodes source by type
Fits functions nodes (made.Operate objects function) type =
    IsOperated functions nodes objects function type
Fits functions nodes (made.DoWith source function object) type =
    IsDoneWith functions nodes source function object type
Fits functions nodes (made.Saved is_object call) type = ComesOfEarlierRun functions call type

-- each node fits where it stands, behind these nodes
abbrev pub AllFit : Named Function → Named Node → Named Node → Type 0
AllFit functions before [] = ⊤
AllFit functions before (entry ∷ nodes) =
    Fits functions before entry.1.made entry.1.type
    × AllFit functions (before ++ entry ∷ []) nodes

-- A collection behind these nodes is made from objects where it reads their values, and from the
-- members of others.
pub record ReadsKinds (nodes : Named Node) (how : Made) : Type 0 where
  pub members : Each (λ number. object_at nodes number ≡ Some false) (members_read how)
  pub values : Each (λ number. object_at nodes number ≡ Some true) (values_read how)

-- each node is where it stands, behind these nodes
abbrev pub AllReadKinds : Named Node → Named Node → Type 0
AllReadKinds before [] = ⊤
AllReadKinds before (entry ∷ nodes) =
    ReadsKinds before entry.1.made × AllReadKinds (before ++ entry ∷ []) nodes

-- a collection is the output k of a call of that function on a source, or was it where an earlier
-- run has kept it
abbrev pub IsNameOf : ℕ → ℕ → ℕ → Made → Type 0
IsNameOf source called k (made.Do input function output) =
    made.Do input function output ≡ made.Do source called k
IsNameOf source called k (made.Saved is_object call) =
    call ≡ Some (record { function = called; output = k })
IsNameOf source called k _ = ⊥

-- The collection of that number is an output of a call. The call's outputs stand one after another,
-- as many as its function has; the first of them has the number `first`.
pub record IsCallIn (functions : Named Function) (ways : List Made)
    (number : ℕ) (it : Emitted) : Type 0 where
  pub first : ℕ
  pub place : first + it.output ≡ number
  pub function : Function
  pub calls : function_at functions it.function ≡ Some function
  pub source : ℕ
  pub names : (k : ℕ) → k < length function.signature.gives
      → IsSomeAnd (slice_get ways (first + k)) (IsNameOf source it.function k)

abbrev pub IsCallOf : Script → ℕ → Emitted → Type 0
IsCallOf script number it = IsCallIn script.functions (made_of script) number it

-- an output has the columns of the collection that it reads
pub record HasColumns (nodes : Named Node) (output : Output) : Type 0 where
  pub type : Ty
  pub reads : members_at nodes output.reads ≡ Some type
  pub columns : columns_of type ≡ Some output.columns

-- a function's body keeps the rules, where names stand for the types that they stood for there
abbrev pub IsWellTyped : Function → Type 0
IsWellTyped function =
    body_of function.types function.argument function.signature.takes function.signature.gives
    function.body
    ≡ Ok tt

-- a function has one output or more, and not more than it may
pub record HasOutputs (function : Function) : Type 0 where
  pub some : 1 ≤ length function.signature.gives
  pub few : length function.signature.gives ≤ most_outputs

pub record IsWellFormed (script : Script) : Type 0 where
  pub functions : All (λ entry. IsWellTyped entry.1) script.functions
  pub gives : All (λ entry. HasOutputs entry.1) script.functions
  pub nodes : AllFit script.functions [] script.nodes
  pub kinds : AllReadKinds [] script.nodes
  pub calls : (number : ℕ) (how : Made) (it : Emitted)
      → slice_get (made_of script) number ≡ Some how → emitted_as how ≡ Some it
      → IsCallOf script number it
  pub outputs : All (λ entry. HasColumns script.nodes entry.1) script.outputs
  pub some : 0 < length script.outputs
  pub few : length script.nodes ≤ most_collections
