-- What operations make, one collection for each name, each by its rules in order; the first fault
-- with its line.
use Rattle.std.specs.Prelude.{ℕ, suc, Bool, List, [], ◌∷◌, ◌++◌, ◌&&◌, Option, Some, None, Ok, Err}
use Rattle.std.specs.Prelude.{if◌then◌else◌, codes, map, not}
use Rattle.std.specs.List.{list_all}
use Rattle.std.specs.Str.{bytes_eq}
use Rattle.flume_types.specs.declared.types.Ty.{Ty, Ty-F, out-Ty}
use Rattle.flume_types.specs.declared.types.Ty.TheVariants as ty
use Rattle.flume_types.specs.declared.types.Field.{Field}
use Rattle.flume_types.specs.Equality.{type_eq}
use Rattle.flume_types.specs.Tables.{table_of}
use Rattle.flume_grammar.specs.declared.tree.Operation.{Operation}
use Rattle.flume_grammar.specs.declared.tree.Operation.TheVariants as operation
use Rattle.flume_grammar.specs.declared.tree.Combiner.{Combiner}
use Rattle.flume_grammar.specs.declared.tree.Combiner.TheVariants as combiner
use Rattle.flume_grammar.specs.declared.fault.ScriptKind.TheVariants.{Unknown, Mistyped, NotTable}
use Rattle.flume_grammar.specs.declared.fault.ScriptKind.TheVariants.{BadNumber}
use Rattle.flume_grammar.specs.declared.fault.ScriptFault.TheVariants.{Refused}
pub use Rattle.bag_steps.specs.Sides.{sides_of}
use Rattle.combine_table.specs.declared.comb.Comb.{Comb}
use Rattle.combine_table.specs.declared.comb.Comb.TheVariants as comb
use Rattle.script_program.specs.of_written_types.Answer.{Checked, ◌>>=◌, unless, or_fault}
use Rattle.script_program.specs.declared.made.Made.TheVariants as made
use Rattle.script_program.specs.of_expression_check.Numbers.{number_within}
use Rattle.script_program.specs.Script.{Making, State, Operand, find_node, Callee, find_function}
use Rattle.script_rules.specs.Arguments.{are_plain, sole, takes_both, takes_members}
use Rattle.script_rules.specs.Arguments.{takes_objects}

-- ---- parts of types

-- the key and the value of a table
pub record Pair : Type 0 where
  pub key : Ty
  pub value : Ty

abbrev pub key_and_value : List (Field Ty) → Option Pair
key_and_value (key ∷ value ∷ []) =
    if bytes_eq key.name (codes "key") && bytes_eq value.name (codes "value")
    then Some (record { key = key.ty; value = value.ty }) else None
key_and_value _ = None

abbrev pub pair_in : Ty-F Ty → Option Pair
pair_in (Ty-F.Rec fields) = key_and_value fields
pair_in _ = None

-- the type of a list's members
abbrev pub member_type_in : Ty-F Ty → Option Ty
member_type_in (Ty-F.List member) = Some member
member_type_in _ = None

-- the type of the members, where it is this one
abbrev pub type_where_same : Ty → Ty → Option Ty
type_where_same wanted member = if type_eq member wanted then Some wanted else None

-- the type of what a combiner makes of a list of members of a type; none where they don't suit it
abbrev pub combined_type : Comb → Ty → Option Ty
combined_type comb.Sum member = type_where_same ty.Int member
combined_type comb.Count member = Some ty.Int
combined_type comb.Min member = Some member
combined_type comb.Max member = Some member
combined_type comb.All member = type_where_same ty.Bool member
combined_type comb.Any member = type_where_same ty.Bool member
combined_type (comb.Top n) member = Some (ty.List member)
combined_type comb.Mean member = type_where_same ty.Int member
combined_type comb.Distinct member = Some (ty.List member)

-- the numbers of operands
abbrev pub operand_numbers : List Operand → List ℕ
operand_numbers sources = map (λ source. source.number) sources

-- whether all have this type and none is an object
abbrev pub all_same : Ty → List Operand → Bool
all_same t sources = list_all (λ source. not source.is_object && type_eq t source.type) sources

-- ---- operations that have no rules of their own

abbrev pub count_making : Operand → Making
count_making source = record {
  made = made.Count source.number;
  type = table_of source.type ty.Int;
}

abbrev pub top_of : ℕ → Operand → Making
top_of number source = record { made = made.Top number source.number; type = source.type }

-- what a function emits from each member, to its outputs from one on, which have these types
abbrev pub outputs_from : ℕ → ℕ → ℕ → List Ty → List Making
outputs_from source function output [] = []
outputs_from source function output (t ∷ types) =
    record { made = made.Do source function output; type = t }
    ∷ outputs_from source function (suc output) types

-- the one collection of an operation, as the list of those that it makes
abbrev pub one_making : Checked Making → Checked (List Making)
one_making making = do
  one ← making
  Ok (one ∷ [])

-- each fault is told on this line
module _ (line : ℕ) where
  -- ---- operands

  abbrev pub operand_named : List ℕ → State → Checked Operand
  operand_named name s = or_fault line Unknown (find_node name s)

  abbrev pub callee : List ℕ → State → Checked Callee
  callee name s = or_fault line Unknown (find_function name s.functions)

  -- collections from the left, behind those so far
  abbrev pub collections_behind : List Operand → List (List ℕ) → State → Checked (List Operand)
  collections_behind found [] s = Ok found
  collections_behind found (name ∷ names) s = do
    one ← operand_named name s
    collections_behind (found ++ one ∷ []) names s

  -- how many of the greatest are asked for
  abbrev pub top_number : List ℕ → Checked ℕ
  top_number digits = or_fault line BadNumber (number_within 1 1000 digits)

  abbrev pub comb_for : Combiner → Checked Comb
  comb_for combiner.Sum = Ok comb.Sum
  comb_for combiner.Count = Ok comb.Count
  comb_for combiner.Min = Ok comb.Min
  comb_for combiner.Max = Ok comb.Max
  comb_for combiner.All = Ok comb.All
  comb_for combiner.Any = Ok comb.Any
  comb_for (combiner.Top digits) = do
    number ← top_number digits
    Ok (comb.Top number)
  comb_for combiner.Mean = Ok comb.Mean
  comb_for combiner.Distinct = Ok comb.Distinct

  -- ---- what operands are

  abbrev pub pair_of : Ty → Checked Pair
  pair_of t = or_fault line NotTable (pair_in (out-Ty t))

  abbrev pub member_of : Ty → Checked Ty
  member_of t = or_fault line NotTable (member_type_in (out-Ty t))

  -- a collection that is no object
  abbrev pub plain : Operand → Checked (Unit {0})
  plain source = unless line Mistyped (not source.is_object)

  -- the one type of some collections
  abbrev pub one_type : List Operand → Checked Ty
  one_type [] = Err (Refused line Mistyped)
  one_type (first ∷ others) = do
    same ← unless line Mistyped (all_same first.type (first ∷ others))
    Ok first.type

  -- ---- operations on them

  -- what a function emits from each member, to each of its outputs in order
  abbrev pub do_of : Operand → Callee → Checked (List Making)
  do_of source function = do
    same ← unless line Mistyped (takes_members source function.takes)
    Ok (outputs_from source.number function.number 0 function.gives)

  abbrev pub group_making : Operand → Checked Making
  group_making source = do
    pair ← pair_of source.type
    members ← plain source
    Ok (record { made = made.Group source.number; type = table_of pair.key (ty.List pair.value) })

  abbrev pub combine_of : Operand → Comb → Checked Making
  combine_of source by = do
    pair ← pair_of source.type
    member ← member_of pair.value
    members ← plain source
    value ← or_fault line Mistyped (combined_type by member)
    Ok (record { made = made.Combine source.number by; type = table_of pair.key value })

  abbrev pub flatten_of : List Operand → Checked Making
  flatten_of sources = do
    t ← one_type sources
    Ok (record { made = made.Flatten (operand_numbers sources); type = t })

  abbrev pub join_of : Operand → Operand → Checked Making
  join_of left right = do
    lefts ← pair_of left.type
    rights ← pair_of right.type
    same ← unless line Mistyped (are_plain left right && type_eq lefts.key rights.key)
    Ok (record {
      made = made.Join left.number right.number;
      type = table_of lefts.key (sides_of lefts.value rights.value);
    })

  -- ---- operations with objects

  -- what a combiner makes of all members
  abbrev pub combine_all_of : Operand → Comb → Checked Making
  combine_all_of source by = do
    members ← plain source
    value ← or_fault line Mistyped (combined_type by source.type)
    Ok (record { made = made.CombineAll source.number by; type = value })

  -- what a function emits, called on the values of objects
  abbrev pub operate_of : List Operand → Callee → Checked Making
  operate_of objects function = do
    fit ← unless line Mistyped (takes_objects objects function.takes)
    value ← or_fault line Mistyped (sole function.gives)
    Ok (record { made = made.Operate (operand_numbers objects) function.number; type = value })

  -- what a function emits from each member beside the value of an object
  abbrev pub do_with_of : Operand → Callee → Operand → Checked Making
  do_with_of source function object = do
    fit ← unless line Mistyped (takes_both source object function.takes)
    member ← or_fault line Mistyped (sole function.gives)
    Ok (record {
      made = made.DoWith source.number function.number object.number;
      type = member;
    })

  -- ---- operations as they are written

  -- what this function emits from each member of this collection
  abbrev pub done : List ℕ → List ℕ → State → Checked (List Making)
  done source function s = do
    one ← operand_named source s
    by ← callee function s
    do_of one by

  abbrev pub group_rule : List ℕ → State → Checked Making
  group_rule source s = do
    one ← operand_named source s
    group_making one

  abbrev pub combine_rule : List ℕ → Combiner → State → Checked Making
  combine_rule source combiner s = do
    one ← operand_named source s
    by ← comb_for combiner
    combine_of one by

  -- the members of these collections
  abbrev pub flattened : List (List ℕ) → State → Checked Making
  flattened names s = do
    all ← collections_behind [] names s
    flatten_of all

  abbrev pub count_rule : List ℕ → State → Checked Making
  count_rule source s = do
    one ← operand_named source s
    members ← plain one
    Ok (count_making one)

  abbrev pub join_rule : List ℕ → List ℕ → State → Checked Making
  join_rule left right s = do
    one ← operand_named left s
    other ← operand_named right s
    join_of one other

  -- so many of the greatest members
  abbrev pub top_rule : List ℕ → List ℕ → State → Checked Making
  top_rule digits source s = do
    one ← operand_named source s
    number ← top_number digits
    members ← plain one
    Ok (top_of number one)

  -- what this combiner makes of all members of this collection
  abbrev pub combine_all_rule : List ℕ → Combiner → State → Checked Making
  combine_all_rule source combiner s = do
    one ← operand_named source s
    by ← comb_for combiner
    combine_all_of one by

  -- what this function emits, called on the values of these objects
  abbrev pub operate_rule : List (List ℕ) → List ℕ → State → Checked Making
  operate_rule names function s = do
    all ← collections_behind [] names s
    by ← callee function s
    operate_of all by

  -- what this function emits from each member of this collection beside the value of this object
  abbrev pub do_with_rule : List ℕ → List ℕ → List ℕ → State → Checked Making
  do_with_rule source function object s = do
    one ← operand_named source s
    by ← callee function s
    other ← operand_named object s
    do_with_of one by other

  -- the collections that an operation makes, one for each name
  abbrev pub made_by : Operation → State → Checked (List Making)
  made_by (operation.Do source function) s = done source function s
  made_by (operation.Group source) s = one_making (group_rule source s)
  made_by (operation.Combine source combiner) s = one_making (combine_rule source combiner s)
  made_by (operation.Flatten sources) s = one_making (flattened sources s)
  made_by (operation.Count source) s = one_making (count_rule source s)
  made_by (operation.Join left right) s = one_making (join_rule left right s)
  made_by (operation.Top digits source) s = one_making (top_rule digits source s)
  made_by (operation.CombineAll source combiner) s = one_making (combine_all_rule source combiner s)
  made_by (operation.Operate objects function) s = one_making (operate_rule objects function s)
  made_by (operation.DoWith source function object) s =
      one_making (do_with_rule source function object s)
