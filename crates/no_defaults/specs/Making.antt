-- What the equation of a collection of a script reads.
use Rattle.std.specs.Prelude.{◌≡◌, ◌<◌, ◌≤◌, ℕ, ◌-◌, IfSome, IsSomeAnd, IsTrue, List, Option, Some, length, slice_get}
use Rattle.std.specs.List.{All, AllByRecursion as Each}
use Rattle.flume_value.specs.declared.value.Value.{Value}
use Rattle.flume_types.specs.Cells.{are_filled, cells_of}
use Rattle.bag_groups.specs.Pairs.{IsPair, pair}
use Rattle.combine_table.specs.Combinations.{Suits}
use Rattle.keyed_steps.specs.Keyed.{IsGroup}
use Rattle.flume_collection.specs.Collection.{Collection}
use Rattle.script_program.specs.Needed.{made_of}
use Rattle.script_program.specs.Script.{Function, Script}
use Rattle.script_program.specs.declared.made.Made.{Made}
use Rattle.script_program.specs.declared.made.Made.TheVariants as made
use Rattle.script_program.specs.declared.made.Output.{Output}
use Rattle.script_laws.specs.WellFormed.{IsNameOf, function_at}
use Rattle.bag_laws.specs.of_direct_meaning.Calls.{answer_of}
use Rattle.bag_laws.specs.of_direct_meaning.Direct.{all_made, made_at}
use Rattle.bag_laws.specs.of_direct_meaning.Objects.{IsObject, argument_of, value_of, object_values}
use Rattle.no_defaults.specs.Readings.{HasOutput}

-- the members of the collection of that number are so, where it is made
abbrev pub MembersAre : List (Option Collection) → (Value → Type 0) → ℕ → Type 0
MembersAre table P number = IfSome (made_at table number) (λ c. All P c.bag)

-- a call of the function has an answer, with a list for that output where it does not trap
abbrev pub AnswersTo : Function → ℕ → Value → Type 0
AnswersTo function output member = IsSomeAnd (answer_of function member) (HasOutput output)

-- The collection of that number is an output of a call: the function answers on each member, and
-- its first output is the collection that stands that many before, or was where an earlier run has
-- kept that.
pub record IsCalled (script : Script) (table : List (Option Collection))
    (number source called output : ℕ) : Type 0 where
  pub function : Function
  pub calls : function_at script.functions called ≡ Some function
  pub answers : MembersAre table (AnswersTo function output) source
  pub behind : output ≤ number
  pub first : IsSomeAnd (slice_get (made_of script) (number - output)) (IsNameOf source called 0)

-- the collection of that number is an object, where it is made
abbrev pub ObjectIs : List (Option Collection) → ℕ → Type 0
ObjectIs table number = IfSome (made_at table number) IsObject

-- What a function makes of the values of objects: there is one at least, each is an object, and
-- where all have a value the function answers on these.
pub record AnswersOperate (script : Script) (table : List (Option Collection)) (objects : List ℕ)
    (called : ℕ) : Type 0 where
  pub some : 0 < length objects
  pub are_objects : Each (ObjectIs table) objects
  pub function : Function
  pub calls : function_at script.functions called ≡ Some function
  pub answers : (cs : List Collection) (values : List Value) → all_made table objects ≡ Some cs
      → object_values cs ≡ Some values → AnswersTo function 0 (argument_of values)

-- What a function makes of each member beside the value of an object: that is one, and where it has
-- a value the function answers on each member beside it.
pub record AnswersBeside (script : Script) (table : List (Option Collection))
    (source called object : ℕ) : Type 0 where
  pub is_object : ObjectIs table object
  pub function : Function
  pub calls : function_at script.functions called ≡ Some function
  pub answers : (c : Collection) (v : Value) → made_at table object ≡ Some c
      → value_of c ≡ Some v → MembersAre table (λ x. AnswersTo function 0 (pair x v)) source

-- all that the equation of the collection of that number reads is there
abbrev pub HasAll : Script → List (Option Collection) → ℕ → Made → Type 0
HasAll script table number (made.Do source called output) =
    IsCalled script table number source called output
HasAll script table number (made.Group source) = MembersAre table IsPair source
HasAll script table number (made.Combine source comb) = MembersAre table (IsGroup comb) source
HasAll script table number (made.Join left right) =
    MembersAre table IsPair left × MembersAre table IsPair right
HasAll script table number (made.CombineAll source comb) = MembersAre table (Suits comb) source
HasAll script table number (made.Operate objects called) =
    AnswersOperate script table objects called
HasAll script table number (made.DoWith source called object) =
    AnswersBeside script table source called object
HasAll script table number _ = Unit {0}

-- the cells of each member that an output writes are those of its columns
abbrev pub HasCells : List (Option Collection) → Output → Type 0
HasCells table output =
    MembersAre table (λ member. IsTrue (are_filled output.columns (cells_of member))) output.reads
