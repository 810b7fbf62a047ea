-- What an output of a call is made of.
use Rattle.std.proofs.Common.{◌≡◌, ℕ, List, Option, Some}
use Rattle.std.specs.Option.{option_and_then}
use Rattle.flume_collection.specs.Calls.{Called}
use Rattle.flume_collection.specs.Collection.{Collection}
use Rattle.script_program.specs.Script.{Function, Script}
use Rattle.script_laws.specs.WellFormed.{function_at}
use Rattle.direct_meaning.proofs.PlaceLemmas.{found_then, mapped}
use Rattle.direct_meaning.specs.Calls.{answer_of, called_by, answers_on}
use Rattle.direct_meaning.specs.Direct.{done_at, done_by, made_at}

pub record HasDone (script : Script) (table : List (Option Collection))
    (origin source called output : ℕ) (c : Collection) : Type 0 where
  pub function : Function
  pub at : function_at script.functions called ≡ Some function
  pub from : Collection
  pub read : made_at table source ≡ Some from
  pub calls : List Called
  pub all : answers_on (answer_of function) from.bag ≡ Some calls
  pub is : called_by origin output from.traps calls ≡ c

pub has_done : (script : Script) (table : List (Option Collection))
    (origin source called output : ℕ) (c : Collection)
    → option_and_then (λ function. done_at origin output function source table)
    (function_at script.functions called) ≡ Some c
    → HasDone script table origin source called output c
has_done script table origin source called output c is =
    let (function, at, done) =
    found_then (λ function. done_at origin output function source table)
    (function_at script.functions called) c is in
    let (from, read, left) =
    found_then (done_by origin output function) (made_at table source) c done in
    let (calls, all, same) =
    mapped (called_by origin output from.traps) (answers_on (answer_of function) from.bag) c left in
    record {
      function = function;
      at = at;
      from = from;
      read = read;
      calls = calls;
      all = all;
      is = same;
    }
