-- What is made of the same collections is the same, whatever the lists of sources are.
use Rattle.std.proofs.Common.{◌≡◌, ℕ, ◌-◌, Bool, List, [], ◌∷◌, Option, refl, ap}
use Rattle.std.specs.List.{Contains}
use Rattle.std.specs.Option.{option_and_then, option_map}
use Rattle.flume_collection.proofs.Members.{at_head, at_tail}
use Rattle.flume_collection.specs.Collection.{Collection, by_key, together}
use Rattle.flume_value.specs.declared.value.Value.{Value}
use Rattle.flume_types.specs.declared.column.Column.{Column}
use Rattle.flume_types.specs.declared.types.Ty.{Ty}
use Rattle.script_program.specs.declared.made.Emitted.{Emitted}
use Rattle.script_program.specs.declared.made.Made.{Made}
use Rattle.script_program.specs.declared.made.Made.TheVariants as made
use Rattle.script_program.specs.Needed.{operands}
use Rattle.script_program.specs.Saved.{with_saved}
use Rattle.script_program.specs.Script.{Script}
use Rattle.direct_meaning.specs.of_script_laws.WellFormed.{function_at}
use Rattle.direct_meaning.specs.Calls.{answer_of}
use Rattle.direct_meaning.specs.Direct.{all_made, combined_by, counted_by, done_by, inputs_behind}
use Rattle.direct_meaning.specs.Direct.{joined_collections, made_as, made_at, top_by}
use Rattle.direct_meaning.specs.Inputs.{sourced_by}
use Rattle.direct_meaning.specs.Objects.{combined_whole, done_beside, operated_by}
use Rattle.saved_meaning.specs.Found.{members_kept, needed_too}
use Rattle.script_program.specs.Sources.{source_kind}

-- it is made of other collections alone
abbrev pub IsMadeOfOthers : Made → Type 0
IsMadeOfOthers (made.Input file columns) = ⊥
IsMadeOfOthers (made.Saved is_object call) = ⊥
IsMadeOfOthers _ = Unit {0}

module _ (here there : List (Option Collection)) where
  all_same : (numbers : List ℕ)
      → ((n : ℕ) → Contains numbers n → made_at there n ≡ made_at here n)
      → all_made there numbers ≡ all_made here numbers
  all_same [] same = refl
  all_same (number ∷ numbers) same =
      let first = same number (at_head number numbers) in
      let rest = all_same numbers (λ n is. same n (at_tail number numbers n is)) in
      λ i. option_and_then (λ c. option_map (λ cs. c ∷ cs) (rest i)) (first i)

  pub same_made : (script : Script) (found : List ℕ) (number : ℕ) (how : Made)
      (rows lists : List (List Value)) → IsMadeOfOthers how
      → ((n : ℕ) → Contains (operands how) n → made_at there n ≡ made_at here n)
      → made_as (with_saved found script) number how lists there
      ≡ made_as script number how rows here
  same_made script found number (made.Input file columns) rows lists others same = absurd others
  same_made script found number (made.Do source called output) rows lists others same =
      let first = same source (at_head source []) in
      λ i. option_and_then
      (λ function. option_and_then (done_by (number - output) output function) (first i))
      (function_at script.functions called)
  same_made script found number (made.Group source) rows lists others same =
      ap (option_map by_key) (same source (at_head source []))
  same_made script found number (made.Combine source by) rows lists others same =
      ap (option_map (combined_by number by)) (same source (at_head source []))
  same_made script found number (made.Flatten sources) rows lists others same =
      ap (option_map together) (all_same sources same)
  same_made script found number (made.Count source) rows lists others same =
      ap (option_map (counted_by number)) (same source (at_head source []))
  same_made script found number (made.Join left right_) rows lists others same =
      let first = same left (at_head left (right_ ∷ [])) in
      let second =
      same right_ (at_tail left (right_ ∷ []) right_ (at_head right_ [])) in
      λ i. option_and_then (λ a. option_map (joined_collections a) (second i)) (first i)
  same_made script found number (made.Top many source) rows lists others same =
      ap (option_map (top_by many)) (same source (at_head source []))
  same_made script found number (made.CombineAll source by) rows lists others same =
      ap (option_map (combined_whole number by)) (same source (at_head source []))
  same_made script found number (made.Operate objects called) rows lists others same =
      let all = all_same objects same in
      λ i. option_and_then
      (λ function. option_and_then (operated_by number (answer_of function)) (all i))
      (function_at script.functions called)
  same_made script found number (made.DoWith source called object) rows lists others same =
      let first = same source (at_head source (object ∷ [])) in
      let second =
      same object (at_tail source (object ∷ []) object (at_head object [])) in
      λ i. option_and_then
      (λ function.
      option_and_then (λ c. option_and_then (done_beside number (answer_of function) c) (second i))
      (first i))
      (function_at script.functions called)
  same_made script found number (made.Saved is_object call) rows lists others same =
      absurd others

-- ---- it takes no list of a source

-- no source of its own
pub record IsNoSource (how : Made) : Type 0 where
  pub others : IsMadeOfOthers how
  pub behind : (rows : List (List Value)) → inputs_behind how rows ≡ rows
  pub kind : source_kind how ≡ []
  pub too : (later : Script) (n : ℕ) → needed_too later n how ≡ []
  pub kept : (table : List (Option Collection)) (n : ℕ) → members_kept table n how ≡ []
  pub sourced : (type : Ty) → sourced_by how type ≡ []

-- an input, what is kept, or made of others alone
pub data Kind : Made → Type 0 where
  input : (file : List ℕ) (columns : List Column) → Kind (made.Input file columns)
  saved : (is_object : Bool) (call : Option Emitted) → Kind (made.Saved is_object call)
  other : (how : Made) → IsNoSource how → Kind how

pub no_source : (how : Made) → IsMadeOfOthers how → IsNoSource how
no_source (made.Input file columns) others = absurd others
no_source (made.Saved is_object call) others = absurd others
no_source _ others = record {
  others = others;
  behind = λ rows. refl;
  kind = refl;
  too = λ later n. refl;
  kept = λ table n. refl;
  sourced = λ type. refl;
}

pub kind_of : (how : Made) → Kind how
kind_of (made.Input file columns) = input file columns
kind_of (made.Saved is_object call) = saved is_object call
kind_of how = other _ (no_source how tt)
