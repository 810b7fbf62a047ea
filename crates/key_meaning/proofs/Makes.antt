-- Collections that are made alike are alike.
use Rattle.std.proofs.Common.{◌≡◌, ℕ, ◌-◌, List, [], ◌∷◌, Option, option_and_then, refl, sym, ap, subst}
use Rattle.std.specs.List.{AllZip}
use Rattle.std.specs.Option.{option_map}
use Rattle.combine_table.specs.Combinations.{combined}
use Rattle.flume_value.specs.declared.value.Value.{Value}
use Rattle.flume_types.specs.declared.column.Column.{Column}
use Rattle.flume_collection.specs.Collection.{Collection, by_key, together}
use Rattle.script_program.specs.declared.made.Made.{Made}
use Rattle.script_program.specs.declared.made.Made.TheVariants as made
use Rattle.script_program.specs.Needed.{operands}
use Rattle.script_program.specs.Script.{Function, Script}
use Rattle.direct_meaning.specs.of_script_laws.WellFormed.{function_at}
use Rattle.direct_meaning.specs.Calls.{answer_of}
use Rattle.direct_meaning.specs.Direct.{all_made, combined_by, counted_by, done_at, done_beside_at, done_by, joined_collections, made_as, made_at, operated_at, top_by}
use Rattle.direct_meaning.specs.Objects.{combined_whole, done_beside, operated_by}
use Rattle.key_meaning.proofs.Alike.{MadeAlike, Paired, Pairs, SameCallee, SameFunction, combine, count, do_, do_with, flatten, group, input, join, operate, place_of, top, whole}
use Rattle.key_meaning.proofs.Ways.{CollectionAlike, ListsAlike, OptionAlike, Table, beside_alike, by_one, combined_alike, counts_alike, done_alike, if_any, joined_alike, key_alike, none_or_both, operated_alike, together_alike, top_alike, wholes_alike}

module _ (pairs : Pairs) where
  -- ---- several

  module _ (here there : Table) where
    abbrev pub AlikeAt : ℕ → ℕ → Type 0
    AlikeAt a b = OptionAlike pairs (made_at here a) (made_at there b)

    all_alike : (xs ys : List ℕ) → AllZip AlikeAt xs ys
        → ListsAlike pairs (all_made here xs) (all_made there ys)
    all_alike [] [] zipped = tt
    all_alike [] (y ∷ ys) zipped = absurd zipped
    all_alike (x ∷ xs) [] zipped = absurd zipped
    all_alike (x ∷ xs) (y ∷ ys) zipped =
        none_or_both (CollectionAlike pairs)
        (λ o p. ListsAlike pairs
        (option_and_then (λ c. option_map (λ cs. c ∷ cs) (all_made here xs)) o)
        (option_and_then (λ d. option_map (λ ds. d ∷ ds) (all_made there ys)) p))
        tt
        (λ c d first. none_or_both (AllZip (CollectionAlike pairs))
        (λ os ps. ListsAlike pairs (option_map (λ cs. c ∷ cs) os) (option_map (λ ds. d ∷ ds) ps))
        tt (λ cs ds rest. (first, rest)) (all_made here xs) (all_made there ys)
        (all_alike xs ys zipped.1))
        (made_at here x) (made_at there y) zipped.0

    -- ---- by the ways in which they are made

    module _ (SameFile : List ℕ → Type 0) (one other : Script) (a b : ℕ)
        (left left_ : List (List Value)) where
      -- by functions that are the same
      by_functions : (called again : ℕ)
          → SameCallee one.functions other.functions called again
          → (f g : Function → Option Collection)
          → ((x y : Function) → SameFunction x y → OptionAlike pairs (f x) (g y))
          → OptionAlike pairs (option_and_then f (function_at one.functions called))
          (option_and_then g (function_at other.functions again))
      by_functions called again same f g each =
          subst (λ o. OptionAlike pairs o (option_and_then g (function_at other.functions again)))
          (sym (ap (option_and_then f) same.calls))
          (subst (OptionAlike pairs (f same.function))
          (sym (ap (option_and_then g) same.calls_other))
          (each same.function same.other same.same))

      pub makes_alike : {how again : Made}
          → MadeAlike SameFile pairs one.functions other.functions how again
          → ((file : List ℕ) (columns : List Column) → how ≡ made.Input file columns
          → again ≡ made.Input file columns → SameFile file
          → OptionAlike pairs (made_as one a (made.Input file columns) left here)
          (made_as other b (made.Input file columns) left_ there))
          → Paired pairs (a - place_of how) (b - place_of again)
          → Paired pairs a b → AllZip AlikeAt (operands how) (operands again)
          → OptionAlike pairs (made_as one a how left here) (made_as other b again left_ there)
      makes_alike (input {file} {columns} same) inputs first own reads =
          inputs file columns refl refl same
      makes_alike (do_ {a = x} {b = y} {f} {g} {output} is by) inputs first own reads =
          by_functions f g by
          (λ function. done_at (a - output) output function x here)
          (λ function. done_at (b - output) output function y there)
          (λ p q same. if_any pairs (done_by (a - output) output p) (done_by (b - output) output q)
          (done_alike pairs (a - output) (b - output) first output p q same) (made_at here x)
          (made_at there y) reads.0)
      makes_alike (group {a = x} {b = y} is) inputs first own reads =
          by_one pairs by_key by_key (key_alike pairs) (made_at here x) (made_at there y) reads.0
      makes_alike (combine {a = x} {b = y} {by} is) inputs first own reads =
          by_one pairs (combined_by a by) (combined_by b by) (combined_alike pairs a b own by)
          (made_at here x) (made_at there y) reads.0
      makes_alike (flatten {sources} {more} is) inputs first own reads =
          none_or_both (AllZip (CollectionAlike pairs))
          (λ os ps. OptionAlike pairs (option_map together os) (option_map together ps)) tt
          (together_alike pairs) (all_made here sources) (all_made there more)
          (all_alike sources more reads)
      makes_alike (count {a = x} {b = y} is) inputs first own reads =
          by_one pairs (counted_by a) (counted_by b)
          (λ c d alike. counts_alike pairs a b own c.traps d.traps alike.traps c.bag d.bag
          alike.bag)
          (made_at here x) (made_at there y) reads.0
      makes_alike (join {a = x} {b = y} {c = v} {d = w} is also) inputs first own reads =
          if_any pairs (λ c. option_map (joined_collections c) (made_at here v))
          (λ c. option_map (joined_collections c) (made_at there w))
          (λ c d alike. by_one pairs (joined_collections c) (joined_collections d)
          (λ e f beside. joined_alike pairs c d e f alike beside) (made_at here v) (made_at there w)
          reads.1.0)
          (made_at here x) (made_at there y) reads.0
      makes_alike (top {many} {a = x} {b = y} is) inputs first own reads =
          by_one pairs (top_by many) (top_by many) (top_alike pairs many) (made_at here x)
          (made_at there y)
          reads.0
      makes_alike (whole {a = x} {b = y} {by} is) inputs first own reads =
          by_one pairs (combined_whole a by) (combined_whole b by)
          (λ c d alike. wholes_alike pairs a b own c.traps d.traps alike.traps (combined by c.bag)
          (combined by d.bag) (ap (combined by) alike.bag))
          (made_at here x) (made_at there y) reads.0
      makes_alike (operate {objects} {more} {f} {g} is by) inputs first own reads =
          by_functions f g by
          (λ function. operated_at a function objects here)
          (λ function. operated_at b function more there)
          (λ p q same. none_or_both (AllZip (CollectionAlike pairs))
          (λ os ps. OptionAlike pairs (option_and_then (operated_by a (answer_of p)) os)
          (option_and_then (operated_by b (answer_of q)) ps))
          tt (operated_alike pairs a b own p q same) (all_made here objects)
          (all_made there more) (all_alike objects more reads))
      makes_alike (do_with {a = x} {b = y} {f} {g} {c = v} {d = w} is by also) inputs first own
          reads =
          by_functions f g by
          (λ function. done_beside_at a function x v here)
          (λ function. done_beside_at b function y w there)
          (λ p q same. if_any pairs
          (λ c. option_and_then (done_beside a (answer_of p) c) (made_at here v))
          (λ c. option_and_then (done_beside b (answer_of q) c) (made_at there w))
          (λ c d alike. if_any pairs (done_beside a (answer_of p) c) (done_beside b (answer_of q) d)
          (λ e h beside. beside_alike pairs a b own p q same c d e h alike beside) (made_at here v)
          (made_at there w) reads.1.0)
          (made_at here x) (made_at there y) reads.0)
