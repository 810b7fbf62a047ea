-- What the script of the sums means over made rows: their sums, without a trap.
use Rattle.std.proofs.Common.{◌≡◌, ◌∙◌, ◌≤◌, ◌<◌, ◌+◌, ◌^◌, ℕ, zero, suc, ℤ, pos, List, [], ◌∷◌, ◌++◌, length, drop, map, Option, Some, None, refl, sym, ap, subst, arith}
use Rattle.std.specs.Prelude.{Ok, option_and_then}
use Rattle.std.specs.Option.{option_map}
use Rattle.std.specs.List.{flat_map, AllByRecursion as Each}
use Rattle.bag_groups.proofs.Grouping.{grouped-bag_of}
use Rattle.bag_groups.specs.Combining.{combined_each, traps_of_each}
use Rattle.bag_groups.specs.Groups.{grouped}
use Rattle.combine_table.specs.Combinations.{combined}
use Rattle.combine_table.specs.declared.comb.Comb.TheVariants as comb
use Rattle.direct_meaning.specs.Calls.{answer_of, answers_on}
use Rattle.direct_meaning.specs.Direct.{called_by, collections, combined_by, done_by, meaning}
use Rattle.flume_collection.specs.Calls.{Called, emissions, trap_named, trap_of}
use Rattle.flume_collection.specs.Collection.{Collection, by_key}
use Rattle.flume_collection.specs.Traps.{trap_set}
use Rattle.flume_collection.proofs.Together.{same_collection}
use Rattle.flume_value.proofs.BagLemmas.{Each-bag_of, bag_of-twice}
use Rattle.flume_value.proofs.EachLemmas.{Each-map}
use Rattle.flume_value.specs.Bag.{bag_of}
use Rattle.flume_value.specs.declared.value.Value.{Value}
use Rattle.flume_value.specs.declared.value.Value.TheVariants as value
use Rattle.made_rows.proofs.Called.{answers_row}
use Rattle.made_rows.proofs.Numbers.{total_below}
use Rattle.made_rows.proofs.Summed.{no_overflow, summed}
use Rattle.made_rows.specs.Keyed.{sums_of}
use Rattle.made_rows.specs.Means.{MeansSums}
use Rattle.made_rows.specs.Rows.{last_digit, made_numbers, made_rows, most_made, made_row, total_of_numbers}
use Rattle.made_rows.specs.Sums.{pairing, sums_nodes, sums_script}

-- ---- the calls

-- a row of a number
abbrev IsRow : Value → Type 0
IsRow x = (n : ℕ) × (x ≡ made_row n)

row_answer : (n : ℕ) → answer_of pairing (made_row n) ≡ Some (Ok ((made_row n ∷ []) ∷ []))
row_answer n = answers_row (value.Int (pos (last_digit n))) (value.Int (pos n))

abbrev own_call : Value → Called
own_call x = Ok ((x ∷ []) ∷ [])

each_answer : (x : Value) → IsRow x → answer_of pairing x ≡ Some (own_call x)
each_answer x is =
    subst (λ (y : Value). answer_of pairing y ≡ Some (own_call y)) (sym is.1) (row_answer is.0)

all_answers : (xs : List Value) → Each IsRow xs
    → answers_on (answer_of pairing) xs ≡ Some (map own_call xs)
all_answers [] are = refl
all_answers (x ∷ xs) are =
    rw (each_answer x are.0) (rw (all_answers xs are.1) refl)

all_emitted : (xs : List Value) → flat_map (emissions 0) (map own_call xs) ≡ xs
all_emitted [] = refl
all_emitted (x ∷ xs) = ap (λ r. x ∷ r) (all_emitted xs)

none_trap : (xs : List Value) → flat_map (trap_of 1) (map own_call xs) ≡ []
none_trap [] = refl
none_trap (x ∷ xs) = none_trap xs

are_rows : (numbers : List ℕ) → Each IsRow (map made_row numbers)
are_rows [] = tt
are_rows (n ∷ numbers) = ((n, refl), are_rows numbers)

-- ---- the collections

abbrev calm : List Value → Collection
calm bag = record { bag = bag; traps = [] }

module _ (numbers : List ℕ) (small : total_of_numbers numbers < 2 ^ 63) where
  abbrev rows : List Value
  rows = map made_row numbers

  abbrev bag : List Value
  bag = bag_of rows

  paired : done_by 1 0 pairing (calm bag) ≡ Some (calm bag)
  paired =
      let are : Each IsRow bag = Each-bag_of IsRow rows (are_rows numbers) in
      ap (option_map (called_by 1 0 [])) (all_answers bag are)
      ∙ ap (λ (c : Collection). Some c)
      (same_collection _ _ _ _ (ap bag_of (all_emitted bag) ∙ bag_of-twice rows)
      (ap trap_set (none_trap bag)))

  abbrev groups : Collection
  groups = by_key (calm bag)

  sums : combined_by 3 comb.Sum groups ≡ calm (sums_of numbers)
  sums =
      same_collection _ _ _ _
      (ap (combined_each (combined comb.Sum)) (grouped-bag_of rows) ∙ summed numbers small)
      (ap (λ ts. trap_set (map (trap_named 3) ts))
      (ap (traps_of_each (combined comb.Sum)) (grouped-bag_of rows) ∙ no_overflow numbers small))

  abbrev table_with : Collection → List (Option Collection)
  table_with last = Some (calm bag) ∷ Some (calm bag) ∷ Some groups ∷ Some last ∷ []

  -- what the nodes behind the pairs make
  abbrev behind : Option Collection → Option (List (Option Collection))
  behind pairs =
      option_and_then
      (λ c. collections sums_script (drop 2 sums_nodes) []
      (Some (calm bag) ∷ Some c ∷ [])) pairs

  meant : meaning sums_script (rows ∷ []) ≡ Some (table_with (calm (sums_of numbers)))
  meant = ap behind paired ∙ ap (λ c. Some (table_with c)) sums

-- ---- of a made input

pub means_sums : (start rows : ℕ) → start ≤ most_made → rows ≤ most_made
    → MeansSums start rows
means_sums start rows first few =
    let numbers = made_numbers start rows in
    let small : total_of_numbers numbers < 2 ^ 63
    = omega (arith, total_below (suc start) rows (omega (arith, first, few)), few) in
    record {
      table = table_with numbers small (calm (sums_of numbers));
      means = meant numbers small;
      through = refl;
      sums = refl;
    }
