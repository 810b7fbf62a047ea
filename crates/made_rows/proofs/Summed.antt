-- The groups of made rows, summed: the sum of the numbers of each key, and no trap.
use Rattle.std.proofs.Common.{◌≡◌, ◌∙◌, ◌≤◌, ◌<◌, ◌+◌, ◌^◌, ◌++◌, Bool, true, false, cond, ℕ, zero, suc, ℤ, pos, ◌+ℤ◌, List, [], ◌∷◌, length, map, Some, refl, sym, ap, subst, arith}
use Rattle.std.specs.Prelude.{Err, Ok, Result, filter, if◌then◌else◌, nat_lt}
use Rattle.std.specs.Int.{w128}
use Rattle.std.specs.List.{cons_option, flat_map}
use Rattle.std.specs.Option.{option_map}
use Rattle.std.proofs.lemmas.Int.{int_wrap_fits}
use Rattle.std.proofs.lemmas.List.Sums.{sum_by-cons}
use Rattle.bag_groups.proofs.CombiningLemmas.{group_by}
use Rattle.bag_groups.proofs.PairLemmas.{key_of-pair, parts_of-pair}
use Rattle.bag_groups.specs.Combining.{combined_each, combined_pair, group_of, groups_in, trapped_key, traps_of_each}
use Rattle.bag_groups.specs.Groups.{grouped, grouped_pairs, keys_of, values_of}
use Rattle.bag_groups.specs.Pairs.{pair, pairs_of}
use Rattle.combine_table.proofs.Parts.{int_or_zero-Int}
use Rattle.combine_table.proofs.Totals.{total-bag_of}
use Rattle.combine_table.specs.Combinations.{combined, int_total, wrapped}
use Rattle.combine_table.specs.declared.comb.Comb.TheVariants as comb
use Rattle.flume_value.specs.Bag.{bag_of}
use Rattle.flume_value.specs.Equality.{value_eq}
use Rattle.flume_value.specs.Parts.{list_layer}
use Rattle.flume_value.specs.declared.fault.Kind.{Kind}
use Rattle.flume_value.specs.declared.value.Value.{Value}
use Rattle.flume_value.specs.declared.value.Value.TheVariants as value
use Rattle.int_text.proofs.IntFacts.{lt-to}
use Rattle.made_rows.specs.Keyed.{sum_of_key, sums_of, under_key}
use Rattle.made_rows.specs.Rows.{last_digit, made_row, total_of_numbers}

-- ---- the pairs of the rows

rows_pairs : (numbers : List ℕ) → pairs_of (map made_row numbers) ≡ map under_key numbers
rows_pairs [] = refl
rows_pairs (n ∷ numbers) =
    λ i. cons_option (parts_of-pair (value.Int (pos (last_digit n))) (value.Int (pos n)) i)
    (rows_pairs numbers i)

-- ---- the sum of a key

abbrev numbers_under : Value → List ℕ → List Value
numbers_under key numbers =
    map (λ p. p.1) (filter (λ p. value_eq p.0 key) (map under_key numbers))

chosen : (test : Bool) (n : ℕ) (sum : ℕ) (rest : List (Value × Value))
    → int_total (map (λ p. p.1) rest) ≡ pos sum
    → int_total (map (λ p. p.1) (cond test (under_key n ∷ rest) rest))
    ≡ pos (if test then n + sum else sum)
chosen true n sum rest is =
    ap (λ z. z +ℤ int_total (map (λ p. p.1) rest)) (int_or_zero-Int (pos n))
    ∙ ap (λ z. pos n +ℤ z) is
chosen false n sum rest is = is

under_total : (key : Value) (numbers : List ℕ)
    → int_total (numbers_under key numbers) ≡ pos (sum_of_key key numbers)
under_total key [] = refl
under_total key (n ∷ numbers) =
    chosen (value_eq (value.Int (pos (last_digit n))) key) n (sum_of_key key numbers)
    (filter (λ p. value_eq p.0 key) (map under_key numbers)) (under_total key numbers)

picked : (test : Bool) (n sum all : ℕ) → sum ≤ all → (if test then n + sum else sum) ≤ n + all
picked true n sum all below = omega arith
picked false n sum all below = omega arith

sum_below : (key : Value) (numbers : List ℕ) → sum_of_key key numbers ≤ total_of_numbers numbers
sum_below key [] = omega arith
sum_below key (n ∷ numbers) =
    let cons = sum_by-cons (λ (x : ℕ). x) n numbers in
    subst (λ (m : ℕ). sum_of_key key (n ∷ numbers) ≤ m) (sym cons)
    (picked (value_eq (value.Int (pos (last_digit n))) key) n (sum_of_key key numbers)
    (total_of_numbers numbers) (sum_below key numbers))

fits_wide : (n : ℕ) → n < 2 ^ 63 → wrapped (pos n) ≡ pos n
fits_wide n small = int_wrap_fits w128 (pos n) (grind (arith, small))

module _ (numbers : List ℕ) (small : total_of_numbers numbers < 2 ^ 63) where
  -- the combination of the numbers of a key is their sum
  key_combined : (key : Value)
      → combined comb.Sum (bag_of (values_of key (map under_key numbers)))
      ≡ Ok (value.Int (pos (sum_of_key key numbers)))
  key_combined key =
      let sum = sum_of_key key numbers in
      let below : sum < 2 ^ 63 = omega (arith, small, sum_below key numbers) in
      let whole : int_total (bag_of (values_of key (map under_key numbers))) ≡ pos sum
      = total-bag_of (values_of key (map under_key numbers))
      ∙ (total-bag_of (numbers_under key numbers) ∙ under_total key numbers) in
      rw (whole, fits_wide sum below, lt-to sum (2 ^ 63) below) refl

  -- ---- all groups

  abbrev group_at : Value → Value
  group_at key = pair key (value.List (values_of key (map under_key numbers)))

  abbrev sum_at : Value → Value
  sum_at key = pair key (value.Int (pos (sum_of_key key numbers)))

  group_parts : (key : Value)
      → group_of (group_at key) ≡ Some (key, values_of key (map under_key numbers))
  group_parts key =
      let list = values_of key (map under_key numbers) in
      group_by (group_at key) key (value.List list) (Some list) (key_of-pair key (value.List list))
      (ap (option_map (λ parts. parts.1)) (parts_of-pair key (value.List list)))
      (ap list_layer (value.outs-List list))

  abbrev given : Value × List Value → List Value
  given group = combined_pair group.0 (combined comb.Sum (bag_of group.1))

  abbrev trapped : Value × List Value → List (Kind × Value)
  trapped group = trapped_key group.0 (combined comb.Sum (bag_of group.1))

  all_given : (keys : List Value)
      → flat_map given (groups_in (map group_at keys)) ≡ map sum_at keys
  all_given [] = refl
  all_given (key ∷ keys) =
      ap (λ o. flat_map given (cons_option o (groups_in (map group_at keys)))) (group_parts key)
      ∙ ap (λ r. combined_pair key r ++ flat_map given (groups_in (map group_at keys)))
      (key_combined key)
      ∙ ap (λ rest. sum_at key ∷ rest) (all_given keys)

  none_trapped : (keys : List Value)
      → flat_map trapped (groups_in (map group_at keys)) ≡ []
  none_trapped [] = refl
  none_trapped (key ∷ keys) =
      ap (λ o. flat_map trapped (cons_option o (groups_in (map group_at keys)))) (group_parts key)
      ∙ ap (λ r. trapped_key key r ++ flat_map trapped (groups_in (map group_at keys)))
      (key_combined key)
      ∙ none_trapped keys

  groups_are : grouped (map made_row numbers) ≡ map group_at (keys_of (map under_key numbers))
  groups_are = ap grouped_pairs (rows_pairs numbers)

  pub summed : combined_each (combined comb.Sum) (grouped (map made_row numbers)) ≡ sums_of numbers
  summed =
      ap (combined_each (combined comb.Sum)) groups_are
      ∙ ap bag_of (all_given (keys_of (map under_key numbers)))

  pub no_overflow : traps_of_each (combined comb.Sum) (grouped (map made_row numbers)) ≡ []
  no_overflow =
      ap (traps_of_each (combined comb.Sum)) groups_are
      ∙ none_trapped (keys_of (map under_key numbers))
