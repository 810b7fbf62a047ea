-- How often values are in an ascending bag, run by run.
use Rattle.std.proofs.Common.{◌≡◌, ◌<◌, ◌≤◌, ◌+◌, ◌^◌, ℕ, zero, suc, Some, pos, List, [], ◌∷◌, ◌++◌, get_or, length, take, drop, refl, sym, ap, ◌∙◌, subst, add-zero, arith, if◌then◌else◌, length-drop}
use Rattle.std.specs.Int.{cast_signed, w64, w128}
use Rattle.std.specs.Prelude.{Result, Ok, Err, slice_get}
use Rattle.std.specs.List.{AllByRecursion as Each, flat_map}
use Rattle.std.specs.List.Sorted.{IsSorted}
use Rattle.std.proofs.lemmas.Bool.{lt-ltb}
use Rattle.std.proofs.lemmas.Int.{int_wrap_fits, to_z_pos}
use Rattle.std.proofs.lemmas.List.{drop-drop, get_or-drop, length-take-le, take-append-drop}
use Rattle.flume_value.specs.declared.fault.Kind.{Kind}
use Rattle.flume_value.specs.declared.fault.Kind.TheVariants.{Overflow}
use Rattle.flume_value.specs.declared.value.Value.{Value}
use Rattle.flume_value.specs.declared.value.Value.TheVariants as value
use Rattle.flume_value.specs.Order.{value_cmp}
use Rattle.flume_value.specs.Bag.{bag_of, times}
use Rattle.flume_value.proofs.EachLemmas.{each_from, Each-drop, Each-weaker}
use Rattle.flume_value.proofs.RisesLemmas.{Rises-drop}
use Rattle.flume_value.proofs.BagLemmas.{NotBelow, Rises, Each-bag_of, rises_from}
use Rattle.keyed_steps.specs.of_bag_groups.Pairs.{pair}
use Rattle.keyed_steps.specs.of_bag_groups.Groups.{distinct}
use Rattle.keyed_steps.specs.of_bag_groups.Combining.{combined_pair, trapped_key}
use Rattle.keyed_steps.proofs.of_bag_groups.MemberLemmas.{Each-distinct}
use Rattle.keyed_steps.specs.of_combine_table.Combinations.{int_or_overflow, wrapped}
use Rattle.bag_steps.specs.Counts.{counted, counted_traps, count_of_value}
use Rattle.bag_steps.specs.inner.Runs.{IsRun}
use Rattle.bag_steps.proofs.GroupSteps.{one_more}
use Rattle.bag_steps.proofs.RunLemmas.{AreAll, AreFrom, AreOther, NotBelow-same, all_from, distinct_bag-ahead, others_from, slice_get-drop, times-le, times-rest, times-run}

-- ---- a run and its count

flat_map-each : {A B : Type 0} (f g : A → List B) (xs : List A) → Each (λ x. f x ≡ g x) xs
    → flat_map f xs ≡ flat_map g xs
flat_map-each f g [] e = refl
flat_map-each f g (x ∷ xs) e = λ i. e.0 i ++ flat_map-each f g xs e.1 i

abbrev number : ℕ → Result Value Kind
number n = int_or_overflow (wrapped (pos n))

counted-begin : (k : Value) (run rest : List Value) → AreAll k run → AreFrom k rest
    → AreOther k rest → 0 < length run
    → counted (run ++ rest) ≡ combined_pair k (number (length run)) ++ counted rest
counted-begin k run rest same above other some =
    let F : Value → List Value = λ v. combined_pair v (count_of_value (run ++ rest) v) in
    let G : Value → List Value = λ v. combined_pair v (count_of_value rest v) in
    ap (flat_map F) (distinct_bag-ahead k run rest same above other some)
    ∙ (λ i. combined_pair k (number (times-run k run rest same other i))
    ++ flat_map F (distinct (bag_of rest)))
    ∙ ap (λ l. combined_pair k (number (length run)) ++ l)
    (flat_map-each F G (distinct (bag_of rest))
    (Each-distinct (λ v. F v ≡ G v) (bag_of rest)
    (Each-bag_of (λ v. F v ≡ G v) rest
    (Each-weaker (λ v. v ≡ k → ⊥) (λ v. F v ≡ G v)
    (λ v h. ap (λ n. combined_pair v (number n)) (times-rest k run rest v same h)) rest other))))

-- ---- counts are ints

number-is : (n : ℕ) → n < 2 ^ 63 → number n ≡ Ok (value.Int (pos n))
number-is n small =
    ap int_or_overflow (int_wrap_fits w128 (pos n) (record { sfits = omega arith }))
    ∙ ap (λ b. if b then Ok (value.Int (pos n)) else Err Overflow) (lt-ltb n (2 ^ 63) small)

none_trapped : (vs xs : List Value) → length xs < 2 ^ 63
    → flat_map (λ v. trapped_key v (count_of_value xs v)) vs ≡ []
none_trapped [] xs small = refl
none_trapped (v ∷ vs) xs small =
    let h : times xs v < 2 ^ 63 = omega (arith, times-le v xs) in
    (λ i. trapped_key v (number-is (times xs v) h i)
    ++ flat_map (λ w. trapped_key w (count_of_value xs w)) vs)
    ∙ none_trapped vs xs small

pub no_traps : (xs : List Value) → length xs < 2 ^ 63 → counted_traps xs ≡ []
no_traps xs small = none_trapped (distinct (bag_of xs)) xs small

-- ---- a run ahead of an ascending bag

first_is : (rest : List Value) (k v : Value) → k ≡ get_or rest 0 k → slice_get rest 0 ≡ Some v
    → v ≡ k
first_is [] k v at e = cc e
first_is (y ∷ ys) k v at e = let same : y ≡ v = cc in sym same ∙ sym at

run_some : (rest : List Value) (k : Value) (n : ℕ) → 0 < length rest → k ≡ get_or rest 0 k
    → IsRun (λ v. v) k rest n → 0 < n
run_some [] k n some at r = absurd (omega arith)
run_some (y ∷ ys) k zero some at r = absurd (r.ends y refl (sym at))
run_some (y ∷ ys) k (suc n) some at r = omega arith

counted-ahead : (rest : List Value) (k : Value) (n : ℕ) → Rises rest → 0 < length rest
    → k ≡ get_or rest 0 k → IsRun (λ v. v) k rest n
    → counted rest ≡ combined_pair k (number n) ++ counted (drop n rest)
counted-ahead rest k n up some at r =
    let run = take n rest in
    let left = drop n rest in
    let above : AreFrom k left
    = Each-drop (NotBelow k) n rest
    (all_from k rest up (λ v e. NotBelow-same k v (first_is rest k v at e))) in
    let other : AreOther k left
    = others_from k left (Rises-drop n rest up) above
    (λ v e. r.ends v (sym (slice_get-drop n rest) ∙ e)) in
    let count : length run ≡ n = length-take-le n rest r.within in
    ap counted (sym (take-append-drop n rest))
    ∙ counted-begin k run left (each_from (λ v. v ≡ k) run r.same) above other
    (omega (arith, run_some rest k n some at r))
    ∙ ap (λ m. combined_pair k (number m) ++ counted left) count

-- ---- the loop's step: rest is what is left of the bag, k the value there

module _ (xs rest : List Value) (i n : ℕ) (k : Value) (up : IsSorted value_cmp xs)
    (within : i < length xs) (is : rest ≡ drop i xs) (here : k ≡ get_or xs i k)
    (r : IsRun (λ v. v) k rest n) where
  at : k ≡ get_or rest 0 k
  at = here ∙ sym (ap (λ l. get_or l 0 k) is ∙ get_or-drop i xs 0 k
      ∙ ap (λ m. get_or xs m k) (add-zero i))

  some_left : 0 < length rest
  some_left = omega (arith, ap length is, length-drop i xs)

  pub count_begins : 0 < n
  count_begins = run_some rest k n some_left at r

  pub count_within : i + n ≤ length xs
  count_within = omega (arith, r.within, ap length is, length-drop i xs)

  left_rises : Rises rest
  left_rises = subst Rises (sym is) (Rises-drop i xs (rises_from xs up))

  pub count_more : (pairs grown : List Value) (counted_pair : Value) → length xs < 2 ^ 63
      → counted_pair ≡ pair k (value.Int (cast_signed w64 n))
      → counted xs ≡ pairs ++ counted (drop i xs) → grown ≡ pairs ++ counted_pair ∷ []
      → counted xs ≡ grown ++ counted (drop (i + n) xs)
  count_more pairs grown counted_pair small made all push =
      let few : n < 2 ^ 63 = omega (arith, count_within) in
      let is_pair : counted_pair ≡ pair k (value.Int (pos n))
      = made ∙ ap (λ m. pair k (value.Int m)) (to_z_pos w64 n few) in
      one_more (counted xs) pairs grown (counted (drop (i + n) xs)) counted_pair
      (all ∙ ap (λ l. pairs ++ counted l) (sym is)
      ∙ ap (λ l. pairs ++ l) (counted-ahead rest k n left_rises some_left at r)
      ∙ (λ j. pairs ++ (combined_pair k (number-is n few j)
      ++ counted (drop n (is j))))
      ∙ (λ j. pairs ++ sym is_pair j ∷ counted (drop-drop n i xs j))) push
