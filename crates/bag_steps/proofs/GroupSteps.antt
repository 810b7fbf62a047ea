-- The groups of ascending pairs, run by run.
use Rattle.std.proofs.Common.{◌≡◌, ◌<◌, ◌≤◌, ◌+◌, ◌-◌, ℕ, Some, List, [], ◌∷◌, ◌++◌, get_or, length, map, take, drop, sym, ap, ◌∙◌, subst, arith, append_assoc, append-nil, length-drop}
use Rattle.std.specs.Prelude.{All}
use Rattle.std.specs.List.{AllByRecursion as Each}
use Rattle.std.specs.List.Sorted.{IsSorted}
use Rattle.std.proofs.lemmas.List.{drop_all, drop-drop, take_rest}
use Rattle.flume_value.specs.declared.value.Value.{Value}
use Rattle.flume_value.specs.declared.value.Value.TheVariants as value
use Rattle.flume_value.specs.Order.{value_cmp}
use Rattle.flume_value.proofs.EachLemmas.{each_from, Each-drop}
use Rattle.flume_value.proofs.RisesLemmas.{Rises-drop}
use Rattle.flume_value.proofs.BagLemmas.{NotBelow, Rises, rises_from}
use Rattle.keyed_steps.specs.of_bag_groups.Pairs.{pair, IsPair, key_of, pairs_of}
use Rattle.keyed_steps.specs.of_bag_groups.Groups.{grouped, grouped_pairs}
use Rattle.bag_steps.specs.inner.Runs.{IsRun, first_key, held_by}
use Rattle.bag_steps.proofs.RunLemmas.{NotBelow-same}
use Rattle.bag_steps.proofs.KeyRuns.{grouped-begin, held, length-run, pairs_of-drop, pairs_of-take, run_some, runs_from}

first_is : (xs : List Value) (k : Value) → first_key xs ≡ Some k
    → (j : Value) → first_key xs ≡ Some j → NotBelow k j
first_is xs k e j h =
    let same : Some j ≡ Some k = sym h ∙ e in let is : j ≡ k = cc in NotBelow-same k j is

-- a run of the first key and its group
grouped-ahead : (xs : List Value) (k : Value) (n : ℕ) → Each IsPair xs → Rises xs
    → first_key xs ≡ Some k → IsRun key_of (Some k) xs n
    → grouped xs ≡ pair k (value.List (held_by (take n xs))) ∷ grouped (drop n xs)
grouped-ahead xs k n pairs up first r =
    let ps = pairs_of xs in
    let some = run_some k xs n r first in
    let count = length-run k xs n pairs r in
    grouped-begin k ps (take n ps) (drop n ps) (runs_from k xs n pairs up (first_is xs k first) r)
    (omega arith)
    ∙ (λ i. pair k (value.List (map held (sym (pairs_of-take n xs pairs) i)))
    ∷ grouped_pairs (sym (pairs_of-drop n xs pairs) i))

-- ---- the loop's step: rest is what is left of the list, x its first

pub first_at : (rest : List Value) (x k : Value) → 0 < length rest → x ≡ get_or rest 0 x
    → key_of x ≡ Some k → first_key rest ≡ Some k
first_at [] x k some at keyed = absurd (omega arith)
first_at (y ∷ ys) x k some at keyed = ap key_of (sym at) ∙ keyed

-- one value more, before what is made of the rest
pub one_more : (whole made grown left : List Value) (v : Value) → whole ≡ made ++ v ∷ left
    → grown ≡ made ++ v ∷ [] → whole ≡ grown ++ left
one_more whole made grown left v all push =
    all ∙ sym (append_assoc made (v ∷ []) left) ∙ ap (λ l. l ++ left) (sym push)

module _ (xs rest : List Value) (i n : ℕ) (k x : Value) (pairs : All IsPair xs)
    (up : IsSorted value_cmp xs) (within : i < length xs) (is : rest ≡ drop i xs)
    (at : x ≡ get_or rest 0 x) (keyed : key_of x ≡ Some k) (r : IsRun key_of (Some k) rest n) where
  first : first_key rest ≡ Some k
  first = first_at rest x k (omega (arith, ap length is, length-drop i xs)) at keyed

  pub run_within : i + n ≤ length xs
  run_within = omega (arith, r.within, ap length is, length-drop i xs)

  left_pairs : Each IsPair rest
  left_pairs = subst (Each IsPair) (sym is) (Each-drop IsPair i xs (each_from IsPair xs pairs))

  left_rises : Rises rest
  left_rises = subst Rises (sym is) (Rises-drop i xs (rises_from xs up))

  pub group_more : (run groups grown : List Value) (group : Value) → run ≡ take n rest
      → group ≡ pair k (value.List (held_by run))
      → grouped xs ≡ groups ++ grouped (drop i xs) → grown ≡ groups ++ group ∷ []
      → grouped xs ≡ grown ++ grouped (drop (i + n) xs)
  group_more run groups grown group cut made all push =
      one_more (grouped xs) groups grown (grouped (drop (i + n) xs)) group
      (all ∙ ap (λ l. groups ++ grouped l) (sym is)
      ∙ ap (λ l. groups ++ l) (grouped-ahead rest k n left_pairs left_rises first r)
      ∙ (λ j. groups ++ pair k (value.List (held_by (sym cut j))) ∷ grouped (drop n (is j)))
      ∙ (λ j. groups ++ sym made j ∷ grouped (drop-drop n i xs j))) push

-- a slice of what is left of a list
pub cut_of_rest : (xs : List Value) (i m : ℕ)
    → take ((i + m) - i) (drop i xs) ≡ take m (take (length xs - i) (drop i xs))
cut_of_rest xs i m =
    let e : (i + m) - i ≡ m = omega arith in
    ap (λ n. take n (drop i xs)) e ∙ ap (take m) (sym (take_rest xs i))

-- ---- a step's result at its end

-- where nothing is left, what was made is the whole
pub nothing_left : (made : List Value → List Value) (xs rows : List Value) (i : ℕ)
    → made [] ≡ [] → length xs ≤ i → made xs ≡ rows ++ made (drop i xs) → rows ≡ made xs
nothing_left made xs rows i none end all =
    sym (all ∙ ap (λ l. rows ++ made l) (drop_all i xs end) ∙ ap (λ l. rows ++ l) none
    ∙ append-nil rows)

-- so many of the values are done, and what is made of the others is left to be added
pub record Begun (made : List Value → List Value) (xs rows : List Value) (i : ℕ) : Type 0 where
  pub within : i ≤ length xs
  pub all : made xs ≡ rows ++ made (drop i xs)

pub sorted_as : (rows all : List Value) → rows ≡ all → IsSorted value_cmp all
    → IsSorted value_cmp rows
sorted_as rows all e up = subst (IsSorted value_cmp) (sym e) up

pub sorted : (made : List Value → List Value) (xs rows : List Value) (i : ℕ)
    → Begun made xs rows i → length xs ≤ i → made [] ≡ [] → IsSorted value_cmp (made xs)
    → IsSorted value_cmp rows
sorted made xs rows i begun end none up =
    sorted_as rows (made xs) (nothing_left made xs rows i none end begun.all) up
