-- The join of ascending pairs, key by key.
use Rattle.std.proofs.Common.{◌≡◌, ◌<◌, ◌≤◌, ◌+◌, ◌⊎◌, inl, inr, ⊎_elim, ℕ, Bool, true, false, Option, None, Some, cond, List, [], ◌∷◌, ◌++◌, length, map, take, drop, refl, sym, ap, ◌∙◌, subst, arith, append-nil, length-drop}
use Rattle.std.specs.Prelude.{All, IsSome, option_map}
use Rattle.std.specs.Ordering.{is_lt}
use Rattle.std.specs.List.{AllByRecursion as Each}
use Rattle.std.specs.List.Sorted.{IsSorted}
use Rattle.std.proofs.lemmas.List.{drop-drop}
use Rattle.flume_value.specs.declared.value.Value.{Value}
use Rattle.flume_value.specs.Order.{value_cmp}
use Rattle.flume_value.proofs.EachLemmas.{each_from, Each-drop}
use Rattle.flume_value.proofs.RisesLemmas.{Rises-drop}
use Rattle.flume_value.proofs.BagLemmas.{NotBelow, Rises, rises_from}
use Rattle.keyed_steps.specs.of_bag_groups.Pairs.{pair, IsPair, key_of, parts_of, pairs_of}
use Rattle.keyed_steps.proofs.of_bag_groups.PairLemmas.{Parts}
use Rattle.keyed_steps.proofs.of_combine_table.Popped.{lower}
use Rattle.bag_steps.specs.Joins.{joined, sides}
use Rattle.bag_steps.specs.inner.Runs.{IsRun, first_key, held_by, least_of}
use Rattle.bag_steps.proofs.GroupSteps.{one_more}
use Rattle.bag_steps.proofs.RunLemmas.{NotBelow-same}
use Rattle.bag_steps.proofs.KeyRuns.{held, joined-begin, joined_parts, length-run, pairs_of-drop, pairs_of-take, run_some, runs_from}

-- ---- the lesser of two keys

record IsLeast (a b : Option Value) (k : Value) : Type 0 where
  left : (j : Value) → a ≡ Some j → NotBelow k j
  right : (j : Value) → b ≡ Some j → NotBelow k j
  among : (a ≡ Some k) ⊎ (b ≡ Some k)

not_below : (k i j : Value) (a : Option Value) → NotBelow k i → a ≡ Some i → a ≡ Some j
    → NotBelow k j
not_below k i j a h e f =
    let same : Some i ≡ Some j = sym e ∙ f in let is : i ≡ j = cc in subst (NotBelow k) is h

lesser : (i j k : Value) (t : Bool) → is_lt (value_cmp j i) ≡ t
    → cond t (Some j) (Some i) ≡ Some k → IsLeast (Some i) (Some j) k
lesser i j k true t e =
    let is : j ≡ k = cc in
    record {
      left = λ h f. not_below k i h (Some i) (subst (λ x. NotBelow x i) is (lower j i t)) refl f;
      right = λ h f. not_below k j h (Some j) (NotBelow-same k j is) refl f;
      among = inr (ap Some is);
    }
lesser i j k false t e =
    let is : i ≡ k = cc in
    record {
      left = λ h f. not_below k i h (Some i) (NotBelow-same k i is) refl f;
      right = λ h f. not_below k j h (Some j) (subst (λ x. NotBelow x j) is t) refl f;
      among = inl (ap Some is);
    }

least_is : (a b : Option Value) (k : Value) → Some k ≡ least_of a b → IsLeast a b k
least_is None None k e = cc e
least_is None (Some j) k e =
    let is : j ≡ k = cc in
    record {
      left = λ h f. cc f;
      right = λ h f. not_below k j h (Some j) (NotBelow-same k j is) refl f;
      among = inr (ap Some is);
    }
least_is (Some i) None k e =
    let is : i ≡ k = cc in
    record {
      left = λ h f. not_below k i h (Some i) (NotBelow-same k i is) refl f;
      right = λ h f. cc f;
      among = inl (ap Some is);
    }
least_is (Some i) (Some j) k e = lesser i j k (is_lt (value_cmp j i)) refl (sym e)

none_least : (a b : Option Value) → None ≡ least_of a b → (a ≡ None) × (b ≡ None)
none_least None None e = (refl, refl)
none_least None (Some j) e = cc e
none_least (Some i) None e = cc e
none_least (Some i) (Some j) e =
    elim (is_lt (value_cmp j i)) as (λ t. None ≡ cond t (Some j) (Some i)
    → (Some i ≡ None) × (Some j ≡ None)) [ true ↦ λ h. cc | false ↦ λ h. cc ] e

-- ---- the runs of a key on both sides, and its row

joined-ahead : (xs ys : List Value) (k : Value) (m n : ℕ) → Each IsPair xs → Rises xs
    → Each IsPair ys → Rises ys → Some k ≡ least_of (first_key xs) (first_key ys)
    → IsRun key_of (Some k) xs m → IsRun key_of (Some k) ys n
    → (0 < m + n) × (joined xs ys
    ≡ pair k (sides (held_by (take m xs)) (held_by (take n ys))) ∷ joined (drop m xs) (drop n ys))
joined-ahead xs ys k m n pairs up pairs' up' e r r' =
    let ps = pairs_of xs in
    let qs = pairs_of ys in
    let least = least_is (first_key xs) (first_key ys) k e in
    let some : 0 < m + n
    = ⊎_elim (λ h. let s = run_some k xs m r h in omega arith)
    (λ h. let s = run_some k ys n r' h in omega arith) least.among in
    let count = length-run k xs m pairs r in
    let count' = length-run k ys n pairs' r' in (
      some,
      joined-begin k ps (take m ps) (drop m ps) (runs_from k xs m pairs up least.left r)
          qs (take n qs) (drop n qs) (runs_from k ys n pairs' up' least.right r') (omega arith)
          ∙ (λ i. pair k (sides (map held (sym (pairs_of-take m xs pairs) i))
          (map held (sym (pairs_of-take n ys pairs') i)))
          ∷ joined_parts (sym (pairs_of-drop m xs pairs) i) (sym (pairs_of-drop n ys pairs') i)),
    )

-- ---- the loop's step: rest and rest' are what is left of both sides

module _ (xs rest : List Value) (i m : ℕ) (pairs : All IsPair xs) (up : IsSorted value_cmp xs)
    (within : i ≤ length xs) (is : rest ≡ drop i xs) where
  pub left_pairs : Each IsPair rest
  left_pairs = subst (Each IsPair) (sym is) (Each-drop IsPair i xs (each_from IsPair xs pairs))

  pub left_rises : Rises rest
  left_rises = subst Rises (sym is) (Rises-drop i xs (rises_from xs up))

  pub join_within : (k : Value) → IsRun key_of (Some k) rest m → i + m ≤ length xs
  join_within k r = omega (arith, r.within, ap length is, length-drop i xs)

module _ (xs rest : List Value) (i m : ℕ) (pairs : All IsPair xs) (up : IsSorted value_cmp xs)
    (within : i ≤ length xs) (is : rest ≡ drop i xs)
    (ys rest' : List Value) (j n : ℕ) (pairs' : All IsPair ys) (up' : IsSorted value_cmp ys)
    (within' : j ≤ length ys) (is' : rest' ≡ drop j ys)
    (k : Value) (least : Some k ≡ least_of (first_key rest) (first_key rest'))
    (r : IsRun key_of (Some k) rest m) (r' : IsRun key_of (Some k) rest' n) where
  ahead : (0 < m + n) × (joined rest rest'
      ≡ pair k (sides (held_by (take m rest)) (held_by (take n rest')))
      ∷ joined (drop m rest) (drop n rest'))
  ahead =
      joined-ahead rest rest' k m n (left_pairs xs rest i m pairs up within is)
      (left_rises xs rest i m pairs up within is) (left_pairs ys rest' j n pairs' up' within' is')
      (left_rises ys rest' j n pairs' up' within' is') least r r'

  pub join_more : (run run' rows grown : List Value) (row : Value) → run ≡ take m rest
      → run' ≡ take n rest' → row ≡ pair k (sides (held_by run) (held_by run'))
      → joined xs ys ≡ rows ++ joined (drop i xs) (drop j ys) → grown ≡ rows ++ row ∷ []
      → joined xs ys ≡ grown ++ joined (drop (i + m) xs) (drop (j + n) ys)
  join_more run run' rows grown row cut cut' made all push =
      one_more (joined xs ys) rows grown (joined (drop (i + m) xs) (drop (j + n) ys)) row
      (all ∙ (λ h. rows ++ joined (sym is h) (sym is' h)) ∙ ap (λ l. rows ++ l) ahead.1
      ∙ (λ h. rows ++ pair k (sides (held_by (sym cut h)) (held_by (sym cut' h)))
      ∷ joined (drop m (is h)) (drop n (is' h)))
      ∙ (λ h. rows ++ sym made h ∷ joined (drop-drop m i xs h) (drop-drop n j ys h))) push

-- ---- the end, where neither side has a pair left

no_key : (o : Option Parts) → IsSome o → option_map (λ p. p.0) o ≡ None → ⊥
no_key None some e = cc
no_key (Some p) some e = cc e

no_pairs : (xs : List Value) → Each IsPair xs → first_key xs ≡ None → xs ≡ []
no_pairs [] pairs e = refl
no_pairs (x ∷ xs) pairs e = absurd (no_key (parts_of x) pairs.0 e)

pub join_done : (xs ys rest rest' rows : List Value) (i j : ℕ) → All IsPair xs → All IsPair ys
    → rest ≡ drop i xs → rest' ≡ drop j ys → None ≡ least_of (first_key rest) (first_key rest')
    → joined xs ys ≡ rows ++ joined (drop i xs) (drop j ys) → rows ≡ joined xs ys
join_done xs ys rest rest' rows i j pairs pairs' is is' none all =
    let both = none_least (first_key rest) (first_key rest') none in
    let end : drop i xs ≡ []
    = no_pairs (drop i xs) (Each-drop IsPair i xs (each_from IsPair xs pairs))
    (ap first_key (sym is) ∙ both.0) in
    let end' : drop j ys ≡ []
    = no_pairs (drop j ys) (Each-drop IsPair j ys (each_from IsPair ys pairs'))
    (ap first_key (sym is') ∙ both.1) in
    sym (all ∙ (λ h. rows ++ joined (end h) (end' h)) ∙ append-nil rows)
