-- Accumulators by partition, pair after pair.
use Rattle.std.proofs.Common.{◌≡◌, ◌<◌, ◌+◌, ℕ, zero, suc, List, [], ◌∷◌, ◌++◌, length, get_or, map, Some, refl, sym, ap, ◌∙◌, subst, arith}
use Rattle.std.specs.Prelude.{Result, Ok, Err, IfOk, slice_set}
use Rattle.std.specs.List.{AllZip}
use Rattle.std.proofs.lemmas.List.FromFn.{length-map-range_with_len, get_or-map-range_with_len, map-range_with_len_more}
use Rattle.flume_value.specs.declared.value.Value.{Value}
use Rattle.flume_value.specs.Partitions.{partition_of}
use Rattle.bag_groups.specs.Pairs.{key_of, pairs_of}
use Rattle.combine_table.specs.declared.comb.Comb.{Comb}
use Rattle.partial_tables.specs.Lifted.{IsLifted, accumulators_of}
use Rattle.partial_tables.specs.Runs.{AreTabled}
use Rattle.partial_tables.specs.Tables.{Pairs}
use Rattle.partial_tables.specs.declared.lift.Lifting.{Lifting}
use Rattle.partial_tables.proofs.Tabling.{tables_stand}
use Rattle.shuffle_parts.specs.Partitions.{pairs_in_part, in_parts}
use Rattle.shuffle_parts.proofs.Parting.{Stands, parted_more}

module _ {A B : Type 0} (R : A → B → Type 0) where
  pub zip_push : (xs : List A) (ys : List B) (x : A) (y : B) → AllZip R xs ys → R x y
      → AllZip R (xs ++ x ∷ []) (ys ++ y ∷ [])
  zip_push [] [] x y z r = (r, tt)
  zip_push [] (b ∷ ys) x y z r = absurd z
  zip_push (a ∷ xs) [] x y z r = absurd z
  zip_push (a ∷ xs) (b ∷ ys) x y z r = (z.0, zip_push xs ys x y z.1 r)

  zip_set : (xs : List A) (ys : List B) (i : ℕ) (x : A) (y : B) → AllZip R xs ys → R x y
      → AllZip R (slice_set xs i x) (slice_set ys i y)
  zip_set [] [] i x y z r = tt
  zip_set [] (b ∷ ys) i x y z r = absurd z
  zip_set (a ∷ xs) [] i x y z r = absurd z
  zip_set (a ∷ xs) (b ∷ ys) zero x y z r = (r, z.1)
  zip_set (a ∷ xs) (b ∷ ys) (suc i) x y z r = (z.0, zip_set xs ys i x y z.1 r)

  zip_get : (xs : List A) (ys : List B) (i : ℕ) (x : A) (d : B) → AllZip R xs ys
      → i < length xs → x ≡ get_or xs i x → R x (get_or ys i d)
  zip_get [] ys i x d z l is = absurd (omega arith)
  zip_get (a ∷ xs) [] i x d z l is = absurd z
  zip_get (a ∷ xs) (b ∷ ys) zero x d z l is = subst (λ v. R v b) (sym is) z.0
  zip_get (a ∷ xs) (b ∷ ys) (suc i) x d z l is = zip_get xs ys i x d z.1 (omega arith) is

  zip_length : (xs : List A) (ys : List B) → AllZip R xs ys → length xs ≡ length ys
  zip_length [] [] z = refl
  zip_length [] (b ∷ ys) z = absurd z
  zip_length (a ∷ xs) [] z = absurd z
  zip_length (a ∷ xs) (b ∷ ys) z = ap suc (zip_length xs ys z.1)

-- ---- no pairs
pub none_more : (c : Comb) (n : ℕ) (parts grown : List Lifting) (part : Lifting)
    → AllZip (IsLifted c) parts (in_parts n []) → grown ≡ parts ++ part ∷ [] → IsLifted c part []
    → AllZip (IsLifted c) grown (in_parts (n + 1) [])
none_more c n parts grown part z push is =
    let nothing : ℕ → List Value = λ p. [] in
    subst (λ l. AllZip (IsLifted c) l (in_parts (n + 1) [])) (sym push)
    (subst (AllZip (IsLifted c) (parts ++ part ∷ []))
    (sym (map-range_with_len_more nothing 0 n n (omega arith)))
    (zip_push (IsLifted c) parts (in_parts n []) part [] z is))

-- ---- the partition of a pair
module _ (c : Comb) (n at : ℕ) (pairs : List Value) (parts : List Lifting)
    (z : AllZip (IsLifted c) parts (in_parts n pairs)) (within : at < n) where
  length_is : length parts ≡ n
  length_is =
      zip_length (IsLifted c) parts (in_parts n pairs) z
      ∙ length-map-range_with_len (λ p. pairs_in_part n p pairs) 0 n

  pub here : at < length parts
  here = omega (arith, length_is, within)

  pub lifted_at : (part : Lifting) → part ≡ get_or parts at part
      → IsLifted c part (get_or (in_parts n pairs) at [])
  lifted_at part is = zip_get (IsLifted c) parts (in_parts n pairs) at part [] z here is

  pub put_at : (new : Lifting) (pair key : Value) → key_of pair ≡ Some key
      → at ≡ partition_of key n → IsLifted c new (get_or (in_parts n pairs) at [] ++ pair ∷ [])
      → AllZip (IsLifted c) (slice_set parts at new) (in_parts n (pairs ++ pair ∷ []))
  put_at new pair key k is put =
      let old = get_or (in_parts n pairs) at [] in
      let f : ℕ → List Value = λ p. pairs_in_part n p pairs in
      let same : old ≡ get_or (in_parts n pairs) at old =
      get_or-map-range_with_len f 0 n at at [] within (omega arith)
      ∙ sym (get_or-map-range_with_len f 0 n at at old within (omega arith)) in
      subst (AllZip (IsLifted c) (slice_set parts at new))
      (parted_more n at pairs (in_parts n pairs) key pair old (old ++ pair ∷ []) refl k is within
      same refl)
      (zip_set (IsLifted c) parts (in_parts n pairs) at new (old ++ pair ∷ []) z put)

-- ---- all of them
module _ (c : Comb) (Q : Pairs → List Value → Type 0)
    (one : (l : Lifting) (bag : List Value) → IsLifted c l bag → Q (accumulators_of l) bag) where
  each_finished : (parts : List Lifting) (bags : List (List Value))
      → AllZip (IsLifted c) parts bags → AllZip Q (map accumulators_of parts) bags
  each_finished [] [] z = tt
  each_finished [] (b ∷ bags) z = absurd z
  each_finished (p ∷ parts) [] z = absurd z
  each_finished (p ∷ parts) (b ∷ bags) z = (one p b z.0, each_finished parts bags z.1)

  pub finished_ok : {E : Type 0} (r : Result (List Pairs) E) (parts : List Lifting)
      (bags : List (List Value)) → AllZip (IsLifted c) parts bags
      → IfOk r (λ combined. combined ≡ map accumulators_of parts)
      → IfOk r (λ combined. AllZip Q combined bags)
  finished_ok (Ok combined) parts bags z is =
      subst (λ (l : List Pairs). AllZip Q l bags) (sym is) (each_finished parts bags z)
  finished_ok (Err e) parts bags z is = tt

pub stands_one : (c : Comb) (l : Lifting) (bag : List Value) → IsLifted c l bag
    → Stands c (accumulators_of l) bag
stands_one c l bag is = tables_stand c (pairs_of bag) l.others.items l.table.partials is.0

pub tabled_one : (c : Comb) (l : Lifting) (bag : List Value) → IsLifted c l bag
    → AreTabled c (pairs_of bag) (accumulators_of l)
tabled_one c l bag is = record {
  taken = l.others.items;
  last = l.table.partials;
  tables = is.0;
  all = refl;
}

pub finished : (c : Comb) (parts : List Lifting) (bags : List (List Value))
    → AllZip (IsLifted c) parts bags → AllZip (Stands c) (map accumulators_of parts) bags
finished c = each_finished c (Stands c) (stands_one c)
