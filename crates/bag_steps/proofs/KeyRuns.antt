-- The pairs of the least key, ahead of all others: what they are to keys, values and groups.
use Rattle.std.proofs.Common.{◌≡◌, ◌<◌, ◌+◌, ℕ, zero, suc, Bool, Some, true, false, List, [], ◌∷◌, ◌++◌, length, map, take, drop, refl, sym, ap, ◌∙◌, subst, arith, append-nil, length-append}
use Rattle.std.specs.Prelude.{filter, slice_get}
use Rattle.std.specs.List.{AllByRecursion as Each}
use Rattle.std.proofs.lemmas.List.{map-append, length-map, length-take-le, take-append-drop, take-map, drop-map}
use Rattle.std.proofs.lemmas.List.Elements.{filter-append}
use Rattle.flume_value.specs.declared.value.Value.{Value}
use Rattle.flume_value.specs.declared.value.Value.TheVariants as value
use Rattle.flume_value.specs.Bag.{bag_of}
use Rattle.flume_value.specs.Equality.{value_eq}
use Rattle.flume_value.proofs.EachLemmas.{each_from, Each-append, Each-drop, Each-map, Each-weaker}
use Rattle.flume_value.proofs.RisesLemmas.{Rises-drop, Rises-take}
use Rattle.flume_value.proofs.BagLemmas.{NotBelow, Rises, Each-bag_of, sorted_from, bag_of-settled, bag_of-times, times-append}
use Rattle.keyed_steps.specs.of_bag_groups.Pairs.{pair, IsPair, key_of, pairs_of}
use Rattle.keyed_steps.specs.of_bag_groups.Groups.{distinct, keys_of, values_of, grouped_pairs}
use Rattle.keyed_steps.proofs.of_bag_groups.MemberLemmas.{Each-distinct, filter_all, filter_none, map_same}
use Rattle.keyed_steps.proofs.of_bag_groups.PairLemmas.{Parts, packed, key_of-pair, packed-pairs_of, pairs_of-packed}
use Rattle.keyed_steps.proofs.of_bag_groups.PairOrder.{Rises-keys, Rises-values, value_eq-same, value_eq-other}
use Rattle.bag_steps.specs.Joins.{sides}
use Rattle.bag_steps.specs.inner.Runs.{IsRun, first_key}
use Rattle.bag_steps.proofs.RunLemmas.{AreAll, AreFrom, AreOther, all_from, distinct_bag-ahead, others_from, slice_get-drop}

abbrev pub key : Parts → Value
key p = p.0

abbrev pub held : Parts → Value
held p = p.1

-- the pairs are a run of the key k, and then those of keys above it
pub record BeginsWith (k : Value) (ps run rest : List Parts) : Type 0 where
  pub joins : ps ≡ run ++ rest
  pub same : AreAll k (map key run)
  pub above : AreFrom k (map key rest)
  pub other : AreOther k (map key rest)
  pub rises : Rises (map packed run)

-- ---- the values of a key

abbrev of_key : Value → Parts → Bool
of_key j p = value_eq (key p) j

-- what holds of what a list is made to
Each-unmap : {A B : Type 0} (P : B → Type 0) (f : A → B) (xs : List A)
    → Each P (map f xs) → Each (λ x. P (f x)) xs
Each-unmap P f [] e = tt
Each-unmap P f (x ∷ xs) e = (e.0, Each-unmap P f xs e.1)

module _ (k : Value) (ps run rest : List Parts) (b : BeginsWith k ps run rest) where
  run_keyed : Each (λ (p : Parts). key p ≡ k) run
  run_keyed = Each-unmap (λ x. x ≡ k) key run b.same

  values_split : (j : Value) → values_of j ps
      ≡ bag_of (map held (filter (of_key j) run ++ filter (of_key j) rest))
  values_split j =
      ap (values_of j) b.joins
      ∙ ap (λ l. bag_of (map held l)) (filter-append (of_key j) run rest)

  values_of-run : values_of k ps ≡ map held run
  values_of-run =
      values_split k
      ∙ ap (λ l. bag_of (map held (filter (of_key k) run ++ l)))
      (filter_none (of_key k) rest
      (Each-unmap (λ x. value_eq x k ≡ false) key rest
      (Each-weaker (λ x. x ≡ k → ⊥) (λ x. value_eq x k ≡ false)
      (λ x h. value_eq-other x k h) (map key rest) b.other)))
      ∙ ap (λ l. bag_of (map held l)) (append-nil (filter (of_key k) run))
      ∙ ap (λ l. bag_of (map held l))
      (filter_all (of_key k) run
      (Each-weaker (λ (p : Parts). key p ≡ k) (λ p. of_key k p ≡ true)
      (λ p h. value_eq-same (key p) k h) run run_keyed))
      ∙ bag_of-settled (map held run)
      (sorted_from (map held run) (Rises-values k run run_keyed b.rises))

  values_of-rest : (j : Value) → (j ≡ k → ⊥) → values_of j ps ≡ values_of j rest
  values_of-rest j h =
      values_split j
      ∙ ap (λ l. bag_of (map held (l ++ filter (of_key j) rest)))
      (filter_none (of_key j) run
      (Each-weaker (λ (p : Parts). key p ≡ k) (λ p. of_key j p ≡ false)
      (λ p same. value_eq-other (key p) j (λ e. h (sym e ∙ same))) run run_keyed))

-- ---- the keys of two sides

bag_of-across : (a b c d : List Value)
    → bag_of ((a ++ b) ++ (c ++ d)) ≡ bag_of ((a ++ c) ++ (b ++ d))
bag_of-across a b c d =
    bag_of-times ((a ++ b) ++ (c ++ d)) ((a ++ c) ++ (b ++ d))
    (λ v. omega (
      arith,
      times-append (a ++ b) (c ++ d) v,
      times-append a b v,
      times-append c d v,
      times-append (a ++ c) (b ++ d) v,
      times-append a c v,
      times-append b d v,
    ))

module _ (k : Value) (ps run rest : List Parts) (b : BeginsWith k ps run rest)
    (qs run' rest' : List Parts) (c : BeginsWith k qs run' rest')
    (some : 0 < length run + length run') where
  keys_joined : map key (ps ++ qs)
      ≡ (map key run ++ map key rest) ++ (map key run' ++ map key rest')
  keys_joined =
      map-append key ps qs
      ∙ (λ i. map key (b.joins i) ++ map key (c.joins i))
      ∙ (λ i. map-append key run rest i ++ map-append key run' rest' i)

  some_keys : 0 < length (map key run ++ map key run')
  some_keys =
      omega (
        arith,
        length-append (map key run) (map key run'),
        length-map run key,
        length-map run' key,
      )

  keys_of-begin : keys_of (ps ++ qs) ≡ k ∷ keys_of (rest ++ rest')
  keys_of-begin =
      ap (λ l. distinct (bag_of l)) keys_joined
      ∙ ap distinct (bag_of-across (map key run) (map key rest) (map key run') (map key rest'))
      ∙ distinct_bag-ahead k (map key run ++ map key run') (map key rest ++ map key rest')
      (Each-append (λ x. x ≡ k) (map key run) (map key run') b.same c.same)
      (Each-append (NotBelow k) (map key rest) (map key rest') b.above c.above)
      (Each-append (λ x. x ≡ k → ⊥) (map key rest) (map key rest') b.other c.other) some_keys
      ∙ ap (λ l. k ∷ distinct (bag_of l)) (sym (map-append key rest rest'))

  other_keys : AreOther k (keys_of (rest ++ rest'))
  other_keys =
      let P : Value → Type 0 = λ x. x ≡ k → ⊥ in
      Each-distinct P (bag_of (map key (rest ++ rest')))
      (Each-bag_of P (map key (rest ++ rest'))
      (subst (Each P) (sym (map-append key rest rest'))
      (Each-append P (map key rest) (map key rest') b.other c.other)))

  -- what is made of each key
  rows-begin : (F G : Value → Value) → ((j : Value) → (j ≡ k → ⊥) → F j ≡ G j)
      → map F (keys_of (ps ++ qs)) ≡ F k ∷ map G (keys_of (rest ++ rest'))
  rows-begin F G same =
      ap (map F) keys_of-begin
      ∙ ap (λ l. F k ∷ l)
      (map_same F G (keys_of (rest ++ rest'))
      (Each-weaker (λ x. x ≡ k → ⊥) (λ j. F j ≡ G j) same (keys_of (rest ++ rest')) other_keys))

-- ---- the groups, and the rows of a join

pub grouped-begin : (k : Value) (ps run rest : List Parts) → BeginsWith k ps run rest
    → 0 < length run
    → grouped_pairs ps ≡ pair k (value.List (map held run)) ∷ grouped_pairs rest
grouped-begin k ps run rest b some =
    let none : BeginsWith k [] [] []
    = record { joins = refl; same = tt; above = tt; other = tt; rises = tt } in
    let F : Value → Value = λ j. pair j (value.List (values_of j ps)) in
    let G : Value → Value = λ j. pair j (value.List (values_of j rest)) in
    ap (λ l. map F (keys_of l)) (sym (append-nil ps))
    ∙ rows-begin k ps run rest b [] [] [] none (omega arith) F G
    (λ j h. ap (λ vs. pair j (value.List vs)) (values_of-rest k ps run rest b j h))
    ∙ ap (λ l. F k ∷ map G (keys_of l)) (append-nil rest)
    ∙ ap (λ vs. pair k (value.List vs) ∷ grouped_pairs rest) (values_of-run k ps run rest b)

abbrev pub joined_parts : List Parts → List Parts → List Value
joined_parts ps qs =
    map (λ j. pair j (sides (values_of j ps) (values_of j qs))) (keys_of (ps ++ qs))

pub joined-begin : (k : Value) (ps run rest : List Parts) (b : BeginsWith k ps run rest)
    (qs run' rest' : List Parts) (c : BeginsWith k qs run' rest')
    → 0 < length run + length run'
    → joined_parts ps qs
    ≡ pair k (sides (map held run) (map held run')) ∷ joined_parts rest rest'
joined-begin k ps run rest b qs run' rest' c some =
    let F : Value → Value = λ j. pair j (sides (values_of j ps) (values_of j qs)) in
    let G : Value → Value = λ j. pair j (sides (values_of j rest) (values_of j rest')) in
    rows-begin k ps run rest b qs run' rest' c some F G
    (λ j h i. pair j (sides (values_of-rest k ps run rest b j h i)
    (values_of-rest k qs run' rest' c j h i)))
    ∙ (λ i. pair k (sides (values_of-run k ps run rest b i) (values_of-run k qs run' rest' c i))
    ∷ joined_parts rest rest')

-- ---- pairs in order

first_other : (k : Value) (ps : List Parts)
    → ((p : Value) → slice_get (map packed ps) 0 ≡ Some p → key_of p ≡ Some k → ⊥)
    → (v : Value) → slice_get (map key ps) 0 ≡ Some v → v ≡ k → ⊥
first_other k [] h v at e = cc at
first_other k (p ∷ ps) h v at e =
    let same : key p ≡ v = cc in
    h (packed p) refl (key_of-pair p.0 p.1 ∙ ap Some (same ∙ e))

keyed_as : (k : Value) (p : Parts) → key_of (packed p) ≡ Some k → key p ≡ k
keyed_as k p e = let known = key_of-pair p.0 p.1 in let same : Some (key p) ≡ Some k =
    sym known ∙ e in cc

begins : (k : Value) (ps : List Parts) (n : ℕ) → Rises (map packed ps)
    → AreFrom k (map key ps) → IsRun key_of (Some k) (map packed ps) n
    → BeginsWith k ps (take n ps) (drop n ps)
begins k ps n up above r =
    let keys = map key ps in
    let at : slice_get (map packed (drop n ps)) 0 ≡ slice_get (map packed ps) n
    = ap (λ l. slice_get l 0) (sym (drop-map packed n ps)) ∙ slice_get-drop n (map packed ps) in
    let left_above : AreFrom k (map key (drop n ps))
    = subst (AreFrom k) (drop-map key n ps) (Each-drop (NotBelow k) n keys above) in
    let keyed : Each (λ p. key_of p ≡ Some k) (map packed (take n ps))
    = subst (Each (λ p. key_of p ≡ Some k)) (take-map packed n ps)
    (each_from (λ p. key_of p ≡ Some k) (take n (map packed ps)) r.same) in
    record {
      joins = sym (take-append-drop n ps);
      same = Each-map (λ x. x ≡ k) key (take n ps)
          (Each-weaker (λ p. key_of (packed p) ≡ Some k) (λ p. key p ≡ k) (keyed_as k)
          (take n ps) (Each-unmap (λ p. key_of p ≡ Some k) packed (take n ps) keyed));
      above = left_above;
      other = others_from k (map key (drop n ps))
          (subst Rises (drop-map key n ps) (Rises-drop n keys (Rises-keys ps up)))
          left_above (first_other k (drop n ps) (λ p e. r.ends p (sym at ∙ e)));
      rises = subst Rises (take-map packed n ps) (Rises-take n (map packed ps) up);
    }

-- ---- ascending pairs

pub pairs_of-drop : (n : ℕ) (xs : List Value) → Each IsPair xs
    → pairs_of (drop n xs) ≡ drop n (pairs_of xs)
pairs_of-drop n xs e =
    ap (λ l. pairs_of (drop n l)) (sym (packed-pairs_of xs e))
    ∙ ap pairs_of (drop-map packed n (pairs_of xs)) ∙ pairs_of-packed (drop n (pairs_of xs))

pub pairs_of-take : (n : ℕ) (xs : List Value) → Each IsPair xs
    → pairs_of (take n xs) ≡ take n (pairs_of xs)
pairs_of-take n xs e =
    ap (λ l. pairs_of (take n l)) (sym (packed-pairs_of xs e))
    ∙ ap pairs_of (take-map packed n (pairs_of xs)) ∙ pairs_of-packed (take n (pairs_of xs))

first_from : (k : Value) (ps : List Parts)
    → ((j : Value) → first_key (map packed ps) ≡ Some j → NotBelow k j)
    → (v : Value) → slice_get (map key ps) 0 ≡ Some v → NotBelow k v
first_from k [] h v at = cc at
first_from k (p ∷ ps) h v at = h v (key_of-pair p.0 p.1 ∙ at)

-- pairs in order, of which none has a key below k
pub runs_from : (k : Value) (xs : List Value) (n : ℕ) → Each IsPair xs → Rises xs
    → ((j : Value) → first_key xs ≡ Some j → NotBelow k j) → IsRun key_of (Some k) xs n
    → BeginsWith k (pairs_of xs) (take n (pairs_of xs)) (drop n (pairs_of xs))
runs_from k xs n pairs up first r =
    let ps = pairs_of xs in
    let made = sym (packed-pairs_of xs pairs) in
    let rise : Rises (map packed ps) = subst Rises made up in
    begins k ps n rise
    (all_from k (map key ps) (Rises-keys ps rise)
    (first_from k ps (subst (λ l. (j : Value) → first_key l ≡ Some j → NotBelow k j) made first)))
    (subst (λ l. IsRun key_of (Some k) l n) made r)

-- a run of the first pair's key is not empty
pub run_some : (k : Value) (xs : List Value) (n : ℕ) → IsRun key_of (Some k) xs n
    → first_key xs ≡ Some k → 0 < n
run_some k [] n r e = cc e
run_some k (x ∷ xs) zero r e = absurd (r.ends x refl e)
run_some k (x ∷ xs) (suc n) r e = omega arith

-- its length is that of the parts
pub length-run : (k : Value) (xs : List Value) (n : ℕ) → Each IsPair xs
    → IsRun key_of (Some k) xs n → length (take n (pairs_of xs)) ≡ n
length-run k xs n pairs r =
    length-take-le n (pairs_of xs)
    (omega (arith, r.within, ap length (packed-pairs_of xs pairs), length-map (pairs_of xs) packed))
