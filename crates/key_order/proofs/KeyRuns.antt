-- Pairs in order of their keys: the groups of those ahead of the last key, and its own.
use Rattle.std.proofs.Common.{◌≡◌, ◌<◌, ◌≤◌, ◌+◌, ◌-◌, ℕ, suc, Bool, false, Some, None, Option, List, [], ◌∷◌, ◌++◌, get_or, length, length-drop, map, take, drop, reverse, refl, sym, ap, ◌∙◌, subst, arith, append_assoc, append-nil, inl, inr}
use Rattle.std.specs.Prelude.{All, option_map, slice_get}
use Rattle.std.specs.Borrow.{Bor}
use Rattle.std.specs.Cmp.{IsStrictWeakOrder}
use Rattle.std.specs.Fn.{Called, ComparesAs}
use Rattle.std.specs.List.{AllByRecursion as Each, cons_option}
use Rattle.std.specs.List.Sorted.{IsPermutation, IsSortedBy}
use Rattle.std.specs.Option.{option_map_or}
use Rattle.std.specs.Ordering.{is_lt, ordering_reverse}
use Rattle.std.specs.declared.cmp.Ordering.{Ordering}
use Rattle.std.specs.declared.cmp.Ordering.TheVariants.{Less}
use Rattle.std.proofs.lemmas.Bool.{cases_lt}
use Rattle.std.proofs.lemmas.Fn.{always_returns_same}
use Rattle.std.proofs.lemmas.List.{drop-map, drop_more, get_or-map, get_or-take, length-map, length-take-le, map-append, map_more, reverse-append, take-append-drop, take-map, take_all, take_rest}
use Rattle.std.proofs.lemmas.List.Elements.{All-same, All-take, filter_map-append}
use Rattle.std.proofs.lemmas.List.MinMax.{ranks_by}
use Rattle.std.proofs.lemmas.List.Sorted.{IsPermutation-map, sorted_far}
use Rattle.std.proofs.lemmas.Option.{get_or_from_slice_get, slice_get_read}
use denote.Param.Members.{Mut}
use Rattle.flume_value.specs.declared.value.Value.{Value}
use Rattle.flume_value.specs.declared.value.Value.TheVariants as value
use Rattle.flume_value.specs.Bag.{bag_of}
use Rattle.flume_value.specs.Order.{value_cmp}
use Rattle.flume_value.proofs.BagLemmas.{NotBelow, NotBelow-trans, Rises}
use Rattle.flume_value.proofs.EachLemmas.{each_from, Each-map, Each-take}
use Rattle.flume_value.proofs.OrderLemmas.{value_cmp-total}
use Rattle.flume_value.proofs.ReferenceLemmas.{referred}
use Rattle.flume_value.proofs.RisesLemmas.{Rises-take}
use Rattle.bag_groups.specs.Pairs.{pair, IsPair, held_by, key_of, parts_of, pairs_of, value_of}
use Rattle.bag_groups.specs.Groups.{grouped, grouped_pairs}
use Rattle.bag_groups.proofs.PairLemmas.{Parts, held-push}
use Rattle.bag_groups.proofs.PairOrder.{less_from, value_eq-other}
use Rattle.key_order.specs.inner.Numbered.{key_in}
use Rattle.key_order.specs.inner.Runs.{IsLastRun}
use Rattle.key_order.proofs.Dividing.{key, grouped-over, moved_groups, one_key-parts, parts_of_key, some_parts}
use Rattle.key_order.proofs.Keying.{is_keyed, key_in-keyed}

abbrev Ref : Type 0
Ref = Bor Value

abbrev now : Ref → Value
now r = r.now

abbrev key_at : Ref → Value
key_at r = key_in r.now

abbrev pub KeysRise : List Value → Type 0
KeysRise xs = Rises (map key_in xs)

-- ---- what a sort by key gives

abbrev by_key : Ref → Ref → Bool
by_key a b = is_lt (value_cmp (key_at a) (key_at b))

keys_by_key : IsStrictWeakOrder by_key
keys_by_key = ranks_by value_cmp-total key_at

keys_rise : (rs : List Ref) → IsSortedBy by_key rs → KeysRise (referred rs)
keys_rise [] up = tt
keys_rise (r ∷ rs) up = (
  Each-map (NotBelow (key_at r)) key_in (referred rs)
      (Each-map (λ x. NotBelow (key_at r) (key_in x)) now rs
      (each_from (λ (q : Ref). NotBelow (key_at r) (key_at q)) rs
      (λ k d l. sorted_far by_key keys_by_key (r ∷ rs) up 0 (suc k) d (omega arith)
      (omega arith)))),
  keys_rise rs (λ k d low high. let e : suc k + 1 ≡ suc (k + 1) = omega arith in
      subst (λ n. by_key (get_or (r ∷ rs) n d) (get_or rs k d) ≡ false) e
      (up (suc k) d (omega arith) (omega arith))),
)

-- from the clause of the sort, where each call compares the keys
pub keys_sorted : {F : Type 0} {g : Mut F (Bor Ref × (Bor Ref × Unit {0})) Ordering} {f : F}
    (rs : List Ref)
    → ((lt : Ref → Ref → Bool) → IsStrictWeakOrder lt → ComparesAs g lt f → IsSortedBy lt rs)
    → ((a : Bor Ref × (Bor Ref × Unit {0})) (r : Ordering) (f' : F) → Called g f a r f'
    → (r ≡ value_cmp (key_in a.0.now.now) (key_in a.1.0.now.now)) × (f' ≡ f))
    → KeysRise (referred rs)
keys_sorted {g = g} {f = f} rs up h =
    keys_rise rs (up by_key keys_by_key
    (always_returns_same g (λ a r. is_lt r ≡ by_key a.0.now a.1.0.now) f
    (λ a r f' k. (ap is_lt (h a r f' k).0, (h a r f' k).1))))

-- ---- where a run begins

module _ (k : Value) (refs : List Ref) (n : ℕ) (x : Ref) (some : 0 < n) (within : n ≤ length refs)
    (is : x ≡ get_or refs (n - 1) x)
    (same : Each (λ p. key_of p ≡ Some k) (drop n (referred refs))) where
  inside : n - 1 < length (referred refs)
  inside = omega (arith, some, within, length-map refs now)

  at : get_or (referred refs) (n - 1) x.now ≡ x.now
  at = get_or-map now refs (n - 1) x x.now (omega (arith, some, within)) ∙ sym (ap now is)

  pub run_more : key_of x.now ≡ Some k
      → Each (λ p. key_of p ≡ Some k) (drop (n - 1) (referred refs))
  run_more keyed =
      let back : n - 1 + 1 ≡ n = omega (arith, some) in
      subst (Each (λ p. key_of p ≡ Some k))
      (sym (drop_more (referred refs) (n - 1) x.now inside
      ∙ (λ i. at i ∷ drop (back i) (referred refs)))) (keyed, same)

  pub run_ends : (key_of x.now ≡ Some k → ⊥) → IsLastRun (Some k) (referred refs) n
  run_ends other = record {
    within = omega (arith, within, length-map refs now);
    same = same;
    ends = λ p e keyed. other (ap key_of (sym at
        ∙ sym (get_or-take n (referred refs) (n - 1) x.now (omega (arith, some)))
        ∙ get_or_from_slice_get (take n (referred refs)) (n - 1) p x.now e) ∙ keyed);
  }

-- ---- the values of a run

pub held_more : (refs : List Ref) (i : ℕ) (x : Ref) (v : Value) (values grown : List Value)
    → i < length refs → x ≡ get_or refs i x → value_of x.now ≡ Some v
    → values ≡ held_by (map (λ (r : Ref). r.now) (take i refs)) → grown ≡ values ++ v ∷ []
    → grown ≡ held_by (map (λ (r : Ref). r.now) (take (i + 1) refs))
held_more refs i x v values grown within is e all push =
    let before = map now (take i refs) in
    push ∙ ap (λ l. l ++ v ∷ []) all ∙ sym (held-push before x.now v e)
    ∙ ap (λ (q : Ref). held_by (before ++ q.now ∷ [])) is
    ∙ ap held_by (sym (map_more now refs i x within))

-- ---- the run of the last key

less_than : (a b : Value) → NotBelow a b → (a ≡ b → ⊥) → value_cmp a b ≡ Less
less_than a b up other =
    value_cmp-total.antisymm a b
    ∙ ap ordering_reverse (less_from a b up (value_eq-other b a (λ e. other (sym e))))

reached : (P : Value → Type 0) (k : Value) (back : List Value) → Each P (map key_in back)
    → Each (λ p. key_of p ≡ Some k) back → 0 < length back → P k
reached P k [] e same some = absurd (omega arith)
reached P k (b ∷ bs) e same some = subst P (key_in-keyed b k same.0) e.0

-- the keys of the pairs in front are less, where the last of them has another
lesser : (k : Value) (front back : List Value) → Each IsPair front
    → Rises (map key_in front ++ map key_in back) → Each (λ p. key_of p ≡ Some k) back
    → 0 < length back
    → ((p : Value) → slice_get front (length front - 1) ≡ Some p → key_of p ≡ Some k → ⊥)
    → Each (λ x. value_cmp (key_in x) k ≡ Less) front
lesser k [] back pairs r same some ends = tt
lesser k (x ∷ []) back pairs r same some ends = (
  less_than (key_in x) k (reached (NotBelow (key_in x)) k back r.0 same some)
      (λ e. ends x refl (is_keyed x pairs.0 ∙ ap Some e)),
  tt,
)
lesser k (x ∷ y ∷ ys) back pairs r same some ends =
    let at : length (x ∷ y ∷ ys) - 1 ≡ suc (length (y ∷ ys) - 1) = omega arith in
    let rest = lesser k (y ∷ ys) back pairs.1 r.1 same some
    (λ p e. ends p (ap (slice_get (x ∷ y ∷ ys)) at ∙ e)) in
    let next : NotBelow (key_in y) k
    = ap is_lt (value_cmp-total.antisymm k (key_in y) ∙ ap ordering_reverse rest.0) in (
      less_than (key_in x) k (NotBelow-trans (key_in x) (key_in y) k r.0.0 next)
          (λ e. let low = subst (λ z. NotBelow z (key_in y)) e r.0.0 in
          let less = ap is_lt rest.0 in cc),
      rest,
    )

keyed_part : (P : Value → Type 0) (x : Value) (o : Option Parts) (ps : List Parts)
    → P (option_map_or (λ k. k) (option_map (λ parts. parts.0) o) x) → Each (λ p. P (key p)) ps
    → Each (λ p. P (key p)) (cons_option o ps)
keyed_part P x None ps e rest = rest
keyed_part P x (Some parts) ps e rest = (e, rest)

keyed_parts : (P : Value → Type 0) (xs : List Value) → Each (λ x. P (key_in x)) xs
    → Each (λ p. P (key p)) (pairs_of xs)
keyed_parts P [] e = tt
keyed_parts P (x ∷ xs) e = keyed_part P x (parts_of x) (pairs_of xs) e.0 (keyed_parts P xs e.1)

-- pairs in order of their keys, of which those from place n on have the key k, and the one before
-- another
groups_of_last : (xs : List Value) (k : Value) (n : ℕ) → Each IsPair xs → KeysRise xs
    → n < length xs → IsLastRun (Some k) xs n
    → grouped xs
    ≡ grouped (take n xs) ++ pair k (value.List (bag_of (held_by (drop n xs)))) ∷ []
groups_of_last xs k n pairs up some r =
    let front = take n xs in
    let back = drop n xs in
    let whole : xs ≡ front ++ back = sym (take-append-drop n xs) in
    let many : 0 < length back = omega (arith, some, length-drop n xs) in
    let count : length front ≡ n = length-take-le n xs r.within in
    let rise : Rises (map key_in front ++ map key_in back)
    = subst Rises (ap (map key_in) whole ∙ map-append key_in front back) up in
    let below = lesser k front back (Each-take IsPair n xs pairs) rise r.same many
    (λ p at. r.ends p (ap (λ m. slice_get front (m - 1)) (sym count) ∙ at)) in
    let of_k = parts_of_key k back r.same in
    ap grouped whole ∙ ap grouped_pairs (filter_map-append parts_of front back)
    ∙ grouped-over (λ j. value_cmp j k ≡ Less) (λ j. j ≡ k) (λ x y u o. ap (value_cmp x) o ∙ u)
    (pairs_of front) (pairs_of back) (keyed_parts (λ j. value_cmp j k ≡ Less) front below) of_k
    ∙ ap (λ l. grouped front ++ l)
    (one_key-parts k (pairs_of back) of_k (some_parts k back r.same many))

-- a run of the last pair's key is not empty
run_some : (k : Value) (xs : List Value) (n : ℕ) (x : Value) → 0 < length xs
    → x ≡ get_or xs (length xs - 1) x → key_of x ≡ Some k → IsLastRun (Some k) xs n
    → n < length xs
run_some k xs n x some is keyed r = elim (cases_lt n (length xs)) [
  | inl below ↦ below
  | inr past ↦
      let whole : take n xs ≡ xs = take_all n xs past in
      let end : n ≡ length xs = omega (arith, past, r.within) in
      absurd (r.ends x ((λ i. slice_get (whole i) (end i - 1))
      ∙ slice_get_read xs (length xs) (length xs - 1) x refl (omega (arith, some)) is) keyed)
]

-- ---- the loop over the keys

pub groups_begin : (pairs left : List Ref) (groups : List Value) → IsPermutation pairs left
    → groups ≡ [] → grouped (referred pairs) ≡ grouped (referred left) ++ reverse groups
groups_begin pairs left groups moved none =
    sym (moved_groups (referred pairs) (referred left) (IsPermutation-map now pairs left moved))
    ∙ sym (append-nil (grouped (referred left)))
    ∙ ap (λ gs. grouped (referred left) ++ reverse gs) (sym none)

-- left are so many, the last of them x; ds are they, of which a run of its key is known
module _ (left ds : List Ref) (x : Ref) (k : Value) (m n : ℕ)
    (pairs : All (λ (p : Ref). IsPair p.now) left) (up : KeysRise (referred left))
    (same : ds ≡ left) (many : m ≡ length left) (some : 0 < m) (is : x ≡ get_or left (m - 1) x)
    (keyed : key_of x.now ≡ Some k) (run : IsLastRun (Some k) (referred ds) n) where
  run_left : IsLastRun (Some k) (referred left) n
  run_left = subst (λ l. IsLastRun (Some k) (referred l) n) same run

  count : length (referred left) ≡ m
  count = omega (arith, length-map left now, many)

  last : x.now ≡ get_or (referred left) (length (referred left) - 1) x.now
  last =
      ap now is ∙ sym (get_or-map now left (m - 1) x x.now (omega (arith, some, many)))
      ∙ ap (λ i. get_or (referred left) (i - 1) x.now) (sym count)

  inside_left : n < length (referred left)
  inside_left =
      run_some k (referred left) n x.now (omega (arith, some, count)) last keyed run_left

  pub fewer : n < length left
  fewer = omega (arith, inside_left, length-map left now)

  pairs_left : (rest : List Ref) → rest ≡ take n left → All (λ (p : Ref). IsPair p.now) rest
  pairs_left rest e =
      All-same (λ (p : Ref). IsPair p.now) rest (take n left) e
      (All-take (λ (p : Ref). IsPair p.now) n left pairs)

  rises_left : (rest : List Ref) → rest ≡ take n left → KeysRise (referred rest)
  rises_left rest e =
      subst KeysRise (sym (ap referred e ∙ sym (take-map now n left)))
      (subst Rises (take-map key_in n (referred left))
      (Rises-take n (map key_in (referred left)) up))

  groups_grow : (whole groups grown : List Value) (group : Value) (es rest : List Ref)
      → whole ≡ grouped (referred left) ++ reverse groups → es ≡ left
      → group
      ≡ pair k (value.List (bag_of (held_by (referred (take (length es - n) (drop n es))))))
      → grown ≡ groups ++ group ∷ [] → rest ≡ take n left
      → whole ≡ grouped (referred rest) ++ reverse grown
  groups_grow whole groups grown group es rest all these made push fewer_left =
      let pair_each = Each-map IsPair now left (each_from (λ (p : Ref). IsPair p.now) left pairs) in
      let tail : referred (take (length es - n) (drop n es)) ≡ drop n (referred left)
      = ap referred (take_rest es n) ∙ sym (drop-map now n es) ∙ ap (λ l. drop n (referred l)) these
      in
      let is_group : group ≡ pair k (value.List (bag_of (held_by (drop n (referred left)))))
      = made ∙ ap (λ l. pair k (value.List (bag_of (held_by l)))) tail in
      all
      ∙ ap (λ l. l ++ reverse groups)
      (groups_of_last (referred left) k n pair_each up inside_left run_left)
      ∙ ap (λ g. (grouped (take n (referred left)) ++ g ∷ []) ++ reverse groups) (sym is_group)
      ∙ append_assoc (grouped (take n (referred left))) (group ∷ []) (reverse groups)
      ∙ (λ i. grouped ((take-map now n left ∙ sym (ap referred fewer_left)) i)
      ++ sym (ap reverse push ∙ reverse-append groups (group ∷ [])) i)

  -- what holds of the pairs that are left once the group was made
  pub one_more : (whole groups grown : List Value) (group : Value) (es rest : List Ref)
      → whole ≡ grouped (referred left) ++ reverse groups → es ≡ left
      → group
      ≡ pair k (value.List (bag_of (held_by (referred (take (length es - n) (drop n es))))))
      → grown ≡ groups ++ group ∷ [] → rest ≡ take n left
      → All (λ (p : Ref). IsPair p.now) rest × KeysRise (referred rest)
      × (whole ≡ grouped (referred rest) ++ reverse grown)
  one_more whole groups grown group es rest all these made push fewer_left = (
    pairs_left rest fewer_left,
    rises_left rest fewer_left,
    groups_grow whole groups grown group es rest all these made push fewer_left,
  )
