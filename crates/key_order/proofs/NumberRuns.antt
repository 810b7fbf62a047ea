-- Pairs of lesser numbers have groups of their own, which stand first.
use Rattle.std.proofs.Common.{◌≡◌, ◌+◌, ◌<◌, ◌≤◌, ℕ, true, Some, None, Option, List, [], ◌∷◌, ◌++◌, append_assoc, drop, get_or, inl, inr, length, length-drop, take, refl, sym, ap, ◌∙◌, subst, arith}
use Rattle.std.specs.Prelude.{All, IsSome, option_map}
use Rattle.std.specs.List.{AllByRecursion as Each, cons_option, list_all}
use Rattle.std.specs.List.Sorted.{IsNonDecreasingBy}
use Rattle.std.specs.declared.cmp.Ordering.TheVariants.{Less}
use Rattle.std.proofs.lemmas.Bool.{cases_lt}
use Rattle.std.proofs.lemmas.List.{drop-drop, get_or-drop, get_or_default, length-map, map-append, take-append-drop}
use Rattle.std.proofs.lemmas.List.Elements.{All-drop, All-map, All-more, All-same, All-take, filter_map-append}
use Rattle.std.proofs.lemmas.List.Sorted.{IsNonDecreasingBy-drop}
use Rattle.flume_value.specs.declared.value.Value.{Value}
use Rattle.flume_value.specs.declared.value.Value.TheVariants as value
use Rattle.flume_value.specs.Bag.{bag_of}
use Rattle.flume_value.specs.Order.{value_cmp}
use Rattle.flume_value.proofs.BoolLemmas.{both_true}
use Rattle.flume_value.proofs.EachLemmas.{each_from, Each-map, Each-weaker}
use Rattle.flume_value.proofs.ReferenceLemmas.{referred}
use Rattle.bag_groups.specs.Pairs.{IsPair, key_of, pair, pairs_of, parts_of}
use Rattle.bag_groups.specs.Groups.{grouped, grouped_pairs}
use Rattle.bag_groups.specs.Pairs.{held_by}
use Rattle.bag_groups.proofs.MemberLemmas.{referred_all}
use Rattle.bag_groups.proofs.PairLemmas.{Parts}
use Rattle.bag_groups.proofs.PairOrder.{same-value_eq}
use Rattle.key_order.specs.Numbers.{key_number, IsHeldAtTop}
use Rattle.key_order.specs.inner.Numbered.{IsFirstRun, has_key, is_key}
use Rattle.key_order.proofs.Dividing.{key, grouped-over, one_key-parts, parts_of_key, some_parts}
use Rattle.key_order.proofs.Ordering.{key_less}
use Rattle.key_order.proofs.Pairing.{told, Holds, Numbered, Ref}

abbrev pub number_of : Numbered → ℕ
number_of e = e.0

abbrev pub pair_at : Numbered → Value
pair_at e = e.1.now

-- ---- keys up to a number, and keys above it

abbrev pub UpTo : ℕ → Value → Type 0
UpTo n k = IsHeldAtTop k × (key_number k ≤ n)

abbrev pub Above : ℕ → Value → Type 0
Above n k = IsHeldAtTop k × (n < key_number k)

number_less : (n : ℕ) (x y : Value) → UpTo n x → Above n y → value_cmp x y ≡ Less
number_less n x y u o =
    let l : key_number x < key_number y = omega (arith, u.1, o.1) in key_less x y u.0 o.0 l

-- ---- pairs with their numbers

keyed_part : (Q : ℕ → Type 0) (m : ℕ) (k : Value) (o : Option Parts) (ps : List Parts)
    → option_map (λ parts. parts.0) o ≡ Some k → IsHeldAtTop k → m ≡ key_number k → Q m
    → Each (λ p. IsHeldAtTop (key p) × Q (key_number (key p))) ps
    → Each (λ p. IsHeldAtTop (key p) × Q (key_number (key p))) (cons_option o ps)
keyed_part Q m k None ps e held is q rest = cc e
keyed_part Q m k (Some parts) ps e held is q rest =
    let same : k ≡ key parts = cc in (
      (subst IsHeldAtTop same held, subst Q (is ∙ ap key_number same) q),
      rest,
    )

-- what holds of the numbers of pairs, holds of the numbers of their keys
keyed_parts : (Q : ℕ → Type 0) (ns : List Numbered) → Each Holds ns
    → Each (λ (e : Numbered). Q e.0) ns
    → Each (λ p. IsHeldAtTop (key p) × Q (key_number (key p))) (pairs_of (told ns))
keyed_parts Q [] h q = tt
keyed_parts Q (e ∷ ns) h q =
    keyed_part Q e.0 h.0.key (parts_of e.1.now) (pairs_of (told ns)) h.0.of_pair h.0.held h.0.is
    q.0 (keyed_parts Q ns h.1 q.1)

-- the groups of pairs up to a number, and of pairs above it
groups_of_both : (n : ℕ) (ns ms : List Numbered) → Each Holds ns → Each Holds ms
    → Each (λ (e : Numbered). e.0 ≤ n) ns → Each (λ (e : Numbered). n < e.0) ms
    → grouped (told ns ++ told ms) ≡ grouped (told ns) ++ grouped (told ms)
groups_of_both n ns ms h g u o =
    ap grouped_pairs (filter_map-append parts_of (told ns) (told ms))
    ∙ grouped-over (UpTo n) (Above n) (number_less n) (pairs_of (told ns)) (pairs_of (told ms))
    (keyed_parts (λ m. m ≤ n) ns h u) (keyed_parts (λ m. n < m) ms g o)

-- ---- pairs of one key

key_by : (k : Value) (o : Option Value) → is_key k o ≡ true → o ≡ Some k
key_by k None h = cc h
key_by k (Some other) h = ap Some (same-value_eq other k h)

of_key_each : (k : Value) (ns : List Numbered)
    → list_all (λ (e : Numbered). has_key k e.1.now) ns ≡ true
    → Each (λ (e : Numbered). key_of e.1.now ≡ Some k) ns
of_key_each k [] h = tt
of_key_each k (e ∷ ns) h =
    let rest = list_all (λ (m : Numbered). has_key k m.1.now) ns in
    let both = both_true (has_key k e.1.now) rest h in
    (key_by k (key_of e.1.now) both.0, of_key_each k ns both.1)

-- the one group of pairs that all have the key
pub group_of_one : (k : Value) (ns : List Numbered) → 0 < length ns
    → list_all (λ (e : Numbered). has_key k e.1.now) ns ≡ true
    → grouped (told ns) ≡ pair k (value.List (bag_of (held_by (told ns)))) ∷ []
group_of_one k ns some h =
    let each = Each-map (λ x. key_of x ≡ Some k) pair_at ns (of_key_each k ns h) in
    one_key-parts k (pairs_of (told ns)) (parts_of_key k (told ns) each)
    (some_parts k (told ns) each (omega (arith, some, length-map ns pair_at)))

-- ---- the loop over the runs

groups_at : (ns : List Numbered) (end : ℕ) → All Holds ns → IsFirstRun number_of ns end
    → grouped (told ns) ≡ grouped (told (take end ns)) ++ grouped (told (drop end ns))
groups_at ns end all run =
    let front = take end ns in
    let back = drop end ns in
    ap (λ l. grouped (told l)) (sym (take-append-drop end ns))
    ∙ ap grouped (map-append pair_at front back)
    ∙ groups_of_both run.first front back (each_from Holds front (All-take Holds end ns all))
    (each_from Holds back (All-drop Holds end ns all))
    (Each-weaker (λ (e : Numbered). e.0 ≡ run.first) (λ (e : Numbered). e.0 ≤ run.first)
    (λ e same. omega (arith, same)) front
    (each_from (λ (e : Numbered). e.0 ≡ run.first) front run.same))
    (each_from (λ (e : Numbered). run.first < e.0) back run.above)

-- rest are those from place i on
module _ (ns rest : List Numbered) (i : ℕ) (all : All Holds ns) (is : rest ≡ drop i ns) where
  pub holds_left : All Holds rest
  holds_left = All-same Holds rest (drop i ns) is (All-drop Holds i ns all)

  pub rises_left : IsNonDecreasingBy number_of ns → IsNonDecreasingBy number_of rest
  rises_left up =
      subst (IsNonDecreasingBy number_of) (sym is) (IsNonDecreasingBy-drop number_of i ns up)

  pub one_run_more : (end : ℕ) (whole groups grown : List Value) (run : List Numbered)
      → IsFirstRun number_of rest end → run ≡ take end rest
      → whole ≡ groups ++ grouped (told (drop i ns)) → grown ≡ groups ++ grouped (told run)
      → whole ≡ grown ++ grouped (told (drop (i + end) ns))
  one_run_more end whole groups grown run first front so_far push =
      let behind : drop end rest ≡ drop (i + end) ns = ap (drop end) is ∙ drop-drop end i ns in
      let back : List Value = grouped (told (drop (i + end) ns)) in
      so_far ∙ ap (λ l. groups ++ grouped (told l)) (sym is)
      ∙ ap (λ l. groups ++ l) (groups_at rest end holds_left first)
      ∙ (λ j. groups ++ (grouped (told (sym front j)) ++ grouped (told (behind j))))
      ∙ sym (append_assoc groups (grouped (told run)) back)
      ∙ ap (λ l. l ++ back) (sym push)

is_pair : (k : Value) (o : Option Parts) → option_map (λ parts. parts.0) o ≡ Some k → IsSome o
is_pair k None e = cc e
is_pair k (Some parts) e = refl

pub pairs_held : (ns run : List Numbered) (end : ℕ) → All Holds ns → run ≡ take end ns
    → All (λ (e : Numbered). IsPair e.1.now) run
pairs_held ns run end all front =
    All-same (λ (e : Numbered). IsPair e.1.now) run (take end ns) front
    (All-take (λ (e : Numbered). IsPair e.1.now) end ns (λ k d l. let at = all k d l in
    is_pair at.key (parts_of (get_or ns k d).1.now) at.of_pair))

pub refs_held : (run : List Numbered) (refs : List Ref)
    → All (λ (e : Numbered). IsPair e.1.now) run → referred refs ≡ told run
    → All (λ (r : Ref). IsPair r.now) refs
refs_held run refs all same =
    referred_all IsPair refs (told run) same (All-map IsPair pair_at run all)

-- ---- where the first run ends

run_over : {X : Type 0} (number : X → ℕ) (xs : List X) (end : ℕ) (first : X)
    → IsNonDecreasingBy number xs → 0 < length xs
    → (end < length xs → (x : X) → number (get_or xs end x) ≡ number (get_or xs 0 first) → ⊥)
    → All (λ x. number (get_or xs 0 first) < number x) (drop end xs)
run_over number xs end first rise some ends k d below =
    let inside : end + k < length xs = omega (arith, below, length-drop end xs) in
    let least : number (get_or xs 0 d) ≡ number (get_or xs 0 first)
    = ap number (sym (get_or_default xs 0 first d some)) in
    let from : number (get_or xs 0 d) ≤ number (get_or xs end d)
    = rise 0 end d (omega arith) (omega (arith, inside)) in
    let on : number (get_or xs end d) ≤ number (get_or xs (end + k) d)
    = rise end (end + k) d (omega arith) inside in
    let same : number (get_or (drop end xs) k d) ≡ number (get_or xs (end + k) d)
    = ap number (get_or-drop end xs k d) in
    elim (cases_lt (number (get_or xs 0 first)) (number (get_or xs end d))) [
      | inl lower ↦ omega (arith, lower, on, same)
      | inr past ↦ absurd (ends (omega (arith, inside)) d (omega (arith, past, from, least)))
    ]

abbrev pub first_number : List Numbered → Numbered → ℕ
first_number ns first = number_of (get_or ns 0 first)

-- ends are told of the number that stands there
pub first_run : (ns : List Numbered) (end : ℕ) (first : Numbered)
    → IsNonDecreasingBy number_of ns → 0 < length ns
    → All (λ (e : Numbered). e.0 ≡ first_number ns first) (take end ns)
    → (end < length ns → (x : Numbered) → number_of (get_or ns end x) ≡ first_number ns first → ⊥)
    → IsFirstRun number_of ns end
first_run ns end first rise some same ends = record {
  first = first_number ns first;
  same = same;
  above = run_over number_of ns end first rise some ends;
}

-- another number stands there
pub ends_at : (ns : List Numbered) (end n : ℕ) (at : Numbered)
    → (number_of (get_or ns end at) ≡ n → ⊥) → end < length ns → (x : Numbered)
    → number_of (get_or ns end x) ≡ n → ⊥
ends_at ns end n at other within x same =
    other (ap number_of (get_or_default ns end at x within) ∙ same)

pub same_begin : (ns : List Numbered) (first : Numbered) → 0 < length ns
    → All (λ (e : Numbered). e.0 ≡ first_number ns first) (take 1 ns)
same_begin ns first some =
    All-more (λ (e : Numbered). e.0 ≡ first_number ns first) ns 0 first some
    (λ k d l. absurd (omega (arith, l))) refl

pub same_more : (ns : List Numbered) (i n : ℕ) (x : Numbered) → i < length ns
    → All (λ (e : Numbered). e.0 ≡ n) (take i ns) → number_of (get_or ns i x) ≡ n
    → All (λ (e : Numbered). e.0 ≡ n) (take (i + 1) ns)
same_more ns i n x within all same =
    All-more (λ (e : Numbered). e.0 ≡ n) ns i x within all same
