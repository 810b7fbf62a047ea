-- The types of pairs, of their groups, and of what combiners make of them.
use Rattle.std.proofs.Common.{◌≡◌, ◌-◌, ◌&&◌, Bool, true, false, if◌then◌else◌, ℤ, pos, negsuc, zero, suc, List, [], ◌∷◌, drop, length, map, Option, Some, is_some, refl, sym, ap, ◌∙◌, subst}
use Rattle.std.specs.Prelude.{All, Result, Ok, Err, codes, filter, option_map}
use Rattle.std.specs.List.{AllByRecursion as Each, cons_option, list_all, list_any, flat_map}
use Rattle.std.specs.Option.{IsSomeAnd}
use Rattle.std.proofs.lemmas.List.Elements.{All-from_recursion}
use Rattle.std.proofs.lemmas.List.Filters.{All-dedup}
use Rattle.flume_value.specs.declared.fault.Kind.{Kind}
use Rattle.flume_value.specs.declared.fault.Kind.TheVariants.{Overflow}
use Rattle.flume_value.specs.declared.value.Value.{Value, Value-F, out-Value}
use Rattle.flume_value.specs.declared.value.Value.TheVariants as variant
use Rattle.flume_value.specs.Bag.{bag_of}
use Rattle.flume_value.specs.Equality.{value_eq}
use Rattle.flume_value.specs.Ranges.{fits_int}
use Rattle.flume_value.proofs.BagLemmas.{Each-bag_of}
use Rattle.flume_value.proofs.BoolLemmas.{both_true, and_both}
use Rattle.flume_value.proofs.EachLemmas.{each_from, Each-append, Each-drop, Each-filter, Each-map, Each-weaker}
use Rattle.flume_types.specs.declared.types.Ty.{Ty, Ty-F}
use Rattle.flume_types.specs.declared.types.Ty.TheVariants as ty
use Rattle.flume_types.specs.declared.types.Field.{Field}
use Rattle.flume_types.specs.Tables.{table_of}
use Rattle.flume_types.specs.Typing.{AllHave, Has, has_type, layer_has}
use Rattle.flume_types.proofs.PartLemmas.{at_level, bool_in, has_bool, has_int, has_list, int_in, list_in}
use Rattle.flume_types.proofs.TypingLemmas.{has_type-Rec}
use Rattle.bag_groups.specs.Pairs.{pair, IsPair, parts_at, parts_of, pairs_of}
use Rattle.bag_groups.specs.Groups.{keys_of, values_of, grouped}
use Rattle.bag_groups.specs.Combining.{combined_pair, group_of, groups_in}
use Rattle.bag_groups.proofs.CombiningLemmas.{Group, given, group_by}
use Rattle.bag_groups.proofs.MemberLemmas.{Each-distinct}
use Rattle.bag_groups.proofs.PairLemmas.{Parts}
use Rattle.combine_table.specs.declared.comb.Comb.{Comb}
use Rattle.combine_table.specs.declared.comb.Comb.TheVariants as by
use Rattle.combine_table.specs.Contents.{IsBool, IsInt, truth_of}
use Rattle.combine_table.specs.Combinations.{Suits, combined, least, first_or_bad_index, int_total, wrapped, mean_quotient, mean, distinct}
use Rattle.keyed_steps.specs.Keyed.{IsGroup}
use Rattle.keyed_steps.specs.Types.{TakesType, gives_type}

-- ---- pairs

abbrev fields_of : Ty → Ty → List (Field Ty)
fields_of key value =
    record { name = codes "key"; ty = key } ∷ record { name = codes "value"; ty = value } ∷ []

pair_at : (key value : Ty) (x : Value-F Value)
    → layer_has has_type x (Ty-F.Rec (fields_of key value)) ≡ true
    → (k : Value) × (v : Value) × (parts_at x ≡ Some (k, v)) × Has key k × Has value v
pair_at key value (Value-F.Rec []) h = cc
pair_at key value (Value-F.Rec (k ∷ [])) h = let e : false ≡ true =
    (both_true (has_type k key) false h).1 in cc
pair_at key value (Value-F.Rec (k ∷ v ∷ [])) h =
    let first = both_true (has_type k key) (has_type v value && true) h in
    (k, v, refl, first.0, (both_true (has_type v value) true first.1).0)
pair_at key value (Value-F.Rec (k ∷ v ∷ w ∷ ws)) h =
    let first = both_true (has_type k key) (has_type v value && false) h in
    let e : false ≡ true = (both_true (has_type v value) false first.1).1 in cc
pair_at key value _ h = cc

-- a member of a table is a pair of a key and a value
pub table_pair : (key value : Ty) (p : Value) → Has (table_of key value) p
    → (k : Value) × (v : Value) × (parts_of p ≡ Some (k, v)) × Has key k × Has value v
table_pair key value p h =
    pair_at key value (out-Value p)
    (at_level p (table_of key value) (Ty-F.Rec (fields_of key value))
    (ty.outs-Rec (fields_of key value)) h)

pub Has-pair : (key value : Ty) (k v : Value) → Has key k → Has value v
    → Has (table_of key value) (pair k v)
Has-pair key value k v g h =
    has_type-Rec (k ∷ v ∷ []) (fields_of key value)
    ∙ and_both (has_type k key) (has_type v value && true) g
    (and_both (has_type v value) true h refl)

-- ---- lists

-- a member of a table of lists is a group
pub table_group : (key value : Ty) (g : Value) → Has (table_of key (ty.List value)) g
    → (k : Value) × (l : List Value) × (group_of g ≡ Some (k, l)) × Has key k
    × Each (Has value) l
table_group key value g h =
    let (k, v, is, typed, list) = table_pair key (ty.List value) g h in
    let p = list_in v value list in (
      k,
      p.0,
      group_by g k v (Some p.0) (ap (option_map (λ (it : Parts). it.0)) is)
          (ap (option_map (λ (it : Parts). it.1)) is) p.1,
      typed,
      p.2,
    )

-- ---- what combiners take

is_int_value : (t : Ty) (v : Value) → t ≡ ty.Int → Has t v → IsInt v
is_int_value t v e h = ap is_some (int_in v (subst (λ u. Has u v) e h)).1

is_bool_value : (t : Ty) (v : Value) → t ≡ ty.Bool → Has t v → IsBool v
is_bool_value t v e h = ap is_some (bool_in v (subst (λ u. Has u v) e h)).1

suits : (comb : Comb) (t : Ty) → TakesType comb t → (v : Value) → Has t v → Suits comb v
suits by.Sum t e v h = is_int_value t v e h
suits by.Count t e v h = tt
suits by.Min t e v h = tt
suits by.Max t e v h = tt
suits by.All t e v h = is_bool_value t v e h
suits by.Any t e v h = is_bool_value t v e h
suits (by.Top n) t e v h = tt
suits by.Mean t e v h = is_int_value t v e h
suits by.Distinct t e v h = tt

pub group_suits : (comb : Comb) (key value : Ty) → TakesType comb value → (g : Value)
    → Has (table_of key (ty.List value)) g → IsGroup comb g
group_suits comb key value takes g h =
    let (k, l, is, typed, members) = table_group key value g h in
    subst (λ (o : Option Group). IsSomeAnd o (λ it. All (Suits comb) it.1)) (sym is)
    (All-from_recursion (Suits comb) l
    (Each-weaker (Has value) (Suits comb) (suits comb value takes) l members))

-- ---- what combiners give

int_if : (b : Bool) (n : ℤ) (w : Value) → (if b then Ok (variant.Int n) else Err Overflow) ≡ Ok w
    → Has ty.Int w
int_if true n w e = let same : variant.Int n ≡ w = cc in subst (Has ty.Int) same (has_int n)
int_if false n w e = cc

first_has : (t : Ty) (xs : List Value) (w : Value) → Each (Has t) xs → first_or_bad_index xs ≡ Ok w
    → Has t w
first_has t [] w h e = cc
first_has t (x ∷ xs) w h e = let same : x ≡ w = cc in subst (Has t) same h.0

Each-least : (t : Ty) (xs : List Value) → Each (Has t) xs → Each (Has t) (least 1 xs)
Each-least t [] h = tt
Each-least t (x ∷ xs) h = (h.0, tt)

abbrev combined_to : Value → Result Value Kind
combined_to v = Ok v

is_what : (t : Ty) (v w : Value) → Has t v → combined_to v ≡ Ok w → Has t w
is_what t v w h e = let same : v ≡ w = cc in subst (Has t) same h

mean_has : (s c : ℤ) (w : Value) → mean s c ≡ Ok w → Has ty.Int w
mean_has s (pos zero) w e = cc
mean_has s (pos (suc n)) w e =
    int_if (fits_int (mean_quotient s (suc n))) (mean_quotient s (suc n)) w e
mean_has s (negsuc n) w e = cc

Each-once : (t : Ty) (b : List Value) → Each (Has t) b → Each (Has t) (distinct b)
Each-once t b h =
    each_from (Has t) (distinct b)
    (All-dedup value_eq (Has t) b (All-from_recursion (Has t) b h))

combined_has : (comb : Comb) (t : Ty) (b : List Value) (w : Value) → Each (Has t) b
    → combined comb b ≡ Ok w → Has (gives_type comb t) w
combined_has by.Sum t b w h e =
    int_if (fits_int (wrapped (int_total b))) (wrapped (int_total b)) w e
combined_has by.Count t b w h e = int_if _ _ w e
combined_has by.Min t b w h e = first_has t (least 1 b) w (Each-least t b h) e
combined_has by.Max t b w h e =
    first_has t (drop (length b - 1) b) w (Each-drop (Has t) (length b - 1) b h) e
combined_has by.All t b w h e =
    is_what ty.Bool (variant.Bool (list_all truth_of b)) w (has_bool (list_all truth_of b)) e
combined_has by.Any t b w h e =
    is_what ty.Bool (variant.Bool (list_any truth_of b)) w (has_bool (list_any truth_of b)) e
combined_has (by.Top n) t b w h e =
    is_what (ty.List t) (variant.List (drop (length b - n) b)) w
    (has_list t (drop (length b - n) b) (Each-drop (Has t) (length b - n) b h)) e
combined_has by.Mean t b w h e = mean_has (wrapped (int_total b)) (wrapped (pos (length b))) w e
combined_has by.Distinct t b w h e =
    is_what (ty.List t) (variant.List (distinct b)) w (has_list t (distinct b) (Each-once t b h)) e

made_has : (key t : Ty) (k : Value) (r : Result Value Kind) → Has key k
    → ((w : Value) → r ≡ Ok w → Has t w) → Each (Has (table_of key t)) (combined_pair k r)
made_has key t k (Ok v) g h = (Has-pair key t k v g (h v refl), tt)
made_has key t k (Err kind) g h = tt

pub combined_pairs_have : (comb : Comb) (key value : Ty) (gs : List Value)
    → Each (Has (table_of key (ty.List value))) gs
    → Each (Has (table_of key (gives_type comb value)))
    (flat_map (given (combined comb)) (groups_in gs))
combined_pairs_have comb key value [] e = tt
combined_pairs_have comb key value (g ∷ gs) e =
    let (k, l, is, typed, members) = table_group key value g e.0 in
    let P = Has (table_of key (gives_type comb value)) in
    subst
    (λ (o : Option Group). Each P
    (flat_map (given (combined comb)) (cons_option o (groups_in gs))))
    (sym is)
    (Each-append P (given (combined comb) (k, l)) (flat_map (given (combined comb)) (groups_in gs))
    (made_has key (gives_type comb value) k (combined comb (bag_of l)) typed
    (λ w same. combined_has comb value (bag_of l) w (Each-bag_of (Has value) l members) same))
    (combined_pairs_have comb key value gs e.1))

-- ---- the groups of a table

abbrev pub HaveParts : Ty → Ty → Parts → Type 0
HaveParts key value p = Has key p.0 × Has value p.1

pub pairs_have : (key value : Ty) (ps : List Value) → Each (Has (table_of key value)) ps
    → Each (HaveParts key value) (pairs_of ps)
pairs_have key value [] e = tt
pairs_have key value (p ∷ ps) e =
    let (k, v, is, typed, held) = table_pair key value p e.0 in
    subst (λ (o : Option Parts). Each (HaveParts key value) (cons_option o (pairs_of ps))) (sym is)
    ((typed, held), pairs_have key value ps e.1)

module _ (key value : Ty) (ps : List Value) (e : Each (Has (table_of key value)) ps) where
  abbrev parts : List Parts
  parts = pairs_of ps

  keys_have : Each (Has key) (keys_of parts)
  keys_have =
      Each-distinct (Has key) (bag_of (map (λ (p : Parts). p.0) parts))
      (Each-bag_of (Has key) (map (λ (p : Parts). p.0) parts)
      (Each-map (Has key) (λ (p : Parts). p.0) parts
      (Each-weaker (HaveParts key value) (λ p. Has key p.0) (λ p h. h.0) parts
      (pairs_have key value ps e))))

  values_have : (k : Value) → Each (Has value) (values_of k parts)
  values_have k =
      let of_key = filter (λ (p : Parts). value_eq p.0 k) parts in
      Each-bag_of (Has value) (map (λ (p : Parts). p.1) of_key)
      (Each-map (Has value) (λ (p : Parts). p.1) of_key
      (Each-filter (λ (p : Parts). Has value p.1) (λ p. value_eq p.0 k) parts
      (Each-weaker (HaveParts key value) (λ p. Has value p.1) (λ p h. h.1) parts
      (pairs_have key value ps e))))

  pub groups_have : Each (Has (table_of key (ty.List value))) (grouped ps)
  groups_have =
      Each-map (Has (table_of key (ty.List value)))
      (λ k. pair k (variant.List (values_of k parts))) (keys_of parts)
      (Each-weaker (Has key)
      (λ k. Has (table_of key (ty.List value)) (pair k (variant.List (values_of k parts))))
      (λ k h. Has-pair key (ty.List value) k (variant.List (values_of k parts)) h
      (has_list value (values_of k parts) (values_have k))) (keys_of parts) keys_have)

-- ---- the same of all members

pub all_pairs : (key value : Ty) (ps : List Value) → AllHave (table_of key value) ps → All IsPair ps
all_pairs key value ps all =
    All-from_recursion IsPair ps
    (Each-weaker (Has (table_of key value)) IsPair
    (λ p h. ap is_some (table_pair key value p h).2) ps
    (each_from (Has (table_of key value)) ps all))

pub all_groups : (key value : Ty) (ps : List Value) → AllHave (table_of key value) ps
    → AllHave (table_of key (ty.List value)) (grouped ps)
all_groups key value ps all =
    All-from_recursion (Has (table_of key (ty.List value))) (grouped ps)
    (groups_have key value ps (each_from (Has (table_of key value)) ps all))

pub all_suited : (comb : Comb) (key value : Ty) (gs : List Value) → TakesType comb value
    → AllHave (table_of key (ty.List value)) gs → All (IsGroup comb) gs
all_suited comb key value gs takes all =
    All-from_recursion (IsGroup comb) gs
    (Each-weaker (Has (table_of key (ty.List value))) (IsGroup comb)
    (group_suits comb key value takes) gs
    (each_from (Has (table_of key (ty.List value))) gs all))

pub grouped_suited : (comb : Comb) (key value : Ty) (ps gs : List Value) → TakesType comb value
    → AllHave (table_of key value) ps → gs ≡ grouped ps → All (IsGroup comb) gs
grouped_suited comb key value ps gs takes all e =
    subst (λ l. All (IsGroup comb) l) (sym e)
    (all_suited comb key value (grouped ps) takes (all_groups key value ps all))
