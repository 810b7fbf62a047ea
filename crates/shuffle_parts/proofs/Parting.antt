-- Pairs that are parted one after another.
use Rattle.std.proofs.Common.{◌≡◌, ◌<◌, ◌+◌, ℕ, true, false, cond, List, [], ◌∷◌, ◌++◌, length, get_or, Some, sym, ap, ◌∙◌, subst, arith, append-nil}
use Rattle.std.specs.Prelude.{slice_set, ◌==◌}
use Rattle.std.specs.Option.{option_map_or}
use Rattle.std.proofs.lemmas.List.Elements.{filter-append}
use Rattle.std.proofs.lemmas.List.FromFn.{length-map-range_with_len, get_or-map-range_with_len, map-range_with_len_more}
use Rattle.flume_value.specs.declared.value.Value.{Value}
use Rattle.flume_value.specs.Partitions.{partition_of}
use Rattle.bag_groups.specs.Pairs.{key_of, pairs_of}
use Rattle.combine_table.specs.declared.comb.Comb.{Comb}
use Rattle.partial_tables.specs.Tables.{Pairs}
use Rattle.partial_tables.specs.Merges.{StandFor}
use Rattle.shuffle_parts.specs.Partitions.{is_in_part, falls_in, pairs_in_part, in_parts}
use Rattle.shuffle_parts.proofs.Ranged.{set_ranged}

-- ---- so many empty lists

pub none_more : (n : ℕ) (parts grown : List (List Value)) (part : List Value)
    → parts ≡ in_parts n [] → grown ≡ parts ++ part ∷ [] → part ≡ [] → grown ≡ in_parts (n + 1) []
none_more n parts grown part e g none =
    let nothing : ℕ → List Value = λ p. [] in
    g ∙ (λ i. e i ++ none i ∷ []) ∙ sym (map-range_with_len_more nothing 0 n n (omega arith))

pub length-parted : (n : ℕ) (pairs : List Value) (parts : List (List Value))
    → parts ≡ in_parts n pairs → length parts ≡ n
length-parted n pairs parts e =
    ap length e ∙ length-map-range_with_len (λ p. pairs_in_part n p pairs) 0 n

-- ---- a pair more

falls_by : (n p at : ℕ) (pair key : Value) → key_of pair ≡ Some key → at ≡ partition_of key n
    → falls_in n p pair ≡ (at == p)
falls_by n p at pair key k is =
    ap (λ o. option_map_or (is_in_part n p) o false) k ∙ ap (λ m. m == p) (sym is)

part_more : (n p at : ℕ) (pairs : List Value) (pair key : Value) → key_of pair ≡ Some key
    → at ≡ partition_of key n
    → pairs_in_part n p (pairs ++ pair ∷ [])
    ≡ pairs_in_part n p pairs ++ cond (at == p) (pair ∷ []) []
part_more n p at pairs pair key k is =
    filter-append (falls_in n p) pairs (pair ∷ [])
    ∙ ap (λ b. pairs_in_part n p pairs ++ cond b (pair ∷ []) []) (falls_by n p at pair key k is)

pub parted_more : (n at : ℕ) (pairs : List Value) (parts : List (List Value)) (key pair : Value)
    (old new : List Value) → parts ≡ in_parts n pairs → key_of pair ≡ Some key
    → at ≡ partition_of key n → at < n → old ≡ get_or parts at old → new ≡ old ++ pair ∷ []
    → slice_set parts at new ≡ in_parts n (pairs ++ pair ∷ [])
parted_more n at pairs parts key pair old new e k is within read push =
    let f : ℕ → List Value = λ p. pairs_in_part n p pairs in
    let g : ℕ → List Value = λ p. pairs_in_part n p (pairs ++ pair ∷ []) in
    let here : 0 + at ≡ at = omega arith in
    let was : old ≡ f at = read ∙ ap (λ l. get_or l at old) e
    ∙ get_or-map-range_with_len f 0 n at at old within here in
    let same : (at == at) ≡ true = grind arith in
    let own : g at ≡ f at ++ pair ∷ [] = part_more n at at pairs pair key k is
    ∙ ap (λ b. f at ++ cond b (pair ∷ []) []) same in
    let now : new ≡ g (0 + at) = push ∙ ap (λ l. l ++ pair ∷ []) was ∙ sym own
    ∙ ap g (sym here) in
    ap (λ l. slice_set l at new) e
    ∙ set_ranged f g 0 n at new within now (λ p apart.
    let other : (at == p) ≡ false = subst (λ m. (m == p) ≡ false) here apart in
    sym (part_more n p at pairs pair key k is
    ∙ ap (λ b. f p ++ cond b (pair ∷ []) []) other ∙ append-nil (f p)))

-- ---- where none is left

pub all_taken : {A : Type 0} (done rest whole : List A) → done ++ rest ≡ whole → length rest ≡ 0
    → done ≡ whole
all_taken done [] whole e none = sym (append-nil done) ∙ e
all_taken done (p ∷ rest) whole e none = absurd (omega arith)

-- ---- accumulators of a part

abbrev pub Stands : Comb → Pairs → List Value → Type 0
Stands c partials part = StandFor c partials (pairs_of part)
