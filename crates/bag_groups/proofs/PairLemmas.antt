-- Pairs and their parts.
use Rattle.std.proofs.Common.{◌≡◌, List, [], ◌∷◌, ◌++◌, map, Option, Some, None, refl, sym, ap, ◌∙◌}
use Rattle.std.specs.Prelude.{IsSome, option_map}
use Rattle.std.specs.List.{AllByRecursion as Each, cons_option}
use Rattle.std.proofs.lemmas.List.{map-append}
use Rattle.std.proofs.lemmas.List.Elements.{filter_map-append}
use Rattle.flume_value.specs.declared.value.Value.{Value, Value-F, out-Value, roll-Value, roll-out-Value}
use Rattle.flume_value.specs.declared.value.Value.TheVariants as value
use Rattle.bag_groups.specs.Pairs.{pair, parts_at, parts_of, IsPair, held_by, key_of, pairs_of, value_of}

abbrev pub Parts : Type 0
Parts = Value × Value

-- the pair of these parts
abbrev pub packed : Parts → Value
packed parts = pair parts.0 parts.1

pub parts_of-pair : (k v : Value) → parts_of (pair k v) ≡ Some (k, v)
parts_of-pair k v = ap parts_at (value.outs-Rec (k ∷ v ∷ []))

level_is : (x : Value-F Value) (parts : Parts) → parts_at x ≡ Some parts
    → x ≡ Value-F.Rec (parts.0 ∷ parts.1 ∷ [])
level_is (Value-F.Rec (k ∷ v ∷ [])) parts e =
    let same : ◌≡◌ {A = Parts} (k, v) parts = cc in
    ap (λ (p : Parts). Value-F.Rec (p.0 ∷ p.1 ∷ [])) same
level_is _ parts e = cc e

-- a value that has parts is the pair of them
pair_is : (p : Value) (parts : Parts) → parts_of p ≡ Some parts → p ≡ packed parts
pair_is p parts e =
    sym (roll-out-Value p)
    ∙ ap roll-Value (level_is (out-Value p) parts e
    ∙ sym (value.outs-Rec (parts.0 ∷ parts.1 ∷ [])))
    ∙ roll-out-Value (packed parts)

pub key_of-pair : (k v : Value) → key_of (pair k v) ≡ Some k
key_of-pair k v = ap (λ o. option_map (λ parts. parts.0) o) (parts_of-pair k v)

-- the parts of a pair whose value is known
pub parts_by : (p v : Value) (o : Option Parts) → parts_of p ≡ o
    → option_map (λ parts. parts.1) o ≡ Some v
    → (k : Value) × (p ≡ pair k v) × (option_map (λ parts. parts.0) o ≡ Some k)
parts_by p v None is e = cc e
parts_by p v (Some parts) is e =
    let same : parts.1 ≡ v = cc in
    (parts.0, pair_is p parts is ∙ ap (pair parts.0) same, refl)

-- ---- lists of pairs

pub held-push : (xs : List Value) (p v : Value) → value_of p ≡ Some v
    → held_by (xs ++ p ∷ []) ≡ held_by xs ++ v ∷ []
held-push xs p v e =
    let (k, is, keyed) = parts_by p v (parts_of p) refl e in
    let only : pairs_of (p ∷ []) ≡ (k, v) ∷ []
    = ap (λ o. cons_option o []) (ap parts_of is ∙ parts_of-pair k v) in
    ap (map (λ (q : Parts). q.1)) (filter_map-append parts_of xs (p ∷ [])
    ∙ ap (λ l. pairs_of xs ++ l) only)
    ∙ map-append (λ (q : Parts). q.1) (pairs_of xs) ((k, v) ∷ [])

pub pairs_of-packed : (ps : List Parts) → pairs_of (map packed ps) ≡ ps
pairs_of-packed [] = refl
pairs_of-packed (p ∷ ps) =
    λ i. cons_option (parts_of-pair p.0 p.1 i) (pairs_of-packed ps i)

packed_on : (x : Value) (o : Option Parts) (ps : List Parts) → parts_of x ≡ o → IsSome o
    → map packed (cons_option o ps) ≡ x ∷ map packed ps
packed_on x None ps is some = cc some
packed_on x (Some parts) ps is some = ap (λ y. y ∷ map packed ps) (sym (pair_is x parts is))

-- pairs are those of their parts
pub packed-pairs_of : (xs : List Value) → Each IsPair xs → map packed (pairs_of xs) ≡ xs
packed-pairs_of [] e = refl
packed-pairs_of (x ∷ xs) e =
    packed_on x (parts_of x) (pairs_of xs) refl e.0 ∙ ap (λ l. x ∷ l) (packed-pairs_of xs e.1)
