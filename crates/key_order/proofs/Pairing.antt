-- Pairs beside the numbers of their keys, one pair more at a time.
use Rattle.std.proofs.Common.{◌≡◌, ◌+◌, ◌<◌, ℕ, Some, List, [], ◌∷◌, ◌++◌, length, map, get_or, take, sym, ap, ◌∙◌}
use Rattle.std.specs.Prelude.{All}
use Rattle.std.specs.Borrow.{Bor}
use Rattle.std.proofs.lemmas.List.{map-append, map_more}
use Rattle.std.proofs.lemmas.List.Elements.{All-push, All-same}
use Rattle.flume_value.specs.declared.value.Value.{Value}
use Rattle.flume_value.proofs.ReferenceLemmas.{referred}
use Rattle.bag_groups.specs.Pairs.{held_by, key_of, value_of}
use Rattle.bag_groups.proofs.PairLemmas.{held-push}
use Rattle.key_order.specs.Numbers.{key_number, IsHeldAtTop}
use Rattle.key_order.specs.inner.Numbered.{IsNumbered}

abbrev pub Ref : Type 0
Ref = Bor Value

abbrev pub Numbered : Type 0
Numbered = ℕ × Ref

abbrev now : Ref → Value
now r = r.now

abbrev pair_at : Numbered → Value
pair_at n = n.1.now

-- the pairs without their numbers
abbrev pub told : List Numbered → List Value
told ns = map (λ (n : Numbered). n.1.now) ns

abbrev pub Holds : Numbered → Type 0
Holds n = IsNumbered n.0 n.1.now

pub told_more : (refs : List Ref) (i : ℕ) (x : Ref) (ns grown : List Numbered) (n : ℕ)
    → i < length refs → x ≡ get_or refs i x → told ns ≡ referred (take i refs)
    → grown ≡ ns ++ (n, x) ∷ [] → told grown ≡ referred (take (i + 1) refs)
told_more refs i x ns grown n within is goes push =
    ap told push ∙ map-append pair_at ns ((n, x) ∷ []) ∙ ap (λ l. l ++ x.now ∷ []) goes
    ∙ ap (λ (q : Ref). referred (take i refs) ++ q.now ∷ []) is
    ∙ sym (map_more now refs i x within)

pub holds_more : (x : Ref) (ns grown : List Numbered) (n : ℕ) (k : Value) → All Holds ns
    → key_of x.now ≡ Some k → n ≡ key_number k → IsHeldAtTop k → grown ≡ ns ++ (n, x) ∷ []
    → All Holds grown
holds_more x ns grown n k all keyed is held push =
    All-same Holds grown (ns ++ (n, x) ∷ []) push
    (All-push Holds ns (n, x) all (record { key = k; of_pair = keyed; held = held; is = is }))

pub refs_more : (ns : List Numbered) (i : ℕ) (x : Numbered) (refs grown : List Ref)
    → i < length ns → x ≡ get_or ns i x → referred refs ≡ told (take i ns)
    → grown ≡ refs ++ x.1 ∷ [] → referred grown ≡ told (take (i + 1) ns)
refs_more ns i x refs grown within is goes push =
    ap referred push ∙ map-append now refs (x.1 ∷ []) ∙ ap (λ l. l ++ x.1.now ∷ []) goes
    ∙ ap (λ (q : Numbered). told (take i ns) ++ q.1.now ∷ []) is
    ∙ sym (map_more pair_at ns i x within)

pub values_more : (ns : List Numbered) (i : ℕ) (x : Numbered) (v : Value)
    (values grown : List Value) → i < length ns → x ≡ get_or ns i x → value_of x.1.now ≡ Some v
    → values ≡ held_by (told (take i ns)) → grown ≡ values ++ v ∷ []
    → grown ≡ held_by (told (take (i + 1) ns))
values_more ns i x v values grown within is e all push =
    let before = told (take i ns) in
    push ∙ ap (λ l. l ++ v ∷ []) all ∙ sym (held-push before x.1.now v e)
    ∙ ap (λ (q : Numbered). held_by (before ++ q.1.now ∷ [])) is
    ∙ ap held_by (sym (map_more pair_at ns i x within))
