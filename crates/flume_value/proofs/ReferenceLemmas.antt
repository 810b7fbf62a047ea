-- The values that references refer to, and how they stand in order.
use Rattle.std.proofs.Common.{◌≡◌, ◌+◌, ◌<◌, List, [], ◌∷◌, length, map, get_or, arith, ap, ◌∙◌, subst}
use Rattle.std.specs.Borrow.{Bor}
use Rattle.std.specs.List.Sorted.{IsSorted, IsPermutation}
use Rattle.std.specs.Ordering.{is_lt}
use Rattle.std.specs.declared.cmp.Ordering.{Ordering}
use Rattle.std.proofs.lemmas.List.{get_or-map, length-map}
use Rattle.std.proofs.lemmas.List.Sorted.{IsPermutation-map}
use Rattle.flume_value.specs.Bag.{bag_of}
use Rattle.flume_value.specs.Order.{value_cmp}
use Rattle.flume_value.specs.declared.value.Value.{Value}
use Rattle.flume_value.proofs.BagLemmas.{bag_of-sorted}

-- the values that references refer to
abbrev pub referred : List (Bor Value) → List Value
referred refs = map (λ (v : Bor Value). v.now) refs

referred-IsSorted : (rs : List (Bor Value))
    → IsSorted (λ (x : Bor Value) (y : Bor Value). value_cmp x.now y.now) rs
    → IsSorted value_cmp (referred rs)
referred-IsSorted [] up k d low high = absurd (omega arith)
referred-IsSorted (r ∷ rs) up k d low high =
    let within : k + 1 < length (r ∷ rs)
    = omega (arith, length-map (r ∷ rs) (λ (v : Bor Value). v.now)) in
    let next = get_or-map (λ (v : Bor Value). v.now) (r ∷ rs) (k + 1) r d within in
    let this = get_or-map (λ (v : Bor Value). v.now) (r ∷ rs) k r d (omega arith) in
    ap (λ x. is_lt (value_cmp x (get_or (referred (r ∷ rs)) k d))) next
    ∙ ap (λ y. is_lt (value_cmp (get_or (r ∷ rs) (k + 1) r).now y)) this ∙ up k r low within

-- references sorted by a comparison that is that of values give the list of the bag
pub referred-sorted : (cmp : Value → Value → Ordering) → cmp ≡ value_cmp
    → (xs : List Value) (rs ss : List (Bor Value)) → referred rs ≡ xs → IsPermutation rs ss
    → IsSorted (λ (x : Bor Value) (y : Bor Value). cmp x.now y.now) ss → referred ss ≡ bag_of xs
referred-sorted cmp same xs rs ss e p up =
    bag_of-sorted (referred rs) (referred ss) (IsPermutation-map (λ (v : Bor Value). v.now) rs ss p)
    (referred-IsSorted ss (subst (λ (c : Value → Value → Ordering). IsSorted
    (λ (x : Bor Value) (y : Bor Value). c x.now y.now) ss) same up))
    ∙ ap bag_of e
