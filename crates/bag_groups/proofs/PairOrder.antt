-- The order of pairs: by key, then by value.
use Rattle.std.proofs.Common.{◌≡◌, true, false, List, [], ◌∷◌, map, refl, sym, ap, ◌∙◌}
use Rattle.std.specs.declared.cmp.Ordering.{Ordering}
use Rattle.std.specs.declared.cmp.Ordering.TheVariants.{Less, Equal, Greater}
use Rattle.std.specs.Ordering.{is_lt, is_eq, ordering_then}
use Rattle.std.specs.List.{AllByRecursion as Each}
use Rattle.flume_value.specs.declared.value.Value.{Value}
use Rattle.flume_value.specs.declared.value.Value.TheVariants as value
use Rattle.flume_value.specs.Order.{value_cmp, layer_cmp}
use Rattle.flume_value.specs.Equality.{value_eq}
use Rattle.flume_value.proofs.OrderLemmas.{value_cmp-step, value_cmp-same, value_cmp-IsAntisymmetric}
use Rattle.flume_value.proofs.EachLemmas.{Each-map, Each-both}
use Rattle.flume_value.proofs.BagLemmas.{NotBelow, Rises}
use Rattle.bag_groups.specs.Pairs.{pair}
use Rattle.bag_groups.proofs.PairLemmas.{Parts, packed}

value_cmp-pairs : (k v j w : Value) → value_cmp (pair k v) (pair j w)
    ≡ ordering_then (value_cmp k j) (ordering_then (value_cmp v w) Equal)
value_cmp-pairs k v j w =
    value_cmp-step (pair k v) (pair j w)
    ∙ (λ i. layer_cmp value_cmp (value.outs-Rec (k ∷ v ∷ []) i) (value.outs-Rec (j ∷ w ∷ []) i))

first_not_less : (o r : Ordering) → is_lt (ordering_then o r) ≡ false → is_lt o ≡ false
first_not_less Less r h = cc
first_not_less Equal r h = refl
first_not_less Greater r h = refl

keys_rise : (p q : Parts) → NotBelow (packed p) (packed q) → NotBelow p.0 q.0
keys_rise p q up =
    first_not_less (value_cmp q.0 p.0) (ordering_then (value_cmp q.1 p.1) Equal)
    (sym (ap is_lt (value_cmp-pairs q.0 q.1 p.0 p.1)) ∙ up)

values_rise : (p q : Parts) → p.0 ≡ q.0 → NotBelow (packed p) (packed q) → NotBelow p.1 q.1
values_rise p q same up =
    let tied : value_cmp q.0 p.0 ≡ Equal = ap (value_cmp q.0) same ∙ value_cmp-same q.0 in
    first_not_less (value_cmp q.1 p.1) Equal
    (sym (ap is_lt (value_cmp-pairs q.0 q.1 p.0 p.1
    ∙ ap (λ o. ordering_then o (ordering_then (value_cmp q.1 p.1) Equal)) tied)) ∙ up)

-- what holds of all pairs that a list of parts makes
Each-packed : (P : Value → Type 0) (ps : List Parts) → Each P (map packed ps)
    → Each (λ p. P (packed p)) ps
Each-packed P [] e = tt
Each-packed P (p ∷ ps) e = (e.0, Each-packed P ps e.1)

pub Rises-keys : (ps : List Parts) → Rises (map packed ps) → Rises (map (λ p. p.0) ps)
Rises-keys [] r = tt
Rises-keys (p ∷ ps) r =
    let up = Each-packed (NotBelow (packed p)) ps r.0 in (
      Each-map (NotBelow p.0) (λ q. q.0) ps
          (Each-both (λ q. NotBelow (packed p) (packed q)) (λ q. NotBelow (packed p) (packed q))
          (λ q. NotBelow p.0 q.0) (λ q h _. keys_rise p q h) ps up up),
      Rises-keys ps r.1,
    )

pub Rises-values : (k : Value) (ps : List Parts) → Each (λ p. p.0 ≡ k) ps
    → Rises (map packed ps) → Rises (map (λ p. p.1) ps)
Rises-values k [] f r = tt
Rises-values k (p ∷ ps) f r = (
  Each-map (NotBelow p.1) (λ q. q.1) ps
      (Each-both (λ q. q.0 ≡ k) (λ q. NotBelow (packed p) (packed q)) (λ q. NotBelow p.1 q.1)
      (λ q same h. values_rise p q (f.0 ∙ sym same) h)
      ps f.1 (Each-packed (NotBelow (packed p)) ps r.0)),
  Rises-values k ps f.1 r.1,
)

-- ---- equality as a test

pub value_eq-same : (a b : Value) → a ≡ b → value_eq a b ≡ true
value_eq-same a b e = ap is_eq (sym (ap (value_cmp a) e) ∙ value_cmp-same a)

pub same-value_eq : (a b : Value) → value_eq a b ≡ true → a ≡ b
same-value_eq a b h =
    elim (value_cmp a b) as (λ o. value_cmp a b ≡ o → is_eq o ≡ true → a ≡ b) [
      | Less ↦ λ p q. cc
      | Equal ↦ λ p q. value_cmp-IsAntisymmetric a b p
      | Greater ↦ λ p q. cc
    ] refl h

pub value_eq-other : (a b : Value) → (a ≡ b → ⊥) → value_eq a b ≡ false
value_eq-other a b h =
    elim (value_eq a b) as (λ t. value_eq a b ≡ t → t ≡ false) [
      | true ↦ λ e. absurd (h (same-value_eq a b e))
      | false ↦ λ e. refl
    ] refl

-- ---- pairs of keys that rise strictly

pub less_from : (a b : Value) → NotBelow a b → value_eq b a ≡ false → value_cmp b a ≡ Greater
less_from a b up apart =
    elim (value_cmp b a) as (λ o. is_lt o ≡ false → is_eq o ≡ false → o ≡ Greater) [
      | Less ↦ λ p q. cc
      | Equal ↦ λ p q. cc
      | Greater ↦ λ p q. refl
    ] up apart

pub pairs-NotBelow : (k v j w : Value) → value_cmp j k ≡ Greater
    → NotBelow (pair k v) (pair j w)
pairs-NotBelow k v j w h =
    ap is_lt (value_cmp-pairs j w k v
    ∙ ap (λ o. ordering_then o (ordering_then (value_cmp w v) Equal)) h)
