-- Equality of values as a test, either way round, and the tests of a map's keys.
use Rattle.std.proofs.Common.{◌≡◌, Bool, true, false, List, map, refl, sym, ◌∙◌, subst}
use Rattle.std.specs.declared.cmp.Ordering.{Ordering}
use Rattle.std.specs.List.Sorted.{IsSorted}
use Rattle.flume_value.specs.declared.value.Value.{Value}
use Rattle.flume_value.specs.contracts.value.ValueOrd.TheImpl as order
use Rattle.flume_value.specs.contracts.value.ValuePartialEq.TheImpl as equality
use Rattle.flume_value.specs.Equality.{value_eq}
use Rattle.flume_value.specs.Order.{value_cmp}
use Rattle.flume_value.proofs.OrderLemmas.{derived_cmp-is, derived_eq-is}
use Rattle.bag_groups.proofs.PairOrder.{value_eq-same, same-value_eq, value_eq-other}

pub value_eq-turned : (a b : Value) → value_eq a b ≡ value_eq b a
value_eq-turned a b =
    elim (value_eq a b) as (λ t. value_eq a b ≡ t → t ≡ value_eq b a) [
      | true ↦ λ e. sym (value_eq-same b a (sym (same-value_eq a b e)))
      | false ↦ λ e. sym (value_eq-other b a (λ same.
          let other = value_eq-same a b (sym same) in cc))
    ] refl

-- the test by which a map finds a key
abbrev pub finds : Value → Value → Bool
finds k v = value_eq v k

pub derived_eq-finds : (equality.ghosts).eq ≡ finds
derived_eq-finds = derived_eq-is ∙ (λ i k v. value_eq-turned k v i)

pub ascends : (es ps : List (Value × Value)) → ps ≡ es
    → IsSorted (order.ghosts).cmp (map (λ e. e.0) es) → IsSorted value_cmp (map (λ p. p.0) ps)
ascends es ps same up =
    subst (λ l. IsSorted value_cmp (map (λ p. p.0) l)) (sym same)
    (subst (λ (R : Value → Value → Ordering). IsSorted R (map (λ e. e.0) es)) derived_cmp-is up)
