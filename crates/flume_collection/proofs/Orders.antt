-- The orders of values and of traps, and what is put into bags and sets in any order.
use Rattle.std.proofs.Common.{◌≡◌, Bool, true, false, not, cond, List, [], ◌∷◌, refl, sym, ap, ◌∙◌, subst}
use Rattle.std.specs.List.{flat_map}
use Rattle.std.specs.declared.cmp.Ordering.{Ordering}
use Rattle.std.specs.declared.cmp.Ordering.TheVariants.{Less, Equal, Greater}
use Rattle.std.specs.Ordering.{is_lt, nat_cmp, ordering_then, ordering_reverse}
use Rattle.std.specs.Cmp.{IsTotalOrder, IsStrictWeakOrder}
use Rattle.std.specs.FinMap.{IsAntisymmetric, nat_cmp-IsAntisymmetric}
use Rattle.std.proofs.lemmas.Cmp.{nat_cmp_total, on_total, then_total}
use Rattle.std.proofs.lemmas.List.MinMax.{ranks_by}
use Rattle.flume_value.specs.declared.value.Value.{Value}
use Rattle.flume_value.specs.declared.fault.Kind.{Kind}
use Rattle.flume_value.specs.declared.fault.Kind.TheVariants.{Overflow, DivideByZero, BadIndex, BadNumber, NotOne}
use Rattle.flume_value.specs.Order.{value_cmp}
use Rattle.flume_value.specs.Bag.{put, bag_of}
use Rattle.flume_value.proofs.OrderLemmas.{value_cmp-total, value_cmp-IsAntisymmetric}
use Rattle.flume_collection.specs.declared.trap.Trap.{Trap}
use Rattle.flume_collection.specs.Traps.{kind_place, trap_cmp, trap_le}
use Rattle.flume_collection.specs.Sets.{IsOrder, put_new, gather}
use Rattle.flume_collection.proofs.Bagging.{Swaps, put_by, bag_by, put_swaps, new_swaps, spread-bag, bag-gathered}

-- ---- tests of a comparison
not_true : (b : Bool) → not b ≡ true → b ≡ false
not_true true e = cc
not_true false e = refl

not_false : (b : Bool) → not b ≡ false → b ≡ true
not_false true e = refl
not_false false e = cc

-- whether the first is at most the second
abbrev pub at_most : {X : Type 0} → (X → X → Ordering) → X → X → Bool
at_most cmp x y = not (is_lt (cmp y x))

pub tied : {X : Type 0} (cmp : X → X → Ordering) → IsTotalOrder cmp → IsAntisymmetric cmp →
    (x y : X)
    → is_lt (cmp y x) ≡ false → is_lt (cmp x y) ≡ false → x ≡ y
tied cmp o a x y g h =
    elim (cmp x y) as (λ r. cmp x y ≡ r → is_lt r ≡ false → x ≡ y) [
      | Less ↦ λ p q. cc
      | Equal ↦ λ p q. a x y p
      | Greater ↦ λ p q. let e = ap is_lt (o.antisymm y x ∙ ap ordering_reverse p) in cc
    ] refl h

order_by : {X : Type 0} (cmp : X → X → Ordering) → IsTotalOrder cmp → IsAntisymmetric cmp
    → IsOrder (at_most cmp)
order_by cmp o a =
    let ranks : IsStrictWeakOrder (λ x y. is_lt (cmp x y)) = ranks_by o (λ x. x) in
    record {
      total = λ x y e. ap not (ranks.one_way y x (not_false (is_lt (cmp y x)) e));
      anti = λ x y e f. tied cmp o a x y (not_true (is_lt (cmp y x)) e)
          (not_true (is_lt (cmp x y)) f);
      trans = λ x y z e f. ap not (ranks.chain z y x (not_true (is_lt (cmp z y)) f)
          (not_true (is_lt (cmp y x)) e));
    }

-- ---- values
abbrev pub value_le : Value → Value → Bool
value_le = at_most value_cmp

value_order : IsOrder value_le
value_order = order_by value_cmp value_cmp-total value_cmp-IsAntisymmetric

-- ---- traps
same_kind : (a b : Kind) → kind_place a ≡ kind_place b → a ≡ b
same_kind Overflow Overflow same = refl
same_kind DivideByZero DivideByZero same = refl
same_kind BadIndex BadIndex same = refl
same_kind BadNumber BadNumber same = refl
same_kind NotOne NotOne same = refl
same_kind _ _ same = absurd (cc)

both_tied : (o p : Ordering) → ordering_then o p ≡ Equal → (o ≡ Equal) × (p ≡ Equal)
both_tied Less p e = cc
both_tied Equal p e = (refl, e)
both_tied Greater p e = cc

pub trap_cmp-IsAntisymmetric : IsAntisymmetric trap_cmp
trap_cmp-IsAntisymmetric a b e =
    let elements = value_cmp a.element b.element in
    let kinds = nat_cmp (kind_place a.kind) (kind_place b.kind) in
    let first = both_tied (nat_cmp a.origin b.origin) (ordering_then elements kinds) e in
    let second = both_tied elements kinds first.1 in
    let origin = nat_cmp-IsAntisymmetric a.origin b.origin first.0 in
    let element = value_cmp-IsAntisymmetric a.element b.element second.0 in
    let kind = same_kind a.kind b.kind
    (nat_cmp-IsAntisymmetric (kind_place a.kind) (kind_place b.kind) second.1) in
    λ i. record { origin = origin i; element = element i; kind = kind i }

pub trap_cmp-total : IsTotalOrder trap_cmp
trap_cmp-total =
    then_total (on_total (λ (t : Trap). t.origin) nat_cmp_total)
    (then_total (on_total (λ (t : Trap). t.element) value_cmp-total)
    (on_total (λ (t : Trap). kind_place t.kind) nat_cmp_total))

pub trap_order : IsOrder trap_le
trap_order = order_by trap_cmp trap_cmp-total trap_cmp-IsAntisymmetric

pub sets : Swaps (put_new trap_le)
sets = new_swaps trap_le trap_order

-- ---- the bag of a list is all of it put in
put_cond : (b : Bool) (v x : Value) (xs ys zs : List Value) → xs ≡ ys
    → cond b (x ∷ xs) zs ≡ cond (not b) zs (x ∷ ys)
put_cond true v x xs ys zs e = ap (λ l. x ∷ l) e
put_cond false v x xs ys zs e = refl

put_is : (v : Value) (xs : List Value) → put v xs ≡ put_by value_le v xs
put_is v [] = refl
put_is v (x ∷ xs) = put_cond (is_lt (value_cmp x v)) v x (put v xs) (put_by value_le v xs)
    (v ∷ (x ∷ xs)) (put_is v xs)

put_same : put ≡ put_by value_le
put_same = λ i. λ v xs. put_is v xs i

pub bags : Swaps put
bags = subst Swaps (sym put_same) (put_swaps value_le value_order)

bag_gathered : (xs : List Value) → bag_of xs ≡ gather put xs []
bag_gathered [] = refl
bag_gathered (x ∷ xs) = ap (put x) (bag_gathered xs)

-- lists that gather alike are one bag
pub one_bag : (xs ys : List Value) → gather put xs [] ≡ gather put ys [] → bag_of xs ≡ bag_of ys
one_bag xs ys e = bag_gathered xs ∙ e ∙ sym (bag_gathered ys)

bag_is : (xs : List Value) → bag_of xs ≡ bag_by value_le xs
bag_is xs = bag_gathered xs ∙ ap (λ (p : Value → List Value → List Value). gather p xs []) put_same

-- what the members of a bag give is what those of the list give
pub spread_bag : {Y B : Type 0} (p : Y → B → B) → Swaps p
    → (f : Value → List Y) (xs : List Value) (b : B)
    → gather p (flat_map f (bag_of xs)) b ≡ gather p (flat_map f xs) b
spread_bag p s f xs b = ap (λ (l : List Value). gather p (flat_map f l) b) (bag_is xs)
    ∙ spread-bag value_le p s f xs b

pub gather_bag : {B : Type 0} (p : Value → B → B) → Swaps p → (xs : List Value) (b : B)
    → gather p (bag_of xs) b ≡ gather p xs b
gather_bag p s xs b = ap (λ (l : List Value). gather p l b) (bag_is xs)
    ∙ bag-gathered value_le p s xs b
