-- Objects worked out: sums as one value, calls beside an object, and calls on objects.
use Rattle.std.proofs.Common.{◌≡◌, ◌∙◌, ℤ, pos, ◌+ℤ◌, false, List, [], ◌∷◌, Option, Some, Err, refl, ap}
use Rattle.std.specs.Int.{int_wrap}
use Rattle.std.specs.Ordering.{is_lt}
use Rattle.std.specs.Option.{option_and_then, option_map}
use Rattle.flume_value.specs.Bag.{bag_of}
use Rattle.flume_value.specs.Order.{value_cmp}
use Rattle.flume_value.specs.declared.fault.Kind.TheVariants as kind
use Rattle.flume_value.specs.declared.value.Value.{Value}
use Rattle.flume_value.specs.declared.value.Value.TheVariants as value
use Rattle.combine_table.proofs.Parts.{int_or_zero-Int}
use Rattle.combine_table.specs.Combinations.{int_or_overflow, int_total, wrapped}
use Rattle.combine_table.specs.declared.comb.Comb.TheVariants as by
use Rattle.flume_collection.specs.Calls.{Called}
use Rattle.flume_collection.specs.Collection.{Collection}
use Rattle.direct_meaning.specs.Calls.{called_by}
use Rattle.direct_meaning.specs.Objects.{answered_once, combined_whole, done_beside, naming, object_as, operated_by, whole_behind}
use Rattle.direct_meaning.specs.Worked.{two_ints, emits, int, ints, behind_one_trap}
use Rattle.combine_table.proofs.Rows.{cmp_ints}

-- ---- sums

two_added : int_total (int 1 ∷ int 3 ∷ []) ≡ pos 4
two_added = λ i. int_or_zero-Int (pos 1) i +ℤ (int_or_zero-Int (pos 3) i +ℤ pos 0)

pub sum_of_two : combined_whole 3 by.Sum (ints (1 ∷ 3 ∷ [])) ≡ ints (4 ∷ [])
unfolding int_wrap
sum_of_two = ap (λ (n : ℤ). whole_behind 3 [] (int_or_overflow (wrapped n))) two_added

pub sum_of_none : combined_whole 3 by.Sum (ints []) ≡ ints (0 ∷ [])
unfolding int_wrap
sum_of_none = refl

-- ---- calls beside an object

-- two values of which the second is not below the first
in_order : (a b : Value) → is_lt (value_cmp b a) ≡ false → bag_of (a ∷ b ∷ []) ≡ a ∷ b ∷ []
in_order a b later = rw later refl

abbrev calm : List Value → Collection
calm bag = record { bag = bag; traps = [] }

-- two answers, one behind the other
abbrev calls_of : Option Called → Option Called → Option (List Called)
calls_of first second =
    option_and_then (λ called. option_map (λ calls. called ∷ calls)
    (option_and_then (λ other. option_map (λ calls. other ∷ calls) (Some [])) second)) first

pub two_shares : (g : Value → Option Called) → g (two_ints 1 4) ≡ emits (25 ∷ [])
    → g (two_ints 3 4) ≡ emits (75 ∷ [])
    → done_beside 3 g (ints (1 ∷ 3 ∷ [])) (ints (4 ∷ [])) ≡ Some (ints (25 ∷ 75 ∷ []))
two_shares g first second =
    (λ i. option_map (called_by 3 0 [])
    (calls_of (option_map (naming (int 1)) (first i)) (option_map (naming (int 3)) (second i))))
    ∙ ap (λ (bag : List Value). Some (calm bag))
    (in_order (int 25) (int 75) (ap is_lt (cmp_ints (pos 75) (pos 25))))

pub share_of_none : (g : Value → Option Called)
    → g (two_ints 1 0) ≡ Some (Err (kind.DivideByZero, two_ints 1 0))
    → done_beside 3 g (ints (1 ∷ [])) (ints (0 ∷ []))
    ≡ Some (behind_one_trap kind.DivideByZero (int 1))
share_of_none g is = λ i.
    option_map (called_by 3 0 [])
    (option_and_then (λ called. option_map (λ calls. called ∷ calls) (Some []))
    (option_map (naming (int 1)) (is i)))

-- ---- calls on objects

abbrev once : Value → Option Called → Option Collection
once x answer = option_map (λ called. object_as (answered_once 3 x called)) answer

pub one_emitted : (h : Value → Option Called) → h (int 4) ≡ emits (4 ∷ [])
    → operated_by 3 h (ints (4 ∷ []) ∷ []) ≡ Some (ints (4 ∷ []))
one_emitted h is = λ i. once (int 4) (is i)

pub none_emitted : (h : Value → Option Called) → h (int 1) ≡ emits []
    → operated_by 3 h (ints (1 ∷ []) ∷ []) ≡ Some (behind_one_trap kind.NotOne (int 1))
none_emitted h is = λ i. once (int 1) (is i)

pub two_emitted : (h : Value → Option Called) → h (int 1) ≡ emits (5 ∷ 5 ∷ [])
    → operated_by 3 h (ints (1 ∷ []) ∷ []) ≡ Some (behind_one_trap kind.NotOne (int 1))
two_emitted h is = λ i. once (int 1) (is i)

pub on_two : (h : Value → Option Called) → h (two_ints 4 2) ≡ emits (6 ∷ [])
    → operated_by 3 h (ints (4 ∷ []) ∷ ints (2 ∷ []) ∷ []) ≡ Some (ints (6 ∷ []))
on_two h is = λ i. once (two_ints 4 2) (is i)
