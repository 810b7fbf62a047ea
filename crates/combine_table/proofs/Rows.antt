-- What some bags are combined to, and that a quotient is rounded down.
use Rattle.std.proofs.Common.{◌≡◌, ◌↔◌, ◌<◌, ◌≤◌, ◌+◌, ◌-◌, ◌*◌, ◌/◌, ◌^◌, ℕ, ℤ, pos, negsuc, neg_ℤ, ◌+ℤ◌, List, [], ◌∷◌, true, false, Ok, Err, refl, sym, ap, ◌∙◌, subst, arith}
use Rattle.std.specs.Int.{int_wrap}
use Rattle.std.specs.Ordering.{is_lt, is_eq, int_cmp}
use Rattle.std.proofs.lemmas.Int.{ints}
use Rattle.flume_value.specs.declared.value.Value.{Value, Value-F, out-Value}
use Rattle.flume_value.specs.declared.value.Value.TheVariants as value
use Rattle.flume_value.specs.declared.fault.Kind.TheVariants.{BadIndex}
use Rattle.flume_value.specs.Order.{value_cmp, layer_cmp}
use Rattle.flume_value.specs.Equality.{value_eq}
use Rattle.flume_value.specs.Bag.{bag_of}
use Rattle.flume_value.proofs.OrderLemmas.{value_cmp-step}
use Rattle.combine_table.specs.declared.comb.Comb.TheVariants as by
use Rattle.combine_table.specs.Combinations.{int_total, wrapped, mean, combined, distinct, mean_quotient, IsQuotient}
use Rattle.combine_table.proofs.Means.{combined-Mean}
use Rattle.combine_table.proofs.Parts.{int_or_zero-Int}

-- ---- the mean

mean_of_two : (m n : ℤ) → combined by.Mean (bag_of (value.Int m ∷ value.Int n ∷ []))
    ≡ mean (wrapped (m +ℤ (n +ℤ pos 0))) (wrapped (pos 2))
mean_of_two m n =
    combined-Mean (value.Int m ∷ value.Int n ∷ [])
    ∙ ap (λ (k : ℤ). mean (wrapped (k +ℤ int_total (value.Int n ∷ []))) (wrapped (pos 2)))
    (int_or_zero-Int m)
    ∙ ap (λ (k : ℤ). mean (wrapped (m +ℤ (k +ℤ pos 0))) (wrapped (pos 2))) (int_or_zero-Int n)

pub rounded_down : combined by.Mean (bag_of (value.Int (neg_ℤ (pos 3)) ∷ value.Int (pos 0) ∷ []))
    ≡ Ok (value.Int (neg_ℤ (pos 2)))
unfolding int_wrap
rounded_down = mean_of_two (neg_ℤ (pos 3)) (pos 0)

pub within : combined by.Mean
    (bag_of (value.Int (pos (2 ^ 63 - 1)) ∷ value.Int (pos (2 ^ 63 - 1)) ∷ []))
    ≡ Ok (value.Int (pos (2 ^ 63 - 1)))
unfolding int_wrap
within = mean_of_two (pos (2 ^ 63 - 1)) (pos (2 ^ 63 - 1))

pub mean_of_none : combined by.Mean (bag_of []) ≡ Err BadIndex
unfolding int_wrap
mean_of_none = refl

-- ---- the distinct members

pub cmp_ints : (m n : ℤ) → value_cmp (value.Int m) (value.Int n) ≡ int_cmp m n
cmp_ints m n =
    value_cmp-step (value.Int m) (value.Int n)
    ∙ ap (λ (x : Value-F Value). layer_cmp value_cmp x (out-Value (value.Int n)))
    (value.outs-Int m)
    ∙ ap (λ (y : Value-F Value). layer_cmp value_cmp (Value-F.Int m) y) (value.outs-Int n)

-- b, a, b, where a is below b
repeats : (a b : Value) → is_lt (value_cmp b a) ≡ false → is_lt (value_cmp a b) ≡ true
    → is_lt (value_cmp b b) ≡ false → value_eq b a ≡ false → value_eq b b ≡ true
    → distinct (bag_of (b ∷ a ∷ b ∷ [])) ≡ a ∷ b ∷ []
repeats a b above below self other same = rw (above, below, self, other, same) refl

pub repeated : combined by.Distinct
    (bag_of (value.Int (pos 3) ∷ value.Int (pos 1) ∷ value.Int (pos 3) ∷ []))
    ≡ Ok (value.List (value.Int (pos 1) ∷ value.Int (pos 3) ∷ []))
repeated =
    ap (λ (l : List Value). Ok (value.List l))
    (repeats (value.Int (pos 1)) (value.Int (pos 3))
    (ap is_lt (cmp_ints (pos 3) (pos 1))) (ap is_lt (cmp_ints (pos 1) (pos 3)))
    (ap is_lt (cmp_ints (pos 3) (pos 3))) (ap is_eq (cmp_ints (pos 3) (pos 1)))
    (ap is_eq (cmp_ints (pos 3) (pos 3))))

-- ---- the quotient

-- q times c is below the number n next above, and q the number of c in n
div_is : (n c q : ℕ) → 0 < c → q * c ≤ n → n < q * c + c → q ≡ n / c
div_is n c q h low high = grind arith

at_quotient : (s : ℤ) (c : ℕ) → 0 < c → IsQuotient s c (mean_quotient s c)
at_quotient (pos a) c h = (grind (arith, ints), grind (arith, ints))
at_quotient (negsuc a) c h = (grind (arith, ints), grind (arith, ints))

is_quotient : (s q : ℤ) (c : ℕ) → 0 < c → IsQuotient s c q → q ≡ mean_quotient s c
is_quotient (pos a) (pos n) c h w =
    ap pos (div_is a c n h (grind (arith, ints, w.0)) (grind (arith, ints, w.1)))
is_quotient (pos a) (negsuc n) c h w = absurd (grind (arith, ints, w.1))
is_quotient (negsuc a) (pos n) c h w = absurd (grind (arith, ints, w.0))
is_quotient (negsuc a) (negsuc n) c h w =
    ap negsuc (div_is a c n h (grind (arith, ints, w.1)) (grind (arith, ints, w.0)))

pub quotient_is : (s q : ℤ) (c : ℕ) → 0 < c → (q ≡ mean_quotient s c) ↔ IsQuotient s c q
quotient_is s q c h = (
  λ e. subst (IsQuotient s c) (sym e) (at_quotient s c h),
  is_quotient s q c h,
)
