-- The number of a key never contradicts the order of values.
use Rattle.std.proofs.Common.{◌≡◌, ◌+◌, ◌*◌, ◌<◌, ◌^◌, ℕ, refl, ◌∙◌, arith}
use Rattle.std.specs.declared.cmp.Ordering.{Ordering}
use Rattle.std.specs.declared.cmp.Ordering.TheVariants.{Less, Equal, Greater}
use Rattle.std.specs.Ordering.{nat_cmp, ordering_then, MatchOrdering}
use Rattle.std.proofs.lemmas.Cmp.{ranked}
use Rattle.flume_value.specs.declared.value.Value.{Value, Value-F, out-Value}
use Rattle.flume_value.specs.Order.{layer_cmp, ordinal, value_cmp}
use Rattle.flume_value.proofs.OrderLemmas.{value_cmp-step}
use Rattle.key_order.specs.Numbers.{first_bits, key_number, IsHeldAtTop, IsHeldLayer}
use Rattle.key_order.proofs.Numbering.{above_bits, eighths, first_bits_of_text, int_less, text_less}

bits-below : (x : Value-F Value) → IsHeldLayer x → first_bits x < 2 ^ 61
bits-below (Value-F.Int n) h = above_bits n h
bits-below (Value-F.Text t) h = first_bits_of_text t h
bits-below _ h = omega arith

-- two values of one variant
same_place : (x y : Value-F Value) → IsHeldLayer y → ordinal x ≡ ordinal y
    → first_bits x < first_bits y → layer_cmp value_cmp x y ≡ Less
same_place (Value-F.Int m) (Value-F.Int n) h e l = int_less m n (eighths _ _ l)
same_place (Value-F.Text s) (Value-F.Text t) h e l = text_less 8 s t h (eighths _ _ l)
same_place (Value-F.Bool a) (Value-F.Bool b) h e l = absurd (omega arith)
same_place (Value-F.List a) (Value-F.List b) h e l = absurd (omega arith)
same_place (Value-F.Rec a) (Value-F.Rec b) h e l = absurd (omega arith)
same_place (Value-F.Left a) (Value-F.Left b) h e l = absurd (omega arith)
same_place (Value-F.Right a) (Value-F.Right b) h e l = absurd (omega arith)
same_place (Value-F.Wide a) (Value-F.Wide b) h e l = absurd (omega arith)
same_place _ _ h e l = absurd (omega arith)

-- the variants are compared first
by_variant : (x y : Value-F Value) → layer_cmp value_cmp x y
    ≡ ordering_then (nat_cmp (ordinal x) (ordinal y)) (layer_cmp value_cmp x y)
by_variant (Value-F.Int m) (Value-F.Int n) = refl
by_variant (Value-F.Bool m) (Value-F.Bool n) = refl
by_variant (Value-F.Text m) (Value-F.Text n) = refl
by_variant (Value-F.List m) (Value-F.List n) = refl
by_variant (Value-F.Rec m) (Value-F.Rec n) = refl
by_variant (Value-F.Left m) (Value-F.Left n) = refl
by_variant (Value-F.Right m) (Value-F.Right n) = refl
by_variant (Value-F.Wide m) (Value-F.Wide n) = refl
by_variant _ _ = refl

less_by : (p q a b : ℕ) (o r : Ordering) → a < 2 ^ 61 → b < 2 ^ 61
    → p * 2 ^ 61 + a < q * 2 ^ 61 + b → (p ≡ q → a < b → r ≡ Less)
    → MatchOrdering o (p < q) (p ≡ q) (q < p) → r ≡ ordering_then o r → r ≡ Less
less_by p q a b Less r low high l same h e = e
less_by p q a b Equal r low high l same h e = same h (omega (arith, h))
less_by p q a b Greater r low high l same h e = absurd (omega arith)

layer_less : (x y : Value-F Value) → IsHeldLayer x → IsHeldLayer y
    → ordinal x * 2 ^ 61 + first_bits x < ordinal y * 2 ^ 61 + first_bits y
    → layer_cmp value_cmp x y ≡ Less
layer_less x y f g l =
    less_by (ordinal x) (ordinal y) (first_bits x) (first_bits y) (nat_cmp (ordinal x) (ordinal y))
    (layer_cmp value_cmp x y) (bits-below x f) (bits-below y g) l (same_place x y g)
    (ranked (ordinal x) (ordinal y) (nat_cmp (ordinal x) (ordinal y)) refl) (by_variant x y)

pub key_less : (a b : Value) → IsHeldAtTop a → IsHeldAtTop b → key_number a < key_number b
    → value_cmp a b ≡ Less
key_less a b f g l = value_cmp-step a b ∙ layer_less (out-Value a) (out-Value b) f g l
