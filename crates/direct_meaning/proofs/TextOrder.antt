-- Texts by the numbers that their first bytes make.
use Rattle.std.proofs.Common.{◌≡◌, ◌+◌, ◌*◌, ◌/◌, ◌^◌, ◌<◌, ◌≤◌, ℕ, zero, suc, Bool, true, false, pos, List, [], ◌∷◌, refl, ap, ◌∙◌, arith}
use Rattle.std.specs.Prelude.{◌<ℤ◌, ltb}
use Rattle.std.specs.declared.cmp.Ordering.{Ordering}
use Rattle.std.specs.declared.cmp.Ordering.TheVariants.{Less, Equal, Greater}
use Rattle.std.specs.Cmp.Lexicographic.{slice_cmp}
use Rattle.std.specs.List.{AllByRecursion as Each}
use Rattle.std.specs.Ordering.{nat_cmp, ordering_then, MatchOrdering}
use Rattle.std.proofs.Math.Nat.{mul_comm, pow-suc}
use Rattle.std.proofs.lemmas.Bool.{lt-ltb, ltb-false, ltb-true}
use Rattle.std.proofs.lemmas.Cmp.{ranked}
use Rattle.std.proofs.lemmas.Int.{ints}
use Rattle.std.proofs.lemmas.Nat.{div_below, mul-add-lt}
use Rattle.key_order.specs.Numbers.{first_bytes}
use Rattle.direct_meaning.specs.inner.Beginnings.{leading, led_by}

-- of bytes alone it is their number
pub leading_of_bytes : (n : ℕ) (t : List ℕ) → Each (λ byte. byte < 256) t
    → leading n t ≡ first_bytes n t
leading_of_bytes zero t s = refl
leading_of_bytes (suc n) [] s = refl
leading_of_bytes (suc n) (b ∷ t) s =
    ap (λ c. led_by c b (256 ^ n) (leading n t)) (lt-ltb b 256 s.0)
    ∙ ap (λ r. b * 256 ^ n + r) (leading_of_bytes n t s.1)

led-below : (b w p : ℕ) (c : Bool) → ltb b 256 ≡ c → p < w → led_by c b w p < 256 * w
led-below b w p true is low =
    omega (arith, mul-add-lt b w p 256 (ltb-true b 256 is) low, mul_comm w 256)
led-below b w p false is low = omega (arith, low)

leading-below : (n : ℕ) (t : List ℕ) → leading n t < 256 ^ n
leading-below zero t = omega arith
leading-below (suc n) [] = omega (arith, pow-suc 256 n, leading-below n [])
leading-below (suc n) (b ∷ t) =
    omega (
      arith,
      pow-suc 256 n,
      mul_comm (256 ^ n) 256,
      led-below b (256 ^ n) (leading n t) (ltb b 256) refl
          (leading-below n t),
    )

pub half-below : (t : List ℕ) → leading 8 t / 2 < 2 ^ 63
half-below t = div_below (leading 8 t) 2 (2 ^ 63) (omega arith) (omega (arith, leading-below 8 t))

-- ---- a greater number, a greater text

beyond : (x y : ℕ) (rest o : Ordering) → y < x → MatchOrdering o (x < y) (x ≡ y) (y < x)
    → ordering_then o rest ≡ Greater
beyond x y rest Less l h = absurd (omega (arith, l, h))
beyond x y rest Equal l h = absurd (omega (arith, l, h))
beyond x y rest Greater l h = refl

by_bytes : (w x y p q : ℕ) (rest : Ordering) → p < w → y * w + q < x * w + p
    → (q < p → rest ≡ Greater) → (o : Ordering) → MatchOrdering o (x < y) (x ≡ y) (y < x)
    → ordering_then o rest ≡ Greater
by_bytes w x y p q rest below l next Less h =
    absurd (omega (arith, mul-add-lt x w p y h below, mul_comm w y))
by_bytes w x y p q rest below l next Equal h = next (omega (arith, ap (λ z. z * w) h))
by_bytes w x y p q rest below l next Greater h = refl

-- x and y stand ahead of what has the numbers p and q
led_greater : (w x y p q : ℕ) (rest : Ordering) → p < w → (c d : Bool) → ltb x 256 ≡ c
    → ltb y 256 ≡ d → led_by d y w q < led_by c x w p → (q < p → rest ≡ Greater)
    → ordering_then (nat_cmp x y) rest ≡ Greater
led_greater w x y p q rest below true true f g l next =
    by_bytes w x y p q rest below l next (nat_cmp x y) (ranked x y (nat_cmp x y) refl)
led_greater w x y p q rest below false true f g l next =
    let high : 256 ≤ x = ltb-false x 256 f in
    let low : y < 256 = ltb-true y 256 g in
    beyond x y rest (nat_cmp x y) (omega (arith, high, low)) (ranked x y (nat_cmp x y) refl)
led_greater w x y p q rest below true false f g l next =
    absurd (omega (arith, l, led-below x w p true f below))
led_greater w x y p q rest below false false f g l next = absurd (omega (arith, l))

greater : (n : ℕ) (s t : List ℕ) → leading n t < leading n s → slice_cmp nat_cmp s t ≡ Greater
greater zero s t l = absurd (omega (arith, l))
greater (suc n) [] [] l = absurd (omega (arith, l))
greater (suc n) [] (y ∷ t) l = absurd (omega (arith, l))
greater (suc n) (x ∷ s) [] l = refl
greater (suc n) (x ∷ s) (y ∷ t) l =
    led_greater (256 ^ n) x y (leading n s) (leading n t) (slice_cmp nat_cmp s t)
    (leading-below n s) (ltb x 256) (ltb y 256) refl refl l (greater n s t)

halves : (m n : ℕ) → m / 2 < n / 2 → m < n
halves m n l = omega arith

pub text_greater : (s t : List ℕ) → pos (leading 8 t / 2) <ℤ pos (leading 8 s / 2)
    → slice_cmp nat_cmp s t ≡ Greater
text_greater s t h =
    let l : leading 8 t / 2 < leading 8 s / 2 = omega (arith, ints) in
    greater 8 s t (halves (leading 8 t) (leading 8 s) l)
