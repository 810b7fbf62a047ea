-- What ints and texts have as their first bits, and how these stand in order.
use Rattle.std.proofs.Common.{◌≡◌, ◌+◌, ◌-◌, ◌*◌, ◌/◌, ◌%◌, ◌<◌, ◌≤◌, ◌^◌, ℕ, zero, suc, ℤ, pos, negsuc, FitsSigned, List, [], ◌∷◌, get_or, refl, ap, arith}
use Rattle.std.specs.Prelude.{◌<ℤ◌}
use Rattle.std.specs.declared.cmp.Ordering.{Ordering}
use Rattle.std.specs.declared.cmp.Ordering.TheVariants.{Less, Equal, Greater}
use Rattle.std.specs.Int.{w64, cast_unsigned, from_be_bytes}
use Rattle.std.specs.Ordering.{int_cmp, nat_cmp, ordering_then, MatchOrdering}
use Rattle.std.specs.Cmp.Lexicographic.{slice_cmp}
use Rattle.std.specs.List.{AllByRecursion as Each}
use Rattle.std.proofs.Math.Nat.{mul_comm, pow-suc}
use Rattle.std.proofs.lemmas.Cmp.{int_ranked, ranked}
use Rattle.std.proofs.lemmas.Int.{ints}
use Rattle.std.proofs.lemmas.Nat.{div_below, mul-add-lt}
use Rattle.key_order.specs.Numbers.{above_least, first_bytes}

pub eighths : (m n : ℕ) → m / 8 < n / 8 → m < n
eighths m n l = omega arith

-- ---- ints

-- the bits of an int, and half of all of them more
pub above_by : (n : ℤ) → FitsSigned w64 n → (cast_unsigned w64 n + 2 ^ 63) % 2 ^ 64 ≡ above_least n
above_by (pos n) fits = let low : n < 2 ^ 63 = fits.sfits in omega arith
above_by (negsuc n) fits = let low : n < 2 ^ 63 = fits.sfits in omega arith

pub above_bits : (n : ℤ) → FitsSigned w64 n → above_least n / 8 < 2 ^ 61
above_bits (pos n) fits =
    let low : n < 2 ^ 63 = fits.sfits in
    div_below (2 ^ 63 + n) 8 (2 ^ 61) (omega arith) (omega arith)
above_bits (negsuc n) fits =
    div_below (2 ^ 63 - 1 - n) 8 (2 ^ 61) (omega arith) (omega arith)

above_rises : (m n : ℤ) → n <ℤ m → above_least n ≤ above_least m
above_rises (pos m) (pos n) l = omega (arith, ints)
above_rises (pos m) (negsuc n) l = omega arith
above_rises (negsuc m) (pos n) l = omega (arith, ints)
above_rises (negsuc m) (negsuc n) l = omega (arith, ints)

int_less_by : (m n : ℤ) (o : Ordering) → above_least m < above_least n
    → MatchOrdering o (m <ℤ n) (m ≡ n) (n <ℤ m) → o ≡ Less
int_less_by m n Less l h = refl
int_less_by m n Equal l h = absurd (omega (arith, ap above_least h))
int_less_by m n Greater l h = absurd (omega (arith, above_rises m n h))

pub int_less : (m n : ℤ) → above_least m < above_least n → int_cmp m n ≡ Less
int_less m n l = int_less_by m n (int_cmp m n) l (int_ranked m n (int_cmp m n) refl)

-- ---- texts

abbrev pub Small : List ℕ → Type 0
Small text = Each (λ byte. byte < 256) text

pub small_from : (text : List ℕ) → ((i : ℕ) → get_or text i 0 < 256) → Small text
small_from [] h = tt
small_from (b ∷ text) h = (h 0, small_from text (λ i. h (suc i)))

-- eight bytes as they are read
abbrev pub eight : ℕ → ℕ → ℕ → ℕ → ℕ → ℕ → ℕ → ℕ → List ℕ
eight a b c d e f g h = a ∷ b ∷ c ∷ d ∷ e ∷ f ∷ g ∷ h ∷ []

abbrev pub read_eight : List ℕ → List ℕ
read_eight t =
    eight (get_or t 0 0) (get_or t 1 0) (get_or t 2 0) (get_or t 3 0) (get_or t 4 0) (get_or t 5 0)
    (get_or t 6 0) (get_or t 7 0)

pub eight_are : (t : List ℕ) → from_be_bytes w64 (read_eight t) ≡ first_bytes 8 t
eight_are [] = refl
eight_are (a ∷ []) = omega arith
eight_are (a ∷ b ∷ []) = omega arith
eight_are (a ∷ b ∷ c ∷ []) = omega arith
eight_are (a ∷ b ∷ c ∷ d ∷ []) = omega arith
eight_are (a ∷ b ∷ c ∷ d ∷ e ∷ []) = omega arith
eight_are (a ∷ b ∷ c ∷ d ∷ e ∷ f ∷ []) = omega arith
eight_are (a ∷ b ∷ c ∷ d ∷ e ∷ f ∷ g ∷ []) = omega arith
eight_are (a ∷ b ∷ c ∷ d ∷ e ∷ f ∷ g ∷ h ∷ t) = omega arith

first-below : (n : ℕ) (t : List ℕ) → Small t → first_bytes n t < 256 ^ n
first-below zero t s = omega arith
first-below (suc n) [] s =
    omega (arith, pow-suc 256 n, first-below n [] tt)
first-below (suc n) (b ∷ t) s =
    omega (
      arith,
      pow-suc 256 n,
      mul-add-lt b (256 ^ n) (first_bytes n t) 256 s.0
          (first-below n t s.1),
    )

pub first_bits_of_text : (t : List ℕ) → Small t → first_bytes 8 t / 8 < 2 ^ 61
first_bits_of_text t s =
    div_below (first_bytes 8 t) 8 (2 ^ 61) (omega arith) (omega (arith, first-below 8 t s))

text_less_by : (w x y p q : ℕ) (rest : Ordering) → q < w → x * w + p < y * w + q
    → (p < q → rest ≡ Less) → (o : Ordering) → MatchOrdering o (x < y) (x ≡ y) (y < x)
    → ordering_then o rest ≡ Less
text_less_by w x y p q rest below l next Less h = refl
text_less_by w x y p q rest below l next Equal h = next (omega (arith, ap (λ z. z * w) h))
text_less_by w x y p q rest below l next Greater h =
    absurd (omega (arith, mul-add-lt y w q x h below, mul_comm w x))

pub text_less : (n : ℕ) (s t : List ℕ) → Small t → first_bytes n s < first_bytes n t
    → slice_cmp nat_cmp s t ≡ Less
text_less zero s t h l = absurd (omega arith)
text_less (suc n) [] [] h l = absurd (omega arith)
text_less (suc n) [] (y ∷ t) h l = refl
text_less (suc n) (x ∷ s) [] h l = absurd (omega arith)
text_less (suc n) (x ∷ s) (y ∷ t) h l =
    text_less_by (256 ^ n) x y (first_bytes n s) (first_bytes n t) (slice_cmp nat_cmp s t)
    (first-below n t h.1) l (text_less n s t h.1) (nat_cmp x y) (ranked x y (nat_cmp x y) refl)
