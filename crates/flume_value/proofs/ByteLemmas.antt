-- The bytes of a number, the highest first, tell which number it is.
use Rattle.std.proofs.Common.{◌≡◌, ℕ, zero, suc, ◌+◌, ◌*◌, ◌/◌, ◌%◌, ◌^◌, ◌<◌, ℤ, true, List, [], ◌∷◌, ◌++◌, length, FitsSigned, to_z, of_z, refl, sym, ap, ◌∙◌, subst, arith}
use Rattle.std.specs.Int.{Width, w64, w128, bytes_high_first, byte_at}
use Rattle.std.proofs.Math.Arith.{mod-mul}
use Rattle.std.proofs.Math.Nat.{mod-eq_of_lt, div-one, mod-one}
use Rattle.std.proofs.lemmas.Bool.{ltb-true}
use Rattle.std.proofs.lemmas.Int.{to_z-of_z}
use mir.Val.{bits}
use mir.ValLaws.{of_z_fits}
use native.Mathlib.Nat.{pow-succ'}
use Rattle.flume_value.specs.Canonical.{length_bytes, int_bytes, wide_bytes}
use Rattle.flume_value.specs.Ranges.{fits_int, fits_wide, fits_length}
use Rattle.flume_value.proofs.RangeLemmas.{signed-fits_int, signed-fits_wide}

pow_positive : (k : ℕ) → 0 < 256 ^ k
pow_positive zero = omega arith
pow_positive (suc k) =
    let step = pow-succ' 256 k in let rest = pow_positive k in omega (arith, step, rest)

head_of : ℕ → List ℕ → ℕ
head_of d [] = d
head_of d (x ∷ xs) = x

tail_of : List ℕ → List ℕ
tail_of [] = []
tail_of (x ∷ xs) = xs

-- lists of one length, each before more: they are one, and so is what follows
pub split_alike : (xs ys rest more : List ℕ) → length xs ≡ length ys → xs ++ rest ≡ ys ++ more
    → (xs ≡ ys) × (rest ≡ more)
unfolding head_of tail_of
split_alike [] [] rest more same e = (refl, e)
split_alike [] (y ∷ ys) rest more same e = absurd (omega (arith, same))
split_alike (x ∷ xs) [] rest more same e = absurd (omega (arith, same))
split_alike (x ∷ xs) (y ∷ ys) rest more same e =
    let tails = split_alike xs ys rest more (omega (arith, same)) (ap tail_of e) in
    let heads : x ≡ y = ap (head_of x) e in
    ((λ i. heads i ∷ tails.0 i), tails.1)

length-bytes : (k n : ℕ) → length (bytes_high_first k n) ≡ k
length-bytes zero n = refl
length-bytes (suc k) n = ap suc (length-bytes k n)

-- a byte is a digit to the base of 256
byte_at-digit : (k n : ℕ) → byte_at k n ≡ n / 256 ^ k % 256
byte_at-digit zero n = ap (λ m. m % 256) (sym (div-one n))
byte_at-digit (suc k) n = refl

-- bytes that are the same are those of numbers with the same lowest part
low_alike : (k m n : ℕ) → bytes_high_first k m ≡ bytes_high_first k n → m % 256 ^ k ≡ n % 256 ^ k
unfolding head_of tail_of
low_alike zero m n e = mod-one m ∙ sym (mod-one n)
low_alike (suc k) m n e =
    let high : m / 256 ^ k % 256 ≡ n / 256 ^ k % 256 =
    sym (byte_at-digit k m) ∙ ap (head_of (byte_at k m)) e ∙ byte_at-digit k n in
    let low = low_alike k m n (ap tail_of e) in
    ap (λ p. m % p) (pow-succ' 256 k) ∙ mod-mul m (omega arith) (pow_positive k)
    ∙ (λ i. high i * 256 ^ k + low i)
    ∙ sym (ap (λ p. n % p) (pow-succ' 256 k) ∙ mod-mul n (omega arith) (pow_positive k))

bytes_alike : (k m n : ℕ) → m < 256 ^ k → n < 256 ^ k → bytes_high_first k m ≡ bytes_high_first k n
    → m ≡ n
bytes_alike k m n p q e = sym (mod-eq_of_lt p) ∙ low_alike k m n e ∙ mod-eq_of_lt q

-- ---- lengths and numbers, each before more

pub length_bytes-alike : (m n : ℕ) (rest more : List ℕ) → fits_length m ≡ true
    → fits_length n ≡ true
    → length_bytes m ++ rest ≡ length_bytes n ++ more → (m ≡ n) × (rest ≡ more)
unfolding length_bytes
length_bytes-alike m n rest more p q e =
    let both = split_alike (bytes_high_first 8 m) (bytes_high_first 8 n) rest more refl e in
    (bytes_alike 8 m n (ltb-true m (2 ^ 64) p) (ltb-true n (2 ^ 64) q) both.0, both.1)

-- a signed number, in as many bytes as its width has
module _ (w : Width) (k : ℕ) (whole : 2 ^ bits w ≡ 256 ^ k) where
  low : (n : ℤ) → FitsSigned w n → of_z w n < 256 ^ k
  low n f = subst (λ m. of_z w n < m) whole (of_z_fits w n f).fits

  signed_bytes-alike : (m n : ℤ) (rest more : List ℕ) → FitsSigned w m → FitsSigned w n
      → bytes_high_first k (of_z w m) ++ rest ≡ bytes_high_first k (of_z w n) ++ more
      → (m ≡ n) × (rest ≡ more)
  signed_bytes-alike m n rest more f g e =
      let both = split_alike (bytes_high_first k (of_z w m)) (bytes_high_first k (of_z w n))
      rest more (length-bytes k (of_z w m) ∙ sym (length-bytes k (of_z w n))) e in
      let same = bytes_alike k (of_z w m) (of_z w n) (low m f) (low n g) both.0 in
      (sym (to_z-of_z w m f) ∙ ap (to_z w) same ∙ to_z-of_z w n g, both.1)

pub int_bytes-alike : (m n : ℤ) (rest more : List ℕ) → fits_int m ≡ true → fits_int n ≡ true
    → int_bytes m ++ rest ≡ int_bytes n ++ more → (m ≡ n) × (rest ≡ more)
unfolding int_bytes
int_bytes-alike m n rest more p q e =
    signed_bytes-alike w64 8 refl m n rest more (signed-fits_int m p) (signed-fits_int n q) e

pub wide_bytes-alike : (m n : ℤ) (rest more : List ℕ) → fits_wide m ≡ true → fits_wide n ≡ true
    → wide_bytes m ++ rest ≡ wide_bytes n ++ more → (m ≡ n) × (rest ≡ more)
unfolding wide_bytes
wide_bytes-alike m n rest more p q e =
    signed_bytes-alike w128 16 refl m n rest more (signed-fits_wide m p) (signed-fits_wide n q) e
