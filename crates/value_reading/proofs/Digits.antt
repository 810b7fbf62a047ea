-- Bytes as a number, the highest first, and back.
use Rattle.std.proofs.Common.{◌≡◌, ℕ, zero, suc, ◌+◌, ◌*◌, ◌/◌, ◌%◌, ◌^◌, ◌<◌, ◌≤◌, List, [], ◌∷◌, ◌++◌, length, take, drop, refl, sym, ap, ◌∙◌, arith}
use Rattle.std.specs.Int.{bytes_high_first, byte_at}
use Rattle.std.specs.List.{AllByRecursion as Each}
use Rattle.std.proofs.Math.Arith.{mod-mul}
use Rattle.std.proofs.Math.Nat.{div-one, mod-one}
use Rattle.std.proofs.Math.Seq.{take-add}
use Rattle.std.proofs.lemmas.Nat.{div-mul-add, mod-mul-add}
use Rattle.std.proofs.lemmas.List.{length-take-le, length-drop}
use native.Mathlib.Nat.{pow-succ'}
use Rattle.flume_value.specs.inner.Numbers.{number, number_from}
use Rattle.flume_value.proofs.NumberLemmas.{small-take}

abbrev pub Small : List ℕ → Type 0
Small bytes = Each (λ b. b < 256) bytes

pub pow_positive : (k : ℕ) → 0 < 256 ^ k
pow_positive zero = omega arith
pow_positive (suc k) =
    let step = pow-succ' 256 k in let rest = pow_positive k in omega (arith, step, rest)

byte_is : (k n : ℕ) → byte_at k n ≡ n / 256 ^ k % 256
byte_is zero n = ap (λ m. m % 256) (sym (div-one n))
byte_is (suc k) n = refl

-- ---- a number of bytes is below their power

flat : (m b p : ℕ) → (m * 256 + b) * p ≡ m * (256 * p) + b * p
flat m b p = omega arith

-- bytes behind a number: it is that number, moved up, and theirs
number_from-split : (m : ℕ) (bytes : List ℕ)
    → number_from m bytes ≡ m * 256 ^ length bytes + number_from 0 bytes
number_from-split m [] = omega arith
number_from-split m (b ∷ bytes) =
    split (number_from (m * 256 + b) bytes) (number_from (0 * 256 + b) bytes)
    (number_from 0 bytes) m b
    (256 ^ length bytes) (256 ^ suc (length bytes)) (pow-succ' 256 (length bytes))
    (number_from-split (m * 256 + b) bytes) (number_from-split (0 * 256 + b) bytes)
  where
    split : (x y z m b p q : ℕ) → q ≡ 256 * p → x ≡ (m * 256 + b) * p + z
        → y ≡ (0 * 256 + b) * p + z → x ≡ m * q + y
    split x y z m b p q e f g =
        let h : m * q ≡ m * (256 * p) = ap (λ r. m * r) e in
        let i = flat m b p in
        let j = flat 0 b p in
        omega (arith, f, g, h, i, j)

pub number-below : (bytes : List ℕ) → Small bytes → number_from 0 bytes < 256 ^ length bytes
number-below [] s = omega arith
number-below (b ∷ bytes) s =
    below (number_from (0 * 256 + b) bytes) (number_from 0 bytes) b (256 ^ length bytes)
    (256 ^ suc (length bytes)) (pow-succ' 256 (length bytes)) s.0
    (number_from-split (0 * 256 + b) bytes) (number-below bytes s.1)
  where
    least : (b p : ℕ) → b < 256 → b * p + p ≤ 256 * p
    least b p l = grind arith

    below : (x z b p q : ℕ) → q ≡ 256 * p → b < 256 → x ≡ (0 * 256 + b) * p + z → z < p → x < q
    below x z b p q e l f g =
        let h = least b p l in let i = flat 0 b p in omega (arith, e, f, g, h, i)

-- ---- the bytes of the number of bytes are these bytes

digits-of : (m : ℕ) (bytes : List ℕ) → Small bytes
    → bytes_high_first (length bytes) (number_from m bytes) ≡ bytes
digits-of m [] s = refl
digits-of m (b ∷ bytes) s =
    let high : byte_at (length bytes) (number_from (m * 256 + b) bytes) ≡ b
    = byte_is (length bytes) (number_from (m * 256 + b) bytes)
    ∙ ap (λ x. x / 256 ^ length bytes % 256) (number_from-split (m * 256 + b) bytes)
    ∙ ap (λ x. x % 256) (div-mul-add (m * 256 + b) (256 ^ length bytes) (number_from 0 bytes)
    (number-below bytes s.1))
    ∙ mod-mul-add m 256 b s.0 in
    λ i. high i ∷ digits-of (m * 256 + b) bytes s.1 i

-- ---- the number of the bytes of a number

join : (m d e p q r s : ℕ) → d ≡ e → q ≡ 256 * p → s ≡ e * p + r
    → (m * 256 + d) * p + r ≡ m * q + s
join m d e p q r s de qp sr =
    let h : (m * 256 + d) * p ≡ (m * 256 + e) * p = ap (λ x. (m * 256 + x) * p) de in
    let i : m * q ≡ m * (256 * p) = ap (λ x. m * x) qp in
    let j = flat m e p in
    omega (arith, h, i, j, sr)

pub number-of : (k m n : ℕ) → number_from m (bytes_high_first k n) ≡ m * 256 ^ k + n % 256 ^ k
number-of zero m n = let one = mod-one n in omega (arith, one)
number-of (suc k) m n =
    number-of k (m * 256 + byte_at k n) n
    ∙ join m (byte_at k n) (n / 256 ^ k % 256) (256 ^ k) (256 ^ suc k) (n % 256 ^ k)
    (n % 256 ^ suc k) (byte_is k n) (pow-succ' 256 k)
    (ap (λ p. n % p) (pow-succ' 256 k) ∙ mod-mul n (omega arith) (pow_positive k))

pub length-bytes : (k n : ℕ) → length (bytes_high_first k n) ≡ k
length-bytes zero n = refl
length-bytes (suc k) n = ap suc (length-bytes k n)

-- ---- the first k bytes

module _ (k : ℕ) (bytes : List ℕ) (s : Small bytes) (long : k ≤ length bytes) where
  front_length : length (take k bytes) ≡ k
  front_length = length-take-le k bytes long

  pub front_digits : bytes_high_first k (number (take k bytes)) ≡ take k bytes
  front_digits =
      ap (λ j. bytes_high_first j (number (take k bytes))) (sym front_length)
      ∙ digits-of 0 (take k bytes) (small-take k bytes s)

  pub front_below : number (take k bytes) < 256 ^ k
  front_below =
      let low = number-below (take k bytes) (small-take k bytes s) in
      let e : 256 ^ length (take k bytes) ≡ 256 ^ k = ap (λ j. 256 ^ j) front_length in
      omega (arith, low, e)

numbers-append : (m : ℕ) (xs ys : List ℕ)
    → number_from m (xs ++ ys) ≡ number_from (number_from m xs) ys
numbers-append m [] ys = refl
numbers-append m (x ∷ xs) ys = numbers-append (m * 256 + x) xs ys

-- sixteen bytes as two numbers of eight
pub halves : (bytes : List ℕ) → 16 ≤ length bytes
    → number (take 8 bytes) * 2 ^ 64 + number (take 8 (drop 8 bytes)) ≡ number (take 16 bytes)
halves bytes long =
    let low_length : length (take 8 (drop 8 bytes)) ≡ 8
    = length-take-le 8 (drop 8 bytes) (omega (arith, length-drop 8 bytes, long)) in
    sym (
    ap number (take-add 8 8 bytes)
    ∙ numbers-append 0 (take 8 bytes) (take 8 (drop 8 bytes))
    ∙ number_from-split (number (take 8 bytes)) (take 8 (drop 8 bytes))
    ∙ ap (λ j. number (take 8 bytes) * 256 ^ j + number (take 8 (drop 8 bytes))) low_length
    )
