-- What a number that is read digit by digit tells of the whole.
use Rattle.std.proofs.Common.{◌≡◌, ◌<◌, ◌≤◌, ◌+◌, ◌-◌, ◌*◌, ◌^◌, ◌&&◌, ◌∙◌, ℕ, Bool, true, false, List, [], ◌∷◌, length, get_or, drop, Option, Some, None, refl, sym, arith}
use Rattle.std.specs.Prelude.{nat_lt, ◌==◌, if◌then◌else◌}
use Rattle.std.proofs.lemmas.Bool.Decides.{nat_tests}
use Rattle.std.proofs.lemmas.List.{at_drop_all, at_drop_more}
use Rattle.std.specs.Char.{is_ascii_digit}
use Rattle.int_text.specs.Ints.{number_on}
use Rattle.int_text.specs.inner.Numbers.{short_number, short_on}

-- more digits make no number less
grows : (n : ℕ) (digits : List ℕ) → n ≤ number_on n digits
unfolding number_on
grows n [] = omega arith
grows n (digit ∷ rest) = omega (arith, grows (n * 10 + (digit - 48)) rest)

none_if : (a b : Bool) (n : ℕ) → b ≡ false
    → ◌≡◌ {A = Option ℕ} None (if a && b then Some n else None)
none_if true b n e = rw e refl
none_if false b n e = refl

before_other : (n byte : ℕ) (rest : List ℕ) → is_ascii_digit byte ≡ false
    → None ≡ short_on n (byte ∷ rest)
before_other n byte rest e = rw e refl

before_more : (n byte : ℕ) (rest : List ℕ) → 10 ^ 18 ≤ n → None ≡ short_on n (byte ∷ rest)
unfolding number_on
before_more n byte rest h =
    let least : n * 10 + (byte - 48) ≤ number_on (n * 10 + (byte - 48)) rest = grows _ rest in
    let beyond : nat_lt (number_on (n * 10 + (byte - 48)) rest) (10 ^ 19) ≡ false =
    grind (arith, nat_tests)
    in
    none_if _ _ _ beyond

-- a byte that is no digit
pub no_digit : (n : ℕ) (digits : List ℕ) (i : ℕ) → i < length digits
    → is_ascii_digit (get_or digits i 0) ≡ false → None ≡ short_on n (drop i digits)
no_digit n digits i within e =
    before_other n (get_or digits i 0) (drop (i + 1) digits) e
    ∙ sym (at_drop_more (short_on n) digits i 0 within)

-- one more digit than there is room for
pub too_long : (n : ℕ) (digits : List ℕ) (i : ℕ) → i < length digits → 10 ^ 18 ≤ n
    → None ≡ short_on n (drop i digits)
too_long n digits i within h =
    before_more n (get_or digits i 0) (drop (i + 1) digits) h
    ∙ sym (at_drop_more (short_on n) digits i 0 within)

-- all digits are read
pub at_end : (n : ℕ) (digits : List ℕ) (i : ℕ) → length digits ≤ i → n < 10 ^ 19
    → Some n ≡ short_on n (drop i digits)
unfolding number_on
at_end n digits i past h =
    let fits : nat_lt n (10 ^ 19) ≡ true = grind (arith, nat_tests) in
    rw (at_drop_all (short_on n) digits i past, fits) refl

-- the whole, of which one digit at least is there
pub whole : (digits : List ℕ) → false ≡ (length digits == 0)
    → short_on 0 digits ≡ short_number digits
whole [] e = cc e
whole (digit ∷ rest) e = refl
