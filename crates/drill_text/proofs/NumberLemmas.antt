-- How the number of a text is read.
use Rattle.std.proofs.Common.{◌≡◌, ◌∙◌, ◌<◌, ◌≤◌, ◌^◌, ◌&&◌, ◌==◌, ℕ, Bool, true, false, not, List, [], ◌∷◌, length, slice_index, Option, Some, None, refl, sym, ap, subst, inl, inr, lit<, true≢false, arith}
use Rattle.std.specs.Prelude.{Result, decimal, if◌then◌else◌, nat_le, option_and_then}
use Rattle.std.specs.Char.{is_ascii_digit}
use Rattle.std.specs.List.{list_all}
use Rattle.std.specs.Result.{result_ok}
use Rattle.std.specs.Str.{all_ascii_digits}
use Rattle.std.specs.Str.Parse.{ParsesUnsigned}
use Rattle.std.proofs.lemmas.Bool.{cases_Bool}
use Rattle.std.proofs.lemmas.Bool.Decides.{Decides-eqb, nat_tests}
use Rattle.std.proofs.lemmas.Fmt.{decimal-digits_value, decimal_digit, decimal_nonempty, digits_decimal, digits_value-decimal, first_decimal, length-decimal-le}
use Rattle.std.proofs.lemmas.Str.Parse.{digits_value_short, parse_gives}
use Rattle.int_text.specs.Ints.{is_numeral, number_of}
use Rattle.int_text.proofs.IntFacts.{le-to, numeral-to, own}
use Rattle.run_settings.specs.Limits.{IsUpTo}
use Rattle.drill_text.specs.Numbers.{has_leading_zero, is_number, is_up_to, number_in, number_up_to}

all_digits : (bs : List ℕ) → list_all is_ascii_digit bs ≡ all_ascii_digits bs
all_digits [] = refl
all_digits (b ∷ bs) = ap (λ r. is_ascii_digit b && r) (all_digits bs)

-- a test of all bytes, where there are any
pub numeral_by_all : (bs : List ℕ) (r : Bool) → 1 ≤ length bs → r ≡ list_all is_ascii_digit bs
    → r ≡ is_numeral bs
numeral_by_all [] r some is = absurd (omega arith)
numeral_by_all (b ∷ bs) r some is = is ∙ all_digits (b ∷ bs)

numeral_digits : (bs : List ℕ) → is_numeral bs ≡ true
    → (all_ascii_digits bs ≡ true) × (0 < length bs)
numeral_digits [] is = cc is
numeral_digits (b ∷ bs) is = (is, omega arith)

-- both of two tests
pub both : (a b : Bool) → (a && b) ≡ true → (a ≡ true) × (b ≡ true)
both true b h = (refl, h)
both false b h = cc h

pub at_most : (m n : ℕ) → nat_le m n ≡ true → m ≤ n
at_most m n h = grind (arith, nat_tests)

-- a number has digits, at least one of them and not too many
pub record IsShort (bs : List ℕ) : Type 0 where
  pub digits : all_ascii_digits bs ≡ true
  pub some : 0 < length bs
  pub few : length bs ≤ 9

pub short_number : (bs : List ℕ) → is_number bs ≡ true → IsShort bs
short_number bs is =
    let parts = both _ _ is in
    let digits = numeral_digits bs (both _ _ parts.0).0 in
    record { digits = digits.0; some = digits.1; few = at_most _ _ parts.1 }

number_small : (bs : List ℕ) → is_number bs ≡ true → number_of bs < 10 ^ 9
number_small bs is =
    let short = short_number bs is in digits_value_short own bs 9 short.digits short.few

-- what `parse` makes of such a text
pub number_parsed : {E : Type 0} (bs : List ℕ) (r : Result ℕ E) → ParsesUnsigned 32 10 bs r
    → is_number bs ≡ true → result_ok r ≡ number_in bs
number_parsed bs r parses is =
    let short = short_number bs is in
    let small = number_small bs is in
    ap result_ok (parse_gives own 32 bs r parses short.digits short.some (omega (arith, small)))
    ∙ ap (λ b. if b then Some (number_of bs) else None) (sym is)

-- ---- numbers and how they are written

alone_if_zero : (bs : List ℕ) → not (has_leading_zero bs) ≡ true → 0 < length bs
    → slice_index bs 0 ≡ 48 → length bs ≡ 1
alone_if_zero [] lead some zero = absurd (omega arith)
alone_if_zero (b ∷ []) lead some zero = refl
alone_if_zero (b ∷ next ∷ bs) lead some zero =
    absurd (true≢false (sym lead ∙ ap not (ap (λ x. x == 48) zero)))

pub written : (bs : List ℕ) → is_number bs ≡ true → bs ≡ decimal (number_of bs)
written bs is =
    let short = short_number bs is in
    let small = number_small bs is in
    sym (decimal-digits_value own bs short.digits short.some
    (alone_if_zero bs (both _ _ (both _ _ is).0).1 short.some) (omega (arith, small)))

no_zero_first : (bs : List ℕ) → 48 < slice_index bs 0 → has_leading_zero bs ≡ false
no_zero_first [] above = refl
no_zero_first (b ∷ []) above = refl
no_zero_first (b ∷ next ∷ bs) above = grind (arith, nat_tests)

no_zero_written : (n : ℕ) → n < 10 ^ 9 → has_leading_zero (decimal n) ≡ false
no_zero_written n small = elim (cases_Bool (n == 0)) [
  | inl zero ↦ rw ((Decides-eqb n 0).0 zero) (rw (decimal_digit 0 (lit< tt)) refl)
  | inr other ↦
      let some : 0 < n = grind (arith, nat_tests) in
      no_zero_first (decimal n) (first_decimal n some (omega arith))
]

number_written : (n : ℕ) → n < 10 ^ 9 → is_number (decimal n) ≡ true
number_written n small =
    let digits : is_numeral (decimal n) ≡ true =
    numeral-to (decimal n) (digits_decimal own n (omega arith))
    (decimal_nonempty n (omega arith)) in
    let few : nat_le (length (decimal n)) 9 ≡ true =
    le-to _ _ (length-decimal-le 9 n (omega arith) small (omega arith)) in
    rw (digits, no_zero_written n small, few) refl

-- a test, and what there is where it holds
pub chosen : {A : Type 0} (b : Bool) (x y : A) → (if b then Some x else None) ≡ Some y
    → (b ≡ true) × (x ≡ y)
chosen true x y is = (refl, cc is)
chosen false x y is = cc is

pub spelled_number : (bs : List ℕ) (n : ℕ) → number_in bs ≡ Some n
    → (bs ≡ decimal n) × (n < 10 ^ 9)
spelled_number bs n is =
    let by = chosen _ _ _ is in
    (written bs by.0 ∙ ap decimal by.1, subst (λ (m : ℕ). m < 10 ^ 9) by.1 (number_small bs by.0))

pub number_spelled : (n : ℕ) → n < 10 ^ 9 → number_in (decimal n) ≡ Some n
number_spelled n small =
    rw (number_written n small) (ap Some (digits_value-decimal own n (omega arith)))

-- ---- numbers up to a limit

up_to : (limit n : ℕ) → is_up_to limit n ≡ true → IsUpTo limit n
up_to limit n is = let parts = both _ _ is in (at_most _ _ parts.0, at_most _ _ parts.1)

is_up : (limit n : ℕ) → IsUpTo limit n → is_up_to limit n ≡ true
is_up limit n within = rw (le-to 1 n within.0, le-to n limit within.1) refl

within_limit : (limit : ℕ) (m : Option ℕ) (n : ℕ)
    → option_and_then (λ n. if is_up_to limit n then Some n else None) m ≡ Some n
    → (m ≡ Some n) × IsUpTo limit n
within_limit limit None n is = cc is
within_limit limit (Some m) n is =
    let by = chosen _ _ _ is in (ap Some by.1, subst (IsUpTo limit) by.1 (up_to limit m by.0))

pub spelled_up_to : (limit : ℕ) (bs : List ℕ) (n : ℕ) → number_up_to limit bs ≡ Some n
    → (number_in bs ≡ Some n) × IsUpTo limit n
spelled_up_to limit bs n is = within_limit limit (number_in bs) n is

pub up_to_spelled : (limit n : ℕ) → IsUpTo limit n → n < 10 ^ 9
    → number_up_to limit (decimal n) ≡ Some n
up_to_spelled limit n within small = rw (number_spelled n small) (rw (is_up limit n within) refl)
