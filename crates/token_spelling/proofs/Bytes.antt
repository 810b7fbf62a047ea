-- The bytes of words, numbers and signs.
use Rattle.std.proofs.Common.{◌≡◌, ℕ, ◌+◌, ◌<◌, List, [], ◌∷◌, Bool, true, false, ◌==◌, ◌||◌, refl, ap, ◌∙◌, arith}
use Rattle.std.specs.Prelude.{count_by, cond}
use Rattle.std.specs.Char.{is_ascii_digit, is_ascii_alphabetic, is_ascii_alphanumeric}
use Rattle.std.specs.List.{All}
use Rattle.std.specs.Prelude.{IsUtf8}
use Rattle.std.proofs.lemmas.Bool.Decides.{nat_tests}
use Rattle.std.proofs.lemmas.List.Elements.{All-head, All-tail, All-weaker}
use Rattle.std.proofs.lemmas.List.Sums.{sum_by-cons}
use Rattle.std.proofs.lemmas.Str.{IsUtf8-from_ascii}
use Rattle.std.proofs.lemmas.Str.Ascii.{IsAscii-from_all}
use Rattle.token_spelling.proofs.Branches.{apart}

-- a byte of ASCII that ends no line
pub record IsPlain (b : ℕ) : Type 0 where
  pub small : b < 128
  pub inside : (b == 10) ≡ false

-- a byte of a word
abbrev pub is_word : ℕ → Bool
is_word b = is_ascii_alphanumeric b || b == 95

word_small : (b : ℕ) → is_word b ≡ true → b < 128
word_small b h = grind (arith, nat_tests)

digit_small : (b : ℕ) → is_ascii_digit b ≡ true → b < 128
digit_small b h = grind (arith, nat_tests)

pub word_plain : (b : ℕ) → is_word b ≡ true → IsPlain b
word_plain b h = record { small = word_small b h; inside = apart is_word b 10 h refl }

pub digit_plain : (b : ℕ) → is_ascii_digit b ≡ true → IsPlain b
digit_plain b h = record { small = digit_small b h; inside = apart is_ascii_digit b 10 h refl }

-- a digit is no letter
pub digit_no_letter : (b : ℕ) → is_ascii_digit b ≡ true → is_ascii_alphabetic b ≡ false
digit_no_letter b h = grind (arith, nat_tests)

-- a letter is a byte of a word
pub letter_word : (b : ℕ) → is_ascii_alphabetic b ≡ true → is_word b ≡ true
letter_word b h = grind (arith, nat_tests)

-- plain bytes are UTF-8
pub plain_utf8 : (bs : List ℕ) → All IsPlain bs → IsUtf8 bs
plain_utf8 bs h =
    IsUtf8-from_ascii bs
    (IsAscii-from_all bs (All-weaker IsPlain (λ b. b < 128) (λ b p. p.small) bs h))

abbrev pub feeds : List ℕ → ℕ
feeds bs = count_by (λ b. b == 10) bs

pub feeds_cons : (b : ℕ) (bs : List ℕ) → feeds (b ∷ bs) ≡ cond (b == 10) 1 0 + feeds bs
feeds_cons b bs = sum_by-cons (λ b. cond (b == 10) 1 0) b bs

-- bytes none of which ends a line
pub no_feeds : (bs : List ℕ) → All (λ b. (b == 10) ≡ false) bs → feeds bs ≡ 0
no_feeds [] h = refl
no_feeds (b ∷ bs) h =
    let rest = no_feeds bs (All-tail (λ b. (b == 10) ≡ false) b bs h) in
    feeds_cons b bs
    ∙ ap (λ t. cond t 1 0 + feeds bs) (All-head (λ b. (b == 10) ≡ false) b bs h)
    ∙ omega (arith, rest)

pub plain_feeds : (bs : List ℕ) → All IsPlain bs → feeds bs ≡ 0
plain_feeds bs h =
    no_feeds bs (All-weaker IsPlain (λ b. (b == 10) ≡ false) (λ b p. p.inside) bs h)
