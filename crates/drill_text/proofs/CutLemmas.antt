-- How texts of digits are cut at a sign.
use Rattle.std.proofs.Common.{◌≡◌, ◌≢◌, ◌∙◌, ◌<◌, ◌+◌, ◌==◌, ◌++◌, ℕ, true, false, not, List, [], ◌∷◌, length, take, drop, append_assoc, nat_lt, true≢false, refl, sym, ap, inl, inr, arith}
use Rattle.std.specs.Char.{is_ascii_digit}
use Rattle.std.specs.List.{position_or_len}
use Rattle.std.specs.Str.{all_ascii_digits}
use Rattle.std.proofs.Math.Seq.{take-append_seam}
use Rattle.std.proofs.lemmas.Bool.{cases_Bool}
use Rattle.std.proofs.lemmas.Bool.Decides.{Decides-eqb, nat_tests}
use Rattle.std.proofs.lemmas.List.{drop_at, length_push}
use Rattle.std.proofs.lemmas.List.Sums.{passes_at_first, prefix_len-le-length, split_at_first}
use Rattle.drill_text.specs.Drills.{until_sign, beyond_sign}
use Rattle.drill_text.proofs.EntryLemmas.{nothing_behind}
use Rattle.drill_text.proofs.NumberLemmas.{both}

-- a sign that is no digit is none of the digits
pub no_digit : (sign byte : ℕ) → is_ascii_digit sign ≡ false → is_ascii_digit byte ≡ true
    → (byte == sign) ≡ false
no_digit sign byte apart is = elim (cases_Bool (byte == sign)) [
  | inl same ↦
      let also = ap is_ascii_digit ((Decides-eqb byte sign).0 same) in
      absurd (true≢false (sym is ∙ also ∙ apart))
  | inr other ↦ other
]

past_digits : (sign : ℕ) (ds more : List ℕ) → is_ascii_digit sign ≡ false
    → all_ascii_digits ds ≡ true
    → position_or_len (λ byte. byte == sign) (ds ++ more)
    ≡ length ds + position_or_len (λ byte. byte == sign) more
past_digits sign [] more other digits = grind arith
past_digits sign (d ∷ ds) more other digits =
    let parts = both _ _ digits in
    let rest = past_digits sign ds more other parts.1 in
    rw (no_digit sign d other parts.0) (omega (arith, rest))

at_sign : (sign : ℕ) (rest : List ℕ) → position_or_len (λ byte. byte == sign) (sign ∷ rest) ≡ 0
at_sign sign rest = rw ((Decides-eqb sign sign).1 refl) refl

at_digits_end : (sign : ℕ) (ds rest : List ℕ) → is_ascii_digit sign ≡ false
    → all_ascii_digits ds ≡ true
    → position_or_len (λ byte. byte == sign) (ds ++ sign ∷ rest) ≡ length ds
at_digits_end sign ds rest other digits =
    let there = past_digits sign ds (sign ∷ rest) other digits in
    omega (arith, there, at_sign sign rest)

-- digits, a sign and the rest are cut there
pub before_sign : (sign : ℕ) (ds rest : List ℕ) → is_ascii_digit sign ≡ false
    → all_ascii_digits ds ≡ true → until_sign sign (ds ++ sign ∷ rest) ≡ ds
before_sign sign ds rest other digits =
    ap (λ n. take n (ds ++ sign ∷ rest)) (at_digits_end sign ds rest other digits)
    ∙ take-append_seam ds (sign ∷ rest)

drop_one_more : (ds : List ℕ) (sign : ℕ) (rest : List ℕ)
    → drop (length ds + 1) (ds ++ sign ∷ rest) ≡ rest
drop_one_more ds sign rest =
    ap (drop (length ds + 1)) (sym (append_assoc ds (sign ∷ []) rest))
    ∙ drop_at (ds ++ sign ∷ []) rest (length ds + 1) (length_push ds sign)

pub behind_sign : (sign : ℕ) (ds rest : List ℕ) → is_ascii_digit sign ≡ false
    → all_ascii_digits ds ≡ true → beyond_sign sign (ds ++ sign ∷ rest) ≡ rest
behind_sign sign ds rest other digits =
    ap (λ n. drop (n + 1) (ds ++ sign ∷ rest)) (at_digits_end sign ds rest other digits)
    ∙ drop_one_more ds sign rest

-- a text with anything behind a sign has the sign
pub around_sign : (sign : ℕ) (text : List ℕ) → beyond_sign sign text ≢ []
    → text ≡ until_sign sign text ++ (sign ∷ beyond_sign sign text)
around_sign sign text some =
    let is = λ (byte : ℕ). byte == sign in
    elim (cases_Bool (nat_lt (position_or_len is text) (length text))) [
      | inl within ↦
          let there : position_or_len is text < length text = grind (arith, nat_tests) in
          let first = (Decides-eqb _ _).0 (passes_at_first is text 0 there) in
          split_at_first is text 0 there ∙ rw first refl
      | inr beyond ↦
          let most = prefix_len-le-length (λ byte. not (is byte)) text in
          let lacks : position_or_len is text ≡ length text = grind (arith, nat_tests) in
          absurd (some (nothing_behind sign text lacks))
    ]
