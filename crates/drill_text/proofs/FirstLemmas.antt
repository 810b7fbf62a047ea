-- How numbers and drills begin.
use Rattle.std.proofs.Common.{◌≡◌, ◌++◌, ◌≤◌, true, ℕ, List, [], ◌∷◌, length, Some, refl, ap, subst, sym, arith}
use Rattle.std.specs.Prelude.{decimal}
use Rattle.std.specs.Char.{is_ascii_digit}
use Rattle.std.specs.List.{All}
use Rattle.std.specs.Str.{all_ascii_digits}
use Rattle.std.proofs.lemmas.Fmt.{decimal_nonempty, digits_decimal}
use Rattle.std.proofs.lemmas.List.Elements.{All-head}
use Rattle.crew.specs.declared.drill.Entry.{Entry}
use Rattle.int_text.specs.Ints.{is_numeral}
use Rattle.int_text.proofs.IntFacts.{own}
use Rattle.drill_text.specs.Drills.{drill_in}
use Rattle.drill_text.specs.Numbers.{number_in}
use Rattle.drill_text.specs.Spelled.{IsNamed, drill_text, entry_text}
use Rattle.drill_text.proofs.LawLemmas.{drill_spells}
use Rattle.drill_text.proofs.NumberLemmas.{both, chosen}

-- the first byte of a text is a digit
pub record BeginsWithDigit (text : List ℕ) : Type 0 where
  pub first : ℕ
  pub rest : List ℕ
  pub is : text ≡ first ∷ rest
  pub digit : is_ascii_digit first ≡ true

of_digits : (text : List ℕ) → all_ascii_digits text ≡ true → 1 ≤ length text → BeginsWithDigit text
of_digits [] digits some = absurd (omega arith)
of_digits (b ∷ text) digits some =
    record { first = b; rest = text; is = refl; digit = (both _ _ digits).0 }

before_more : (text more : List ℕ) → BeginsWithDigit text → BeginsWithDigit (text ++ more)
before_more text more begins = record {
  first = begins.first;
  rest = begins.rest ++ more;
  is = ap (λ (x : List ℕ). x ++ more) begins.is;
  digit = begins.digit;
}

numeral_begins : (text : List ℕ) → is_numeral text ≡ true → BeginsWithDigit text
numeral_begins [] is = cc is
numeral_begins (b ∷ text) is = of_digits (b ∷ text) is (omega arith)

pub number_begins : (text : List ℕ) (n : ℕ) → number_in text ≡ Some n → BeginsWithDigit text
number_begins text n is =
    numeral_begins text (both _ _ (both _ _ (chosen _ _ _ is).0).0).0

entry_begins : (e : Entry) → IsNamed e → BeginsWithDigit (entry_text e)
entry_begins e named =
    before_more (decimal e.stage) _
    (of_digits (decimal e.stage) (digits_decimal own e.stage (omega (arith, named.stage.1)))
    (omega (arith, decimal_nonempty e.stage (omega (arith, named.stage.1)))))

text_begins : (es : List Entry) → All IsNamed es → 1 ≤ length es → BeginsWithDigit (drill_text es)
text_begins [] named some = absurd (omega arith)
text_begins (e ∷ []) named some = entry_begins e (All-head IsNamed e [] named)
text_begins (e ∷ f ∷ es) named some =
    before_more (entry_text e) _ (entry_begins e (All-head IsNamed e (f ∷ es) named))

pub drill_begins : (text : List ℕ) (es : List Entry) → drill_in text ≡ Some es
    → BeginsWithDigit text
drill_begins text es is =
    let spells = drill_spells text es is in
    subst BeginsWithDigit (sym spells.is) (text_begins es spells.named spells.some)
