-- The words of these specs are a reading of digits, and tests of what is known.
use Rattle.std.proofs.Common.{◌≡◌, ◌<◌, ◌≤◌, ℕ, true, List, [], ◌∷◌, length, arith, rules}
use Rattle.std.specs.Prelude.{nat_lt, nat_le}
use Rattle.std.proofs.lemmas.Bool.Decides.{nat_tests}
use Rattle.std.proofs.lemmas.Str.Parse.{IsNumeralModel, numerals_by_fold}
use Rattle.std.specs.Str.{all_ascii_digits}
use Rattle.int_text.specs.Ints.{is_numeral, number_on}

pub own : IsNumeralModel (λ ds. all_ascii_digits ds ≡ true) (number_on 0)
unfolding number_on
own = numerals_by_fold _ (search rules) number_on (search rules)

pub numeral-to : (ds : List ℕ) → all_ascii_digits ds ≡ true → 0 < length ds → is_numeral ds ≡ true
numeral-to [] d n = absurd (omega arith)
numeral-to (b ∷ rest) d n = d

pub lt-to : (m n : ℕ) → m < n → nat_lt m n ≡ true
lt-to m n h = grind (arith, nat_tests)

pub le-to : (m n : ℕ) → m ≤ n → nat_le m n ≡ true
le-to m n h = grind (arith, nat_tests)
