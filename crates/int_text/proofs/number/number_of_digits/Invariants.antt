use Rattle.std.proofs.Common.{◌≡◌, ◌<◌, ◌^◌, drop}
use Rattle.int_text.specs.inner.Numbers.{short_on}
use Rattle.int_text.proofs.number.number_of_digits.Given as goal

abbrev pub invariant-loop-digit : goal.invariant-loop-digit
invariant-loop-digit l =
    (l.number < 10 ^ 19) × (short_on l.number (drop l.digit-index l.digits) ≡ short_on 0 l.digits)
