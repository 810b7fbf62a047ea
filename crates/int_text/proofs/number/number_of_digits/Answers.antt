use Rattle.std.proofs.Common.{◌∙◌, sym}
use Rattle.int_text.proofs.NumberFacts.{at_end, no_digit, too_long, whole}
use Rattle.int_text.proofs.number.number_of_digits.Goals.{then-not-is_ascii_digit-via-then-not-is_ascii_digit, then-not-is_ascii_digit-via-else-not-is_ascii_digit+then-number-ge-FULL}
use Rattle.int_text.proofs.number.number_of_digits.Goals as goal

pub returns-then-not-is_ascii_digit : goal.returns-then-not-is_ascii_digit
returns-then-not-is_ascii_digit c =
    elim c.then-not-is_ascii_digit.branch [
      | then-not-is_ascii_digit-via-then-not-is_ascii_digit w ↦
          no_digit c.loop-digit.number c.args.digits.now c.loop-digit.digit-index
          c.loop-digit-test.true (sym c.is_ascii_digit.ensures.value ∙ w.if-not-is_ascii_digit.true)
      | then-not-is_ascii_digit-via-else-not-is_ascii_digit+then-number-ge-FULL w ↦
          too_long c.loop-digit.number c.args.digits.now c.loop-digit.digit-index
          c.loop-digit-test.true w.if-number-ge-FULL.true
    ]
    ∙ c.loop-digit.invariant.1 ∙ whole c.args.digits.now c.if-is_empty.ensures

pub returns : goal.returns
returns c =
    at_end c.loop-digit.number c.args.digits.now c.loop-digit.digit-index c.loop-digit-test.false
    c.loop-digit.invariant.0
    ∙ c.loop-digit.invariant.1 ∙ whole c.args.digits.now c.if-is_empty.ensures
