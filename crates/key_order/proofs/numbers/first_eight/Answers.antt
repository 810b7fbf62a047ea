use Rattle.std.proofs.Common.{rules, ◌∙◌}
use Rattle.std.specs.Int.{w64, from_be_bytes}
use Rattle.key_order.proofs.Numbering.{eight, eight_are, small_from}
use Rattle.key_order.proofs.numbers.first_eight.Goals as goal

pub returns-clause-number : goal.returns-clause-number
returns-clause-number c =
    c.from_be_bytes.ensures
    ∙ (λ i. from_be_bytes w64
    (eight (c.byte_at.ensures i) (c.byte_at-2.ensures i) (c.byte_at-3.ensures i)
    (c.byte_at-4.ensures i) (c.byte_at-5.ensures i) (c.byte_at-6.ensures i)
    (c.byte_at-7.ensures i) (c.byte_at-8.ensures i)))
    ∙ eight_are c.args.text.now

pub returns-clause-held : goal.returns-clause-held
returns-clause-held c = small_from c.args.text.now (search rules)
