use Rattle.std.proofs.Common.{rules, ap, FitsSigned, ◌+◌, ◌/◌, ◌%◌, ◌^◌, ◌∙◌}
use Rattle.std.specs.Int.{w64, cast_unsigned}
use Rattle.std.proofs.lemmas.Int.{to_z-of_z}
use Rattle.key_order.proofs.Numbering.{above_by}
use Rattle.key_order.proofs.numbers.int_bits.Goals as goal

pub returns-clause-bits : goal.returns-clause-bits
returns-clause-bits c =
    let n = c.args.n.now in
    let fits : FitsSigned w64 n = search rules in
    ap (λ k. (k + 2 ^ 63) % 2 ^ 64 / 8)
    (c.cast_unsigned.ensures ∙ ap (cast_unsigned w64) (to_z-of_z w64 n fits))
    ∙ ap (λ k. k / 8) (above_by n fits)
