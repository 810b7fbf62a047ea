use Rattle.std.proofs.Common.{◌≡◌, ◌/◌, ap, sym, to_z, ◌∙◌}
use Rattle.std.proofs.lemmas.Int.{to_z_pos}
use Rattle.std.specs.Int.{w64}
use Rattle.direct_meaning.specs.inner.Beginnings.{leading}
use Rattle.direct_meaning.proofs.TextOrder.{half-below, leading_of_bytes}
use Rattle.direct_meaning.proofs.sorting.text_bits.Goals as goal

pub returns : goal.returns
returns c =
    let text = c.args.text.now in
    let number : c.first_eight.result ≡ leading 8 text
    = c.first_eight.ensures.number ∙ sym (leading_of_bytes 8 text c.first_eight.ensures.held) in
    ap (λ k. to_z w64 (k / 2)) number ∙ to_z_pos w64 (leading 8 text / 2) (half-below text)
