use Rattle.std.proofs.Common.{◌∙◌, sym}
use Rattle.drill_text.proofs.NumberLemmas.{number_parsed}
use Rattle.drill_text.proofs.number.number_in.Goals as goal

pub returns-then-is_number : goal.returns-then-is_number
returns-then-is_number c =
    c.ok.ensures.value
    ∙ number_parsed c.args.text.now c.parse.result c.parse.ensures.value.0
    (rw c.as_bytes.ensures.value at (sym c.is_number.ensures ∙ c.if-is_number.true))
