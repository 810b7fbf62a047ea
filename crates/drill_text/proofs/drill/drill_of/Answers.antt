use Rattle.std.proofs.Common.{◌∙◌, sym}
use Rattle.drill_text.proofs.DrillLemmas.{drill_may}
use Rattle.drill_text.proofs.drill.drill_of.Goals as goal

pub returns-in-Some-clause-within : goal.returns-in-Some-clause-within
returns-in-Some-clause-within c =
    rw c.new.ensures
    (drill_may c.in-Some.entries
    (rw c.as_slice.ensures at (sym c.is_drill.ensures ∙ c.if-is_drill.true)))
