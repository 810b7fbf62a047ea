use Rattle.drill_text.proofs.LawLemmas.{drill_spells, spells_drill}
use Rattle.drill_text.proofs.laws.drill_law.Goals as goal

pub returns : goal.returns
returns c entries =
    (drill_spells c.args.text.now entries, spells_drill c.args.text.now entries)
