use Rattle.std.proofs.Common.{◌∙◌}
use Rattle.type_table.proofs.TableLemmas.{same-as-numbers}
use Rattle.type_table.proofs.table.Types.same.Goals as goal

pub returns-clause-value : goal.returns-clause-value
returns-clause-value c =
    c.eq.ensures
    ∙ same-as-numbers c.self.inside.shapes.entries c.args.self.now c.args.a c.args.b
    c.same_law.ensures.exact c.self.invariant c.self.view_is c.requires.a_in c.requires.b_in
