use Rattle.type_table.proofs.TableLemmas.{level-at}
use Rattle.type_table.proofs.table.Types.shape.Goals as goal

pub returns-clause-level : goal.returns-clause-level
returns-clause-level c =
    level-at c.self.inside.shapes.entries c.args.self.now c.args.id c.shape_at.result.now
    c.self.invariant c.self.view_is c.requires c.shape_at.ensures
