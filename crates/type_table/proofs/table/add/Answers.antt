use Rattle.std.proofs.Common.{◌∙◌}
use Rattle.indexmap.proofs.CallerLemmas.{insert_entry-new}
use Rattle.type_table.specs.contracts.shape.ShapePartialEq.TheImpl.{ghosts}
use Rattle.type_table.proofs.TableLemmas.{lookup-absent}
use Rattle.type_table.proofs.table.add.Goals as goal

pub returns-clause-ok : goal.returns-clause-ok
returns-clause-ok c =
    c.in_ok-insert.ensures.entries
    ∙ insert_entry-new (ghosts).eq c.args.shapes.now c.args.shape c.args.depth
    (lookup-absent c.args.shape c.args.shapes.now.entries c.requires)
