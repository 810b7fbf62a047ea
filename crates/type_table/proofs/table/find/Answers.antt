use Rattle.std.proofs.Common.{sym}
use Rattle.type_table.proofs.TableLemmas.{found-at, none-found, absent-at}
use Rattle.type_table.proofs.table.find.Goals as goal

pub returns-in_err-at : goal.returns-in_err-at
returns-in_err-at c =
    rw c.from_residual.ensures
    (absent-at c.args.shape.now c.args.shapes.now.entries
    (none-found _ c.in_err-at.ensures.found))

pub returns : goal.returns
returns c =
    rw c.new.ensures
    (found-at c.args.shape.now c.args.shapes.now.entries c.in_ok-at.at
    (sym c.in_ok-at.ensures.index))
