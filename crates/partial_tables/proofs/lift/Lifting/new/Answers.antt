use Rattle.std.proofs.Common.{[], sym, ap, subst}
use Rattle.partial_tables.specs.Runs.{AreTables}
use Rattle.partial_tables.specs.Tables.{Pairs, Table}
use Rattle.partial_tables.proofs.Tabling.{tables_none}
use Rattle.partial_tables.proofs.lift.Lifting.new.Goals as goal

pub returns : goal.returns
returns c =
    let made = c.new-table.ensures in
    let none = c.new-others.ensures.items in (
      subst (λ (ps : Pairs). AreTables c.args.comb [] ps c.new-table.result.partials) (sym none)
          (subst (λ (t : Table). AreTables c.args.comb [] [] t.partials) (sym made)
          (tables_none c.args.comb)),
      ap (λ (t : Table). t.comb) made,
      ap (λ (t : Table). t.room) made,
    )
