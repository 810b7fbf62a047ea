use Rattle.std.proofs.Common.{map, sym, subst}
use Rattle.std.specs.Borrow.{Bor}
use Rattle.flume_value.specs.declared.value.Value.{Value}
use Rattle.bag_groups.specs.Pairs.{pairs_of}
use Rattle.partial_tables.specs.Merges.{StandFor}
use Rattle.partial_tables.specs.Tables.{Pairs}
use Rattle.partial_tables.proofs.Tabling.{tables_stand}
use Rattle.partial_tables.proofs.lift.lift_borrowed.Goals as goal

pub returns-clause-stands : goal.returns-clause-stands
returns-clause-stands c =
    let l = c.in_ok-lifting.lifting in
    let pairs : Pairs = pairs_of (map (λ (p : Bor Value). p.now) c.args.pairs.items) in
    subst (λ (ps : Pairs). StandFor c.args.comb ps pairs) (sym c.in_ok-partials.ensures)
    (tables_stand c.args.comb pairs l.others.items l.table.partials c.in_ok-lifting.ensures.0)

pub returns-clause-tables : goal.returns-clause-tables
returns-clause-tables c =
    let l = c.in_ok-lifting.lifting in record {
      taken = l.others.items;
      last = l.table.partials;
      tables = c.in_ok-lifting.ensures.0;
      all = sym c.in_ok-partials.ensures;
    }
