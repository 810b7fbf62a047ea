use Rattle.std.proofs.Common.{◌<◌, ℕ, ap, length, subst}
use Rattle.partial_tables.proofs.Tabling.{tables_more}
use Rattle.partial_tables.proofs.lift.put_copy.Goals as goal

pub returns-in-Ok-clause-tables : goal.returns-in-Ok-clause-tables
returns-in-Ok-clause-tables c pairs value made tables =
    tables_more c.args.table.now.comb pairs c.args.others.now.items c.args.table.now.partials
    c.add_copy.new.self.partials c.args.key.now value c.args.acc
    (ap (λ t. t.partials) c.in-Ok.ensures.added) made
    (λ none.
    subst (λ (n : ℕ). length c.args.table.now.partials < n) c.requires.room
    (c.in-Ok.ensures.room none)) tables
