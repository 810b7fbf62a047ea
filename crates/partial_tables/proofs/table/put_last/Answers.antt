use Rattle.partial_tables.proofs.Adding.{inserted_is}
use Rattle.partial_tables.proofs.table.put_last.Goals as goal

pub returns-in-Ok : goal.returns-in-Ok
returns-in-Ok c =
    inserted_is c.args.table.now.entries c.insert.new.self.entries c.args.key c.args.acc
    c.requires c.in-Ok.ensures.entries
