use Rattle.partial_tables.proofs.Adding.{kept_none, kept_more}
use Rattle.partial_tables.proofs.table.Partials.add.Goals as goal

pub invariant_of-self : goal.invariant_of-self
invariant_of-self c =
    let i = c.self.inside in
    kept_more i.comb i.table.entries _ c.args.key c.args.acc c.in-Ok.ensures
    (rw (← c.self.view_is) at c.requires.shape) c.self.invariant

pub invariant_of-self-in-Err : goal.invariant_of-self-in-Err
invariant_of-self-in-Err c = kept_none c.self.inside.comb c.clear.new.table.entries c.clear.ensures
