use Rattle.partial_tables.proofs.Adding.{kept_none}
use Rattle.partial_tables.proofs.table.Partials.new.Goals as goal

pub invariant_of-result : goal.invariant_of-result
invariant_of-result c = kept_none c.args.comb c.new.result.entries c.new.ensures.empty
