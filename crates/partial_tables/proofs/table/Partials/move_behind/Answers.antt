use Rattle.std.proofs.Common.{ap, ◌∙◌}
use Rattle.partial_tables.proofs.Adding.{kept_none}
use Rattle.partial_tables.proofs.table.Partials.move_behind.Goals as goal

pub invariant_of-self : goal.invariant_of-self
invariant_of-self c =
    kept_none c.self.inside.comb c.replace-table.new.dest.entries
    (ap (λ m. m.entries) c.replace-table.ensures.after ∙ c.in_ok-empty.ensures.empty)
