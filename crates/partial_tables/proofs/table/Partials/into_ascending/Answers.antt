use Rattle.std.proofs.Common.{refl, sym, subst}
use Rattle.partial_tables.proofs.Adding.{Kept, kept_moved}
use Rattle.partial_tables.proofs.table.Partials.into_ascending.Goals as goal

pub returns-clause-shape : goal.returns-clause-shape
returns-clause-shape c =
    rw (← c.self.view_is)
    (kept_moved c.self.inside.comb c.in_ok-partials.partials.items
    c.sort_by_keys.new.partials.items c.sort_by_keys.new.partials.items c.sort_by_keys.ensures.same
    refl (subst (Kept c.self.inside.comb) (sym c.in_ok-partials.ensures) c.self.invariant)).0

pub returns-clause-distinct : goal.returns-clause-distinct
returns-clause-distinct c =
    (kept_moved c.self.inside.comb c.in_ok-partials.partials.items
    c.sort_by_keys.new.partials.items c.sort_by_keys.new.partials.items c.sort_by_keys.ensures.same
    refl (subst (Kept c.self.inside.comb) (sym c.in_ok-partials.ensures) c.self.invariant)).1
