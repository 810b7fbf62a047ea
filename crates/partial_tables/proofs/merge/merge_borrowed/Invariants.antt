use Rattle.std.proofs.Common.{◌≡◌, ◌≤◌, ◌++◌, length, map}
use Rattle.partial_tables.specs.inner.Regrouped.{Regrouped}
use Rattle.partial_tables.proofs.merge.merge_borrowed.Given as goal

abbrev pub invariant-loop-partial : goal.invariant-loop-partial
invariant-loop-partial l =
    Regrouped l.comb (map (λ p. p.now) l.yielded) l.table.partials × (l.table.comb ≡ l.comb)
    × (l.table.room ≡ length l.fn.partials.items)
    × (length l.table.partials ≤ length (map (λ p. p.now) l.yielded))
    × (l.yielded ++ l.partial-iterator.rest.items ≡ l.fn.partials.items)
