use Rattle.std.proofs.Common.{◌≡◌, ◌+◌, ◌-◌, ℕ, get_or, length}
use Rattle.graph_walks.proofs.tables.lengthen.Given as goal

abbrev pub invariant-loop-table : goal.invariant-loop-table
invariant-loop-table l =
    (j : ℕ) → get_or l.table.items j l.count ≡ get_or l.initial.table.items j l.count

abbrev pub decreases-loop-table : goal.decreases-loop-table
decreases-loop-table l = l.at + 1 - length l.table.items
