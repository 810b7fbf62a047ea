use Rattle.std.proofs.Common.{◌≡◌, ◌++◌}
use Rattle.partial_tables.proofs.entries.append_entries.Given as goal

abbrev pub invariant-loop-entry : goal.invariant-loop-entry
invariant-loop-entry l =
    l.others.items ++ l.entry-iterator ≡ l.fn.others.items ++ l.fn.table.entries
