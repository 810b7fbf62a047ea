use Rattle.std.proofs.Common.{ℕ, ◌≡◌, ◌++◌, Option, Some, cond, eqb, map, take, drop}
use Rattle.combine_table.specs.declared.comb.Comb.{Comb}
use Rattle.graph_laws.specs.Lifting.{marked_entry}
use Rattle.graph_rewriting.proofs.lifting.lifted.Given as goal

abbrev pub invariant-loop-entry : goal.invariant-loop-entry
invariant-loop-entry l =
    let s = λ (m : ℕ) (k : Option Comb). cond (eqb m l.group) (Some l.comb) k in
    take l.entry-index l.entry-items ++ map (marked_entry s) (drop l.entry-index l.entry-items)
    ≡ map (marked_entry s) l.initial.entry-items
