use Rattle.std.specs.Prelude.{nat_eq}
use Rattle.std.proofs.Common.{◌≡◌, ℕ, drop}
use Rattle.std.specs.HashMap.{get}
use Rattle.graph_names.specs.inner.Kinds.{first_kind, kind_in}
use Rattle.graph_names.proofs.kinds.pdos_of.Given as goal

abbrev pub invariant-loop-entry : goal.invariant-loop-entry
invariant-loop-entry l = (n : ℕ)
    → first_kind (get nat_eq l.pdos n) (kind_in (drop l.entry-index l.nodes) n)
    ≡ kind_in l.nodes n
