use Rattle.std.specs.Prelude.{nat_eq}
use Rattle.std.proofs.Common.{◌≡◌, ℕ, drop}
use Rattle.std.specs.HashMap.{get}
use Rattle.flatten_sink.specs.inner.Ends.{end_behind, or_zero}
use Rattle.flatten_sink.proofs.ends.ends_of.Given as goal

abbrev pub invariant-loop-entry : goal.invariant-loop-entry
invariant-loop-entry l = (n : ℕ)
    → end_behind (drop l.entry-index l.nodes) n (or_zero (get nat_eq l.ends n))
    ≡ end_behind l.nodes n 0
