use Rattle.std.specs.Prelude.{nat_eq}
use Rattle.std.proofs.Common.{◌≡◌, ℕ, drop}
use Rattle.std.specs.HashMap.{get}
use Rattle.graph_names.specs.inner.Spots.{first_spot, spot_from}
use Rattle.graph_names.proofs.spots.note_outs.Given as goal

abbrev pub invariant-loop-at : goal.invariant-loop-at
invariant-loop-at l = (n : ℕ)
    → first_spot (get nat_eq l.places n) (spot_from l.node l.at (drop l.at l.outs) n)
    ≡ first_spot (get nat_eq l.fn.places n) (spot_from l.node 0 l.outs n)
