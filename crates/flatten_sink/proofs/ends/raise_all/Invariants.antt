use Rattle.std.specs.Prelude.{nat_eq}
use Rattle.std.proofs.Common.{◌≡◌, ℕ, drop}
use Rattle.std.specs.HashMap.{get}
use Rattle.flatten_sink.specs.inner.Ends.{or_zero, raised}
use Rattle.flatten_sink.proofs.ends.raise_all.Given as goal

abbrev pub invariant-loop-place : goal.invariant-loop-place
invariant-loop-place l = (n : ℕ)
    → raised l.end (drop l.place-index l.places) n (or_zero (get nat_eq l.ends n))
    ≡ raised l.end l.places n (or_zero (get nat_eq l.fn.ends n))
