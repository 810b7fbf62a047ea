use Rattle.std.specs.Prelude.{nat_eq}
use Rattle.std.proofs.Common.{◌≡◌, ℕ, drop}
use Rattle.std.specs.HashMap.{get}
use Rattle.flatten_sink.specs.inner.Ends.{unless_among}
use Rattle.flatten_sink.proofs.ends.forget_all.Given as goal

abbrev pub invariant-loop-place : goal.invariant-loop-place
invariant-loop-place l = (n : ℕ)
    → unless_among (drop l.place-index l.places) n (get nat_eq l.ends n)
    ≡ unless_among l.places n (get nat_eq l.fn.ends n)
