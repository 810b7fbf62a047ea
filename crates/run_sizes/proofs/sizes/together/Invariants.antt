use Rattle.std.proofs.Common.{◌≡◌, ◌+◌, ◌-◌, ◌^◌, ◌≤◌, drop}
use Rattle.run_sizes.specs.inner.Along.{kept, together}
use Rattle.run_sizes.proofs.sizes.together.Given as goal

abbrev pub invariant-loop-source : goal.invariant-loop-source
invariant-loop-source l =
    (l.total ≤ 2 ^ 64 - 1)
    × (kept (l.total + together l.sizes (drop l.source-index l.sources))
    ≡ kept (together l.sizes l.sources))
