use Rattle.std.proofs.Common.{◌≡◌, drop}
use Rattle.kept_results.specs.inner.Named.{are_named}
use Rattle.kept_results.proofs.names.are_named.Given as goal

abbrev pub invariant-loop-place : goal.invariant-loop-place
invariant-loop-place l =
    are_named l.sizes l.names ≡ are_named (drop l.place l.sizes) (drop l.place l.names)
