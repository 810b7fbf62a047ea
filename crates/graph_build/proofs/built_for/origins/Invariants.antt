use Rattle.std.proofs.Common.{◌≡◌, ◌++◌, drop}
use Rattle.std.specs.List.{flat_map}
use Rattle.graph_build.specs.Origins.{origins_at, origins_of}
use Rattle.graph_build.specs.Built.{built}
use Rattle.graph_build.proofs.built_for.origins.Given as goal

abbrev pub invariant-loop-origin : goal.invariant-loop-origin
invariant-loop-origin l =
    l.origins.items ++ flat_map origins_at (drop l.origin (built l.program.script))
    ≡ origins_of l.program.script
