use Rattle.std.proofs.Common.{◌≡◌, ◌++◌, drop}
use Rattle.run_sizes.specs.inner.Along.{named_sizes}
use Rattle.run_sizes.proofs.sizes.named.Given as goal

abbrev pub invariant-loop-number : goal.invariant-loop-number
invariant-loop-number l =
    let nodes = l.program.script.nodes in
    l.named.items ++ named_sizes (drop l.number nodes) (drop l.number l.sizes)
    ≡ named_sizes nodes l.sizes
