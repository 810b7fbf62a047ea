use Rattle.std.proofs.Common.{◌≡◌, ◌++◌, drop}
use Rattle.direct_meaning.specs.inner.Kept.{sizes_kept}
use Rattle.direct_meaning.proofs.told.sizes.Given as goal

abbrev pub invariant-loop-number : goal.invariant-loop-number
invariant-loop-number l =
    let nodes = l.program.script.nodes in
    l.sizes.items ++ sizes_kept (drop l.number nodes) (drop l.number l.table)
    ≡ sizes_kept nodes l.table
