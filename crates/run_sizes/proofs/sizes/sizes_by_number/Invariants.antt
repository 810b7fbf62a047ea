use Rattle.std.proofs.Common.{◌≡◌, ◌≤◌, [], drop, length}
use Rattle.run_sizes.specs.inner.Along.{sizes_along}
use Rattle.run_sizes.proofs.sizes.sizes_by_number.Given as goal

abbrev pub invariant-loop-number : goal.invariant-loop-number
invariant-loop-number l = record {
  count : length l.sizes.items ≡ l.number;
  sources : l.source ≤ l.number;
  ahead : sizes_along l.program.script l.members l.numbers l.counts
      (drop l.number l.program.script.nodes) l.source l.sizes.items
      ≡ sizes_along l.program.script l.members l.numbers l.counts l.program.script.nodes 0 [];
}
