use Rattle.std.proofs.Common.{◌≡◌, take}
use Rattle.kept_results.specs.Sizes.{sizes_told}
use Rattle.kept_results.proofs.sizes.sizes_told.Given as goal

abbrev pub invariant-loop-number : goal.invariant-loop-number
invariant-loop-number l = l.sizes.items ≡ sizes_told l.known (take l.number-index l.nodes)
