use Rattle.std.proofs.Common.{◌≡◌, map, take}
use Rattle.kept_results.specs.Sizes.{size_entry}
use Rattle.kept_results.proofs.sizes.to_keep.Given as goal

abbrev pub invariant-loop-number : goal.invariant-loop-number
invariant-loop-number l = l.sizes ≡ map (size_entry l.known) (take l.number-index l.nodes)
