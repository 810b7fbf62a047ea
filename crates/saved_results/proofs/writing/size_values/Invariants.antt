use Rattle.std.proofs.Common.{◌≡◌, map, take}
use Rattle.saved_results.specs.Saved.{size_value}
use Rattle.saved_results.proofs.writing.size_values.Given as goal

abbrev pub invariant-loop-size : goal.invariant-loop-size
invariant-loop-size l = l.values ≡ map size_value (take l.size-index l.sizes)
