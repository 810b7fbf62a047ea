use Rattle.std.proofs.Common.{◌≡◌, drop}
use Rattle.kept_results.specs.Sizes.{size_at}
use Rattle.kept_results.proofs.sizes.size_at.Given as goal

abbrev pub invariant-loop-own : goal.invariant-loop-own
invariant-loop-own l = size_at (drop l.own-index l.known) l.number ≡ size_at l.known l.number
