use Rattle.std.proofs.Common.{◌≤◌}
use Rattle.kept_results.proofs.SortLemmas.{AscendTo}
use Rattle.kept_results.proofs.fitting.ascend.Given as goal

abbrev pub invariant-loop-number : goal.invariant-loop-number
invariant-loop-number l = (1 ≤ l.number) × AscendTo l.items l.number
