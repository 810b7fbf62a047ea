use Rattle.std.proofs.Common.{◌≡◌, take}
use Rattle.combine_table.specs.Combinations.{int_total, wrapped}
use Rattle.combine_table.proofs.whole.total.Given as goal

abbrev pub invariant-loop-value : goal.invariant-loop-value
invariant-loop-value l = l.sum ≡ wrapped (int_total (take l.value-index l.values))
