use Rattle.std.proofs.Common.{◌≡◌, take, map}
use Rattle.combine_table.proofs.whole.copy_each.Given as goal

abbrev pub invariant-loop-value : goal.invariant-loop-value
invariant-loop-value l = l.copied.items ≡ map (λ x. x.now) (take l.value-index l.values)
