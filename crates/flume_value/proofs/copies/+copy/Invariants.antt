use Rattle.std.proofs.Common.{◌≡◌, take}
use Rattle.flume_value.proofs.copies.+copy.Given as goal

abbrev pub invariant-copy_all-loop-value : goal.invariant-copy_all-loop-value
invariant-copy_all-loop-value l = l.copied.items ≡ take l.value-index l.values
