use Rattle.std.proofs.Common.{◌≡◌, map}
use Rattle.partial_tables.specs.Lifted.{accumulators_of}
use Rattle.shuffle_parts.proofs.combine.finish_each.Given as goal

abbrev pub invariant-loop-part : goal.invariant-loop-part
invariant-loop-part l = l.combined.items ≡ map accumulators_of l.yielded
