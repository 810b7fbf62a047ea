use Rattle.std.proofs.Common.{[]}
use Rattle.std.specs.List.{AllZip}
use Rattle.partial_tables.specs.Lifted.{IsLifted}
use Rattle.shuffle_parts.specs.Partitions.{in_parts}
use Rattle.shuffle_parts.proofs.combine.none_lifted.Given as goal

abbrev pub invariant-loop-i : goal.invariant-loop-i
invariant-loop-i l = AllZip (IsLifted l.comb) l.parts.items (in_parts l._i [])
