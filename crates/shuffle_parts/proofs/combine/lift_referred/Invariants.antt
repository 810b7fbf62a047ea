use Rattle.std.proofs.Common.{map}
use Rattle.std.specs.List.{AllZip}
use Rattle.partial_tables.specs.Lifted.{IsLifted}
use Rattle.shuffle_parts.specs.Partitions.{in_parts}
use Rattle.shuffle_parts.proofs.combine.lift_referred.Given as goal

abbrev pub invariant-loop-pair : goal.invariant-loop-pair
invariant-loop-pair l =
    AllZip (IsLifted l.comb) l.parts.items
    (in_parts l.partitions (map (λ pair. pair.now) l.yielded))
