use Rattle.std.specs.List.{AllZip}
use Rattle.partial_tables.specs.Lifted.{IsLifted}
use Rattle.shuffle_parts.specs.Partitions.{in_parts}
use Rattle.shuffle_parts.proofs.Putting.{ArePut}
use Rattle.shuffle_parts.proofs.combine.lift_more.Given as goal

abbrev pub invariant-loop-pair : goal.invariant-loop-pair
invariant-loop-pair g l =
    ArePut g.P.Paired.as_pair
    (λ done parts. AllZip (IsLifted l.comb) parts (in_parts l.partitions done)) l.fn.parts.items
    l.fn.pairs.items l.parts.items l.yielded l.pair-iterator.rest.items
