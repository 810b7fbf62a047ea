use Rattle.std.proofs.Common.{map}
use Rattle.partial_tables.specs.Lifted.{IsLifted}
use Rattle.partial_tables.proofs.lift.lift_each.Given as goal

abbrev pub invariant-loop-pair : goal.invariant-loop-pair
invariant-loop-pair l = IsLifted l.comb l.lifting (map (λ p. p.now) l.yielded)
