use Rattle.std.proofs.Common.{◌≡◌, drop}
use Rattle.expression_types.specs.Fields.{are_different}
use Rattle.expression_types.proofs.different.are_different.Given as goal

abbrev pub invariant-loop-i : goal.invariant-loop-i
invariant-loop-i l = are_different l.names ≡ are_different (drop l.i l.names)
