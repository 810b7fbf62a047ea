use Rattle.std.specs.Prelude.{All}
use Rattle.combine_table.specs.Contents.{IsInt}
use Rattle.combine_tests.proofs.tests.combining.ints.Given as goal

abbrev pub invariant-loop-n : goal.invariant-loop-n
invariant-loop-n l = All IsInt l.values
