use Rattle.std.proofs.Common.{All}
use Rattle.bag_groups.specs.Pairs.{IsPair}
use Rattle.bag_step_tests.proofs.tests.bags.table.Given as goal

abbrev pub invariant-loop-member : goal.invariant-loop-member
invariant-loop-member l = All IsPair l.bag.items
