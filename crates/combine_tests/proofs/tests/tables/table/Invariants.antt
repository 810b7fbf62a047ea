use Rattle.std.specs.Prelude.{All}
use Rattle.flume_types.specs.declared.types.Ty.TheVariants as ty
use Rattle.flume_types.specs.Tables.{table_of}
use Rattle.flume_types.specs.Typing.{AllHave}
use Rattle.bag_groups.specs.Pairs.{IsPair}
use Rattle.combine_tests.proofs.tests.tables.table.Given as goal

abbrev pub invariant-loop-pair : goal.invariant-loop-pair
invariant-loop-pair l =
    AllHave (table_of ty.Int ty.Int) l.table.items × All IsPair l.table.items
