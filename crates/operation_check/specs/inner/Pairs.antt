-- The key and the value of a table in memory.
use Rattle.std.specs.Prelude.{List}
use Rattle.flume_types.specs.declared.types.Ty.{Ty}
use Rattle.type_table.specs.Table.{type_at}
use Rattle.operation_check.specs.declared.pairs.Pair.{Pair as HeldPair}
use Rattle.script_rules.specs.Operations.{Pair}

abbrev pub pair_at : List Ty → HeldPair → Pair
pair_at types held = record { key = type_at types held.key; value = type_at types held.value }
