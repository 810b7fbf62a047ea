-- Pairs that are put in one after another.
use Rattle.std.specs.Prelude.{◌≡◌, ◌++◌, List}
use Rattle.flume_value.specs.declared.value.Value.{Value}
use Rattle.bag_groups.specs.Pairs.{pairs_of}
use Rattle.combine_table.specs.declared.comb.Comb.{Comb}
use Rattle.partial_tables.specs.declared.lift.Lifting.{Lifting}
use Rattle.partial_tables.specs.Runs.{AreTables, most_keys}
use Rattle.partial_tables.specs.Tables.{Pairs}

-- those that were taken out of the table before, and those in it
abbrev pub accumulators_of : Lifting → Pairs
accumulators_of l = l.others.items ++ l.table.partials

-- they are the tables of these pairs, and the table is the combiner's, with its room
abbrev pub IsLifted : Comb → Lifting → List Value → Type 0
IsLifted c l pairs =
    AreTables c (pairs_of pairs) l.others.items l.table.partials
    × (l.table.comb ≡ c) × (l.table.room ≡ most_keys)
