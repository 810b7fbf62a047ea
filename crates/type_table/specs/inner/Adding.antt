-- Columns that are added behind others.
use Rattle.std.specs.Prelude.{◌≡◌, List, Option, Some}
use Rattle.flume_types.specs.declared.column.Column.{Column}
use Rattle.flume_types.specs.Columns.{columns_and}

-- the columns before, and these behind them, are the columns after
abbrev pub Adds : List Column → List Column → Option (List Column) → Type 0
Adds before after more = columns_and (Some before) more ≡ Some after
