use Rattle.std.proofs.Common.{◌≡◌, map, suc}
use Rattle.made_rows.specs.Rows.{numbers_from, made_row}
use Rattle.made_rows.proofs.rows.rows_made.Given as goal

abbrev pub invariant-loop-turn : goal.invariant-loop-turn
invariant-loop-turn l = l.items.items ≡ map made_row (numbers_from (suc l.start) l.turn)
