use Rattle.std.proofs.Common.{◌≡◌, ◌≤◌, ◌*◌, suc}
use Rattle.made_rows.specs.Rows.{numbers_from, total_of_numbers}
use Rattle.made_rows.proofs.text.made_total.Given as goal

abbrev pub invariant-loop-turn : goal.invariant-loop-turn
invariant-loop-turn l = record {
  so_far : l.total ≡ total_of_numbers (numbers_from (suc l.start) l.turn);
  small : l.total ≤ l.turn * 2000001;
}
