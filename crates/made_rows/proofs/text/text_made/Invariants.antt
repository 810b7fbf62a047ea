use Rattle.std.proofs.Common.{◌≡◌, ◌++◌, codes, suc}
use Rattle.std.specs.List.{flat_map}
use Rattle.made_rows.specs.Rows.{number_line, numbers_from}
use Rattle.made_rows.proofs.text.text_made.Given as goal

abbrev pub invariant-loop-turn : goal.invariant-loop-turn
invariant-loop-turn l =
    l.text.items ≡ codes "k,v\n" ++ flat_map number_line (numbers_from (suc l.start) l.turn)
