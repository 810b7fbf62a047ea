use Rattle.std.proofs.Common.{◌+◌, ◌*◌}
use Rattle.csv_rows.proofs.shared.+parts.Given as goal

abbrev pub decreases-rows_in_parts : goal.decreases-rows_in_parts
decreases-rows_in_parts g l = 4 * l.parts

abbrev pub decreases-read_both : goal.decreases-read_both
decreases-read_both g l = 4 * l.parts + 2

abbrev pub decreases-read_both-join+arg3 : goal.decreases-read_both-join+arg3
decreases-read_both-join+arg3 g l = 4 * l.parts + 1
