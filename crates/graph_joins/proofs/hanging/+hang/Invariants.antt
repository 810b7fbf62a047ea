use Rattle.std.proofs.Common.{◌+◌, ◌*◌}
use Rattle.graph_joins.proofs.hanging.+hang.Given as goal

abbrev pub decreases-hang : goal.decreases-hang
decreases-hang l = 4 * l.rest

abbrev pub decreases-hang_step : goal.decreases-hang_step
decreases-hang_step l = 4 * l.rest + 3

abbrev pub decreases-hang_outputs : goal.decreases-hang_outputs
decreases-hang_outputs l = 4 * l.rest + 2

abbrev pub decreases-hang_output : goal.decreases-hang_output
decreases-hang_output l = 4 * l.rest + 1
