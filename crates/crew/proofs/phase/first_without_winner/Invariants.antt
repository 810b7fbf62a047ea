use Rattle.std.proofs.Common.{ℕ, ◌≢◌, ◌<◌}
use Rattle.std.specs.Prelude.{slice_index}
use Rattle.crew.proofs.phase.first_without_winner.Given as goal

abbrev pub invariant-loop-task : goal.invariant-loop-task
invariant-loop-task l = (t : ℕ) → t < l.task → slice_index l.tally.winners t ≢ 0
