-- Which made workloads there are.
use Rattle.std.specs.Prelude.{◌≤◌}
use Rattle.command_words.specs.Words.{most_made}
use Rattle.command_words.specs.declared.workload.Workload.{Workload}

-- both of its numbers are as they may be
pub record IsWithinLimits (w : Workload) : Type 0 where
  pub start : w.start ≤ most_made
  pub rows : w.rows ≤ most_made
