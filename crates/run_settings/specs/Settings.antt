-- How a script is run.
use Rattle.std.specs.Prelude.{ℕ, List, []}
use Rattle.crew.specs.declared.drill.Entry.{Entry}
use Rattle.run_settings.specs.Limits.{IsDrill, IsUpTo, most_partitions, most_shards, most_tries, most_workers}

-- how many workers there are, into how many shards an input is cut and into how many partitions
-- groups are, how often a task is tried, and the attempts that are lost on purpose
pub record RunSettings : Type 0 where
  pub workers : ℕ
  pub shards : ℕ
  pub partitions : ℕ
  pub tries : ℕ
  pub drill : List Entry

-- each of them is as runs may have it
pub record AreWithinLimits (s : RunSettings) : Type 0 where
  pub workers : IsUpTo most_workers s.workers
  pub shards : IsUpTo most_shards s.shards
  pub partitions : IsUpTo most_partitions s.partitions
  pub tries : IsUpTo most_tries s.tries
  pub drill : IsDrill s.drill

-- where nothing else is asked for
abbrev pub standard : RunSettings
standard = record { workers = 2; shards = 2; partitions = 2; tries = 2; drill = [] }
