-- What runs may have.
use Rattle.std.specs.Prelude.{ℕ, ◌≤◌, ◌≢◌, List, length}
use Rattle.std.specs.List.{AllPairs}
use Rattle.crew.specs.declared.drill.Entry.{Entry}

-- the most workers
abbrev pub most_workers : ℕ
most_workers = 16

-- the most shards into which an input is cut
abbrev pub most_shards : ℕ
most_shards = 1024

-- the most partitions into which groups are cut
abbrev pub most_partitions : ℕ
most_partitions = 64

-- the most tries of a task
abbrev pub most_tries : ℕ
most_tries = 8

-- the most attempts that a drill names
abbrev pub most_entries : ℕ
most_entries = 64

-- a number from 1 up to a limit
abbrev pub IsUpTo : ℕ → ℕ → Type 0
IsUpTo limit n = (1 ≤ n) × (n ≤ limit)

-- the attempts that a drill may name: not too many, and none of them twice
pub record IsDrill (entries : List Entry) : Type 0 where
  pub few : length entries ≤ most_entries
  pub differ : AllPairs (λ one other. one ≢ other) entries
