-- The values that are read, and what they are written as.
use Rattle.std.specs.Prelude.{◌≡◌, ◌≤◌, ℕ, List}
use Rattle.flume_value.specs.declared.value.Value.{Value}
use Rattle.flume_value.specs.Canonical.{canonical}
use Rattle.flume_value.specs.Ranges.{IsHeld}
use Rattle.value_reading.specs.Levels.{levels_of}

-- These are the canonical bytes of the value, which has at most 16 levels and is one that a program
-- can hold.
pub record IsCanonical (v : Value) (bytes : List ℕ) : Type 0 where
  pub bytes_are : bytes ≡ canonical v
  pub levels : levels_of v ≤ 16
  pub held : IsHeld v
