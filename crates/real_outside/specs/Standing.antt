-- How the real source and shelf stand: nothing of what they hold is seen.
use Rattle.std.specs.Prelude.{ℕ, Bool}

-- whether a file is begun, and how often the source has failed
pub record StandingSource : Type 0 where
  pub begun : Bool
  pub faults : ℕ

-- whether a file is begun, how many were left begun, and how often the shelf has failed
pub record StandingShelf : Type 0 where
  pub begun : Bool
  pub left : ℕ
  pub faults : ℕ
