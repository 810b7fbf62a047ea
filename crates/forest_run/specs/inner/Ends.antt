-- How a task ends that has trapped.
use Rattle.std.specs.Prelude.{◌≡◌, ℕ, ◌+◌, ◌≤◌, Result, Ok, Err}
use Rattle.flume_collection.specs.declared.trap.Trap.{Trap}
use Rattle.crew.specs.declared.drill.Entry.{Entry}
use Rattle.crew.specs.declared.attempts.Attempt.{Attempt}
use Rattle.crew.specs.declared.attempts.Attempt.TheVariants.{Made, Down}
use Rattle.crew.specs.Attempts.{StoppedDown}
use Rattle.outside.specs.Accounts.{Account}
use Rattle.forest_run.specs.inner.Asking.{LetThrough}
use Rattle.forest_steps.specs.Running.{Given}

-- after a trap the host has let the places through that were left, or was down
abbrev pub IsRest : Entry → Trap → ℕ → ℕ → Account → Account → Attempt (Result Given Trap) → Type 0
IsRest e trap from to a b (Made (Ok given)) = ⊥
IsRest e trap from to a b (Made (Err t)) =
    (t ≡ trap) × ((z : Account) → LetThrough e from z a → LetThrough e to z b)
IsRest e trap from to a b Down =
    (z : Account) (places : ℕ) → to ≤ places + 1 → LetThrough e from z a → StoppedDown e places z b
