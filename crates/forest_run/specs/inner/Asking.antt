-- What a host has let through of an attempt.
use Rattle.std.specs.Prelude.{ℕ, []}
use Rattle.crew.specs.declared.drill.Entry.{Entry}
use Rattle.outside.specs.Accounts.{Account, Gains}
use Rattle.crew.specs.Hosts.{places_below}

-- the places below n, in order, and nothing else
abbrev pub LetThrough : Entry → ℕ → Account → Account → Type 0
LetThrough e n a b = Gains a b (places_below e n) []
