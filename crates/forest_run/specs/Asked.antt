-- How an attempt has asked its host.
use Rattle.std.specs.Prelude.{ℕ, Result, Ok, Err}
use Rattle.crew.specs.declared.drill.Entry.{Entry}
use Rattle.crew.specs.declared.attempts.Attempt.{Attempt}
use Rattle.crew.specs.declared.attempts.Attempt.TheVariants.{Made, Down}
use Rattle.crew.specs.Attempts.{Ran, StoppedDown, StoppedEarly}
use Rattle.outside.specs.Accounts.{Account}

-- for all its places, up to one that was refused, or up to want of memory
abbrev pub WasAsked : {O E : Type 0} → Entry → ℕ → Account → Account → Result (Attempt O) E → Type 0
WasAsked e places a b (Ok (Made out)) = Ran e places a b
WasAsked e places a b (Ok Down) = StoppedDown e places a b
WasAsked e places a b (Err fault) = StoppedEarly e places a b
