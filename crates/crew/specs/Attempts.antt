-- What an attempt on a host comes to.
use Rattle.std.specs.Prelude.{ℕ, ◌+◌, ◌≤◌, [], ◌∷◌, ⊤}
use Rattle.outside.specs.Cause.{RoseBy}
use Rattle.crew.specs.declared.drill.Entry.{Entry}
use Rattle.crew.specs.declared.attempts.Attempt.{Attempt}
use Rattle.crew.specs.declared.attempts.Attempt.TheVariants.{Made, Down}
use Rattle.outside.specs.Accounts.{Account, Gains}
use Rattle.crew.specs.Hosts.{at_place, places_below}

abbrev pub MatchAttempt : {O : Type 0} → Attempt O → Type 0 → Type 0 → Type 0
MatchAttempt (Made out) P Q = P
MatchAttempt Down P Q = Q

-- the out that was made, where one was, has P
abbrev pub MadeHas : {O : Type 0} → (O → Type 0) → Attempt O → Type 0
MadeHas P (Made out) = P out
MadeHas P Down = ⊤

-- the host has let all places through, in order
abbrev pub Ran : Entry → ℕ → Account → Account → Type 0
Ran e places a b = Gains a b (places_below e (places + 1)) []

-- the host has let some places through, in order, and has refused the next
pub record StoppedDown (e : Entry) (places : ℕ) (a b : Account) : Type 0 where
  pub place : ℕ
  pub within : place ≤ places
  pub gains : Gains a b (places_below e place) (at_place e place ∷ [])
  pub lost : RoseBy 1 a.losses b.losses

-- the host has let some places through, in order
pub record StoppedEarly (e : Entry) (places : ℕ) (a b : Account) : Type 0 where
  pub place : ℕ
  pub within : place ≤ places + 1
  pub gains : Gains a b (places_below e place) []
