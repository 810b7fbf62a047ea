-- What hosts have gained since.
use Rattle.std.specs.Prelude.{◌≡◌, ℕ, zero, suc, ◌+◌, ◌-◌, ◌^◌, ◌≤◌, true, ◌⊎◌, List, [], ◌∷◌, ◌++◌, Contains, sum_by}
use Rattle.outside.specs.Accounts.{Account, Gains}
use Rattle.outside.specs.declared.host.At.{At}
use Rattle.crew.specs.declared.drill.Entry.{Entry}

-- the host's losses only rose, and its notes only grew
abbrev pub Grew : Account → Account → Type 0
Grew a b = (passed : List At) × (downs : List At) × Gains a b passed downs

-- where the host tells, these stand side by side in what it has let through since
abbrev pub Passed : Account → Account → List At → Type 0
Passed a b places =
    b.tells ≡ true → (before : List At) × (after : List At)
    × (b.passed ≡ a.passed ++ (before ++ (places ++ after)))

abbrev pub at_place : Entry → ℕ → At
at_place e place = record {
  stage = e.stage;
  phase = e.phase;
  task = e.task;
  attempt = e.attempt;
  place = place;
}

-- the places below n of an attempt, in order
abbrev pub places_below : Entry → ℕ → List At
places_below e zero = []
places_below e (suc n) = places_below e n ++ at_place e n ∷ []

-- where the host tells, it has refused a place of the attempt since
abbrev pub RefusedPlace : Account → Account → Entry → Type 0
RefusedPlace a b e =
    b.tells ≡ true → (before : List At) × (after : List At) × (place : ℕ)
    × (b.downs ≡ a.downs ++ (before ++ (at_place e place ∷ after)))

-- P holds of some host, before and after
abbrev pub SomeHost : (Account → Account → Type 0) → List Account → List Account → Type 0
SomeHost P [] news = ⊥
SomeHost P (a ∷ olds) [] = ⊥
SomeHost P (a ∷ olds) (b ∷ news) = P a b ⊎ SomeHost P olds news

-- The losses of all hosts rose by n at least. A count that stands at its last value has risen by
-- any number.
abbrev pub HaveRisen : ℕ → List Account → List Account → Type 0
HaveRisen n olds news =
    (sum_by (λ a. a.losses) olds + n ≤ sum_by (λ b. b.losses) news)
    ⊎ ((b : Account) × Contains news b × (2 ^ 64 - 1 ≤ b.losses))
