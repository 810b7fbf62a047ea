-- Places one after another.
use Rattle.std.proofs.Common.{◌≡◌, ◌+◌, ℕ, [], ◌∷◌, Result, sym, subst, add-one}
use Rattle.crew.specs.declared.attempts.Attempt.{Attempt}
use Rattle.crew.specs.declared.drill.Entry.{Entry}
use Rattle.outside.specs.Accounts.{Account, Gains}
use Rattle.crew.specs.Hosts.{at_place, places_below}
use Rattle.crew.proofs.Accounts.{gains_on, gains_nothing}
use Rattle.forest_run.specs.Asked.{WasAsked}
use Rattle.forest_run.specs.inner.Asking.{LetThrough}

pub let_none : (e : Entry) (a : Account) → LetThrough e 0 a a
let_none e a = gains_nothing a

pub let_more : (e : Entry) (n : ℕ) (a b c : Account) → LetThrough e n a b
    → Gains b c (at_place e n ∷ []) [] → LetThrough e (n + 1) a c
let_more e n a b c l g =
    subst (λ k. LetThrough e k a c) (sym (add-one n))
    (gains_on a b c (places_below e n) (at_place e n ∷ []) [] [] l g)

-- an attempt has asked for so many places, however these are counted
pub asked_at : {O E : Type 0} (e : Entry) (m n : ℕ) (a b : Account) (r : Result (Attempt O) E)
    → m ≡ n → WasAsked e m a b r → WasAsked e n a b r
asked_at e m n a b r is asked = subst (λ (k : ℕ). WasAsked e k a b r) is asked
