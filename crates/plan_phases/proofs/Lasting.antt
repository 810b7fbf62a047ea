-- What hosts have done stays so, whatever they do before and after.
use Rattle.std.proofs.Common.{◌≡◌, ℕ, zero, suc, ◌+◌, ◌-◌, ◌^◌, ◌≤◌, true, inl, inr, ⊎_elim, List, [], ◌∷◌, refl, arith}
use Rattle.std.specs.Prelude.{Contains, sum_by}
use Rattle.std.specs.List.{AllZip}
use Rattle.std.proofs.lemmas.List.Sums.{sum_by-cons}
use Rattle.crew.specs.Drills.{Settings, attempt_in, is_drilled}
use Rattle.outside.specs.Accounts.{Account}
use Rattle.crew.specs.Hosts.{Grew, HaveRisen, RefusedPlace, SomeHost}
use Rattle.crew.specs.Phases.{IsLostTask}
use Rattle.crew.proofs.Accounts.{grew_on, passed_before, passed_later, refused_before}
use Rattle.phase_outs.specs.Outs.{HasRun}

pub all_grew_on : (us vs ws : List Account) → AllZip Grew us vs → AllZip Grew vs ws
    → AllZip Grew us ws
all_grew_on [] [] [] g h = tt
all_grew_on [] [] (w ∷ ws) g h = absurd h
all_grew_on [] (v ∷ vs) ws g h = absurd g
all_grew_on (u ∷ us) [] ws g h = absurd g
all_grew_on (u ∷ us) (v ∷ vs) [] g h = absurd h
all_grew_on (u ∷ us) (v ∷ vs) (w ∷ ws) g h =
    (grew_on u v w g.0 h.0, all_grew_on us vs ws g.1 h.1)

-- ---- of some host

module _ (P : Account → Account → Type 0) where
  some_later : ((a b c : Account) → P a b → Grew b c → P a c) → (us vs ws : List Account)
      → SomeHost P us vs → AllZip Grew vs ws → SomeHost P us ws
  some_later f [] vs ws h g = absurd h
  some_later f (u ∷ us) [] ws h g = absurd h
  some_later f (u ∷ us) (v ∷ vs) [] h g = absurd g
  some_later f (u ∷ us) (v ∷ vs) (w ∷ ws) h g =
      ⊎_elim (λ (p : P u v). inl (f u v w p g.0))
      (λ (q : SomeHost P us vs). inr (some_later f us vs ws q g.1)) h

  some_before : ((a b c : Account) → Grew a b → P b c → Grew b c → P a c)
      → (us vs ws : List Account) → AllZip Grew us vs → SomeHost P vs ws → AllZip Grew vs ws
      → SomeHost P us ws
  some_before f us [] ws g h k = absurd h
  some_before f [] (v ∷ vs) ws g h k = absurd g
  some_before f (u ∷ us) (v ∷ vs) [] g h k = absurd h
  some_before f (u ∷ us) (v ∷ vs) (w ∷ ws) g h k =
      ⊎_elim (λ (p : P v w). inl (f u v w g.0 p k.0))
      (λ (q : SomeHost P vs ws). inr (some_before f us vs ws g.1 q k.1)) h

-- ---- losses

losses_rise : (us vs : List Account) → AllZip Grew us vs
    → sum_by (λ a. a.losses) us ≤ sum_by (λ a. a.losses) vs
losses_rise [] [] g = omega arith
losses_rise [] (v ∷ vs) g = absurd g
losses_rise (u ∷ us) [] g = absurd g
losses_rise (u ∷ us) (v ∷ vs) g =
    let one = g.0.2.later in
    let rest = losses_rise us vs g.1 in
    let a = sum_by-cons (λ (x : Account). x.losses) u us in
    let b = sum_by-cons (λ (x : Account). x.losses) v vs in omega arith

abbrev Full : List Account → Type 0
Full vs = (b : Account) × Contains vs b × (2 ^ 64 - 1 ≤ b.losses)

risen_before : (n : ℕ) (us vs ws : List Account) → AllZip Grew us vs → HaveRisen n vs ws
    → HaveRisen n us ws
risen_before n us vs ws g h =
    ⊎_elim (λ (r : sum_by (λ a. a.losses) vs + n ≤ sum_by (λ b. b.losses) ws).
    let more = losses_rise us vs g in inl (omega arith))
    (λ (f : Full ws). inr f) h

-- ---- attempts

pub run_later : (s : Settings) (us vs ws : List Account) (task places attempt : ℕ)
    → HasRun s us vs task places attempt → AllZip Grew vs ws → HasRun s us ws task places attempt
run_later s us vs ws task places attempt h g = record {
  tries = h.tries;
  drill = h.drill;
  ran = some_later _ (λ a b c p. passed_later a b c _ p) us vs ws h.ran g;
}

pub run_before : (s : Settings) (us vs ws : List Account) (task places attempt : ℕ)
    → AllZip Grew us vs → HasRun s vs ws task places attempt → AllZip Grew vs ws
    → HasRun s us ws task places attempt
run_before s us vs ws task places attempt g h k = record {
  tries = h.tries;
  drill = h.drill;
  ran = some_before _ (λ a b c f p. passed_before a b c _ f p) us vs ws g h.ran k;
}

pub lost_before : (tasks : ℕ) (s : Settings) (us vs ws : List Account) (task : ℕ)
    → AllZip Grew us vs → IsLostTask tasks s vs ws task → AllZip Grew vs ws
    → IsLostTask tasks s us ws task
lost_before tasks s us vs ws task g h k = record {
  losses = h.losses;
  risen = risen_before h.losses us vs ws g h.risen;
  counted = h.counted;
  told = λ attempt some few.
      ⊎_elim (λ (d : is_drilled s.drill (attempt_in s task attempt) ≡ true). inl d)
      (λ (r : SomeHost (λ a b. RefusedPlace a b (attempt_in s task attempt)) vs ws).
      inr (some_before (λ a b. RefusedPlace a b (attempt_in s task attempt))
      (λ a b c f p. refused_before a b c (attempt_in s task attempt) f p) us vs ws g r k))
      (h.told attempt some few);
}
