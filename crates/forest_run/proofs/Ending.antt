-- How a task ends.
use Rattle.std.proofs.Common.{◌≡◌, ◌<◌, ◌^◌, ℕ, List, map, Some, sym, ap, ◌∙◌}
use Rattle.std.specs.Prelude.{IfOk, OnErr, Result, Ok, Err}
use Rattle.flume_value.specs.declared.value.Value.{Value}
use Rattle.exec_graph.specs.Forests.{Branch, Forest, next_after, grown, numbered}
use Rattle.exec_graph.specs.World.{World}
use Rattle.crew.specs.declared.drill.Entry.{Entry}
use Rattle.crew.specs.declared.attempts.Attempt.{Attempt}
use Rattle.crew.specs.declared.attempts.Attempt.TheVariants.{Made, Down}
use Rattle.crew.specs.Attempts.{MadeHas, MatchAttempt, Ran, StoppedDown, StoppedEarly}
use Rattle.outside.specs.Accounts.{Account}
use Rattle.forest_steps.specs.Fresh.{none_given}
use Rattle.forest_steps.specs.Places.{outputs_in, sizes_in}
use Rattle.forest_steps.specs.Running.{Given, Run, run, run_each}
use Rattle.forest_steps.specs.Turns.{in_turn}
use Rattle.forest_steps.proofs.Visiting.{in_turn_each}
use Rattle.forest_courses.specs.Courses.{IsCourse}
use Rattle.forest_courses.proofs.Coursing.{either_course}
use Rattle.forest_run.specs.Asked.{WasAsked}

-- ---- what a walk comes to by the steps of a forest
module _ (w : World) (f : Forest) (bs : List Branch) (sizes : List ℕ) (start : Given)
    (grows : grown bs ≡ f) (is : numbered 0 f ≡ f) (few : outputs_in f < 2 ^ 64)
    (sized : sizes ≡ sizes_in f) (fresh : start ≡ none_given (next_after 0 f) (outputs_in f)) where
  walked_course : (xs : List Value) (end : Run)
      → in_turn (map (run w sizes 0 (grown bs)) xs) start ≡ end → IsCourse w (Some f) xs end
  walked_course xs end e =
      either_course w f xs sizes start end is few sized fresh
      (ap (λ g. run_each (run w sizes 0 g) xs start) (sym grows)
      ∙ sym (in_turn_each (run w sizes 0 (grown bs)) xs start) ∙ e)

  pub gone_course : {E : Type 0} (xs : List Value) (r : Result Run E)
      → IfOk r (λ end. in_turn (map (run w sizes 0 (grown bs)) xs) start ≡ end)
      → IfOk r (IsCourse w (Some f) xs)
  gone_course xs (Ok end) e = walked_course xs end e
  gone_course xs (Err fault) e = tt

  pub walked_courses : {E : Type 0} (xs : List Value) (r : Result (Attempt Run) E)
      → IfOk r (MadeHas (λ end. in_turn (map (run w sizes 0 (grown bs)) xs) start ≡ end))
      → IfOk r (MadeHas (IsCourse w (Some f) xs))
  walked_courses xs (Ok (Made end)) e = walked_course xs end e
  walked_courses xs (Ok Down) e = tt
  walked_courses xs (Err fault) e = tt

-- ---- how an attempt asked its host, for both ends of it
module _ {O E : Type 0} (e : Entry) (places : ℕ) (a b : Account) where
  pub asked_ran : (r : Result (Attempt O) E) → WasAsked e places a b r
      → IfOk r (λ m. MatchAttempt m (Ran e places a b) (StoppedDown e places a b))
  asked_ran (Ok (Made out)) h = h
  asked_ran (Ok Down) h = h
  asked_ran (Err fault) h = tt

  pub asked_early : (r : Result (Attempt O) E) → WasAsked e places a b r
      → OnErr r (StoppedEarly e places a b)
  asked_early (Ok m) h = tt
  asked_early (Err fault) h = h
