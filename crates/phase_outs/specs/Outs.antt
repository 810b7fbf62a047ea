-- What a phase comes to, by the numbers of its tasks, where an out may be a trap.
use Rattle.std.specs.Prelude.{◌≡◌, ℕ, ◌+◌, ◌<◌, ◌≤◌, false, List, length, slice_get, slice_index, Some, Result, Ok, Err}
use Rattle.flume_collection.specs.declared.trap.Trap.{Trap}
use Rattle.outside.specs.Accounts.{Account}
use Rattle.crew.specs.Hosts.{Passed, SomeHost, places_below}
use Rattle.crew.specs.Drills.{Settings, attempt_in, is_drilled}
use Rattle.crew.specs.Phases.{IsCut, IsLostTask, IsWork}
use Rattle.phase_outs.specs.declared.made.PhaseOuts.{PhaseOuts}
use Rattle.phase_outs.specs.declared.stop.PhaseStop.{PhaseStop}
use Rattle.phase_outs.specs.declared.stop.PhaseStop.TheVariants as stop

-- the attempt is one of the tries of the task, the drill does not name it, and some host has let
-- all its places through since, where the task has so many beside the one at its start
pub record HasRun (s : Settings) (olds news : List Account) (task places attempt : ℕ)
    : Type 0 where
  pub tries : (0 < attempt) × (attempt ≤ s.tries)
  pub drill : is_drilled s.drill (attempt_in s task attempt) ≡ false
  pub ran : SomeHost (λ a b. Passed a b (places_below (attempt_in s task attempt) (places + 1)))
      olds news

module _ (tasks : ℕ) (s : Settings) {O : Type 0} (is_value : ℕ → Result O Trap → Type 0)
    (places : ℕ → ℕ) (olds news : List Account) where
  -- each task has made its out, and the attempt that is named has run: it has won the task, by the
  -- board of the phase's work
  pub record HaveMadeOuts (made : PhaseOuts O) : Type 0 where
    pub count : (length made.outs.items ≡ tasks) × (length made.attempts.items ≡ tasks)
    pub values : (task : ℕ) (out : O) → slice_get made.outs.items task ≡ Some out →
        is_value task (Ok out)
    pub attempts : (task attempt : ℕ) → slice_get made.attempts.items task ≡ Some attempt →
        HasRun s olds news task (places task) attempt
    pub work : IsWork tasks s places made.attempts.items olds news

  -- the task has made this out or has trapped so, and the attempt that has won it has run
  pub record HasMade (won : List ℕ) (task : ℕ) (out : Result O Trap) : Type 0 where
    pub value : is_value task out
    pub ran : HasRun s olds news task (places task) (slice_index won task)

  -- each smaller task has made an out
  abbrev pub AreMadeBelow : List ℕ → ℕ → Type 0
  AreMadeBelow won task = (k : ℕ) → k < task → (out : O) × HasMade won k (Ok out)

  -- the phase has come to this task: by the work of the phase each task was won by this attempt, or
  -- by none, and each smaller one has made an out
  pub record HasComeTo (task : ℕ) (won : List ℕ) : Type 0 where
    pub is_task : task < tasks
    pub work : IsWork tasks s places won olds news
    pub below : AreMadeBelow won task

  -- the task to which the phase has come has trapped, or no attempt has won it
  abbrev pub IsStop : PhaseStop → Type 0
  IsStop (stop.Trap task trap) =
      (won : List ℕ) × HasComeTo task won × HasMade won task (Err trap)
  IsStop (stop.GaveUp task) =
      (won : List ℕ) × HasComeTo task won × (slice_index won task ≡ 0)
      × IsLostTask tasks s olds news task
  IsStop stop.Memory = IsCut tasks s places olds news
