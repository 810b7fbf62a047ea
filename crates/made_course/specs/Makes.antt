-- What a call of `make` promises.
use Rattle.std.specs.Prelude.{◌≡◌, ◌⊎◌, ℕ, false, List, ⊤}
use Rattle.command_words.specs.declared.workload.Workload.{Workload}
use Rattle.crew.specs.Hosts.{HaveRisen}
use Rattle.outside.specs.Cause.{Rose}
use Rattle.outside.specs.declared.host.Phase.{Phase}
use Rattle.run_course.specs.Answers.{IsRefused}
use Rattle.run_course.specs.Lent.{lent}
use Rattle.run_course.specs.Promises.{IsEnded}
use Rattle.run_course.specs.Outside.{Keeps, Outside}
use Rattle.run_settings.specs.Settings.{standard}
use Rattle.run_texts.specs.declared.status.Place.TheVariants.{File, Screen}
use Rattle.run_texts.specs.declared.status.Status.{Status}
use Rattle.run_texts.specs.declared.status.Status.TheVariants.{Done, GaveUp, WriteFault, WantOfMemory}
use Rattle.made_course.specs.Answers.{IsDone, IsFileFault, IsGaveUp, IsScreenFault}
use Rattle.made_course.specs.Runs.{AsksHosts}

-- the answers that there are
abbrev pub IsMakeAnswer : Status → Type 0
IsMakeAnswer Done = ⊤
IsMakeAnswer (WriteFault place) = ⊤
IsMakeAnswer (GaveUp stage phase task) = ⊤
IsMakeAnswer WantOfMemory = ⊤
IsMakeAnswer status = ⊥

-- neither the shelf nor the screen fails, and the lent hosts are down less than twice
pub record CanEndMake (before after : Outside) : Type 0 where
  pub shelf : Rose before.shelf.faults after.shelf.faults → ⊥
  pub screen : Rose before.screen.faults after.screen.faults → ⊥
  pub hosts : HaveRisen 2 (lent standard before.hosts) (lent standard after.hosts) → ⊥

-- What is so after a call that was to make this workload, which found the one world and left the
-- other, and answered so.
pub record Makes (w : Workload) (before after : Outside) (status : Status) : Type 0 where
  -- both files are whole, ended and right, and so is the line of the screen
  pub done : status ≡ Done → IsDone w before after
  -- the cause of each other answer, want of memory aside, and what stands after it
  pub gave_up : (stage : ℕ) (phase : Phase) (task : ℕ) → status ≡ GaveUp stage phase task →
      IsGaveUp w stage phase task before after
  pub file_fault : (name : List ℕ) → status ≡ WriteFault (File name) →
      IsFileFault w name before after
  pub screen_fault : status ≡ WriteFault Screen → IsScreenFault w before after
  pub no_memory : status ≡ WantOfMemory → IsRefused WantOfMemory before after
  -- there is no other answer
  pub only : IsMakeAnswer status
  -- where nothing fails twice it is done, or no memory was found
  pub complete : CanEndMake before after → (status ≡ WantOfMemory) ⊎ (status ≡ Done)
  -- the source is asked for nothing
  pub source : after.source ≡ before.source
  -- what hosts were asked for: nothing, or some front of the phases of the plan of the sums
  pub asked_hosts : AsksHosts w before.hosts after.hosts
  -- no count of failures falls, and what hosts tell only grows
  pub kept : Keeps before after
  -- no file is left begun
  pub ended : before.shelf.begun ≡ false → IsEnded status after.shelf
  pub left : before.shelf.begun ≡ false → after.shelf.left ≡ before.shelf.left
