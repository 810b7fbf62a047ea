-- What a call of `make` promises, from what its answer says.
use Rattle.std.proofs.Common.{◌⊎◌, ◌≡◌, ◌≤◌, ◌+◌, ℕ, false, List, refl, subst, inl, inr, arith}
use Rattle.command_words.specs.declared.workload.Workload.{Workload}
use Rattle.outside.specs.Accounts.{Account}
use Rattle.crew.specs.Hosts.{HaveRisen}
use Rattle.outside.specs.declared.host.Phase.{Phase}
use Rattle.run_course.proofs.GivenUpLemmas.{risen_less}
use Rattle.run_course.proofs.LeftLemmas.{begun_then, left_then, same_begun, same_left}
use Rattle.run_course.specs.Lent.{lent}
use Rattle.run_course.specs.Promises.{IsEnded}
use Rattle.run_course.specs.Outside.{Keeps, Outside}
use Rattle.run_settings.specs.Settings.{standard}
use Rattle.run_texts.specs.declared.status.Place.TheVariants.{File, Screen}
use Rattle.run_texts.specs.declared.status.Status.{Status}
use Rattle.run_texts.specs.declared.status.Status.TheVariants.{Done, GaveUp, WriteFault, WantOfMemory}
use Rattle.made_course.specs.Answers.{Answers}
use Rattle.made_course.specs.Files.{files_for}
use Rattle.made_course.specs.Makes.{CanEndMake, IsMakeAnswer, Makes}
use Rattle.made_course.specs.Runs.{AsksHosts, WasGivenUp}

only : (w : Workload) (before after : Outside) (status : Status) → Answers w before after status
    → IsMakeAnswer status
only w before after Done is = tt
only w before after (WriteFault place) is = tt
only w before after (GaveUp stage phase task) is = tt
only w before after WantOfMemory is = tt
only w before after _ is = absurd is

-- hosts that are down less than twice lose no task
not_given_up : (w : Workload) (olds news : List Account) (stage : ℕ) (phase : Phase) (task : ℕ)
    → WasGivenUp w olds news stage phase task
    → (HaveRisen 2 (lent standard olds) (lent standard news) → ⊥) → ⊥
not_given_up w olds news stage phase task it calm =
    let lost = it.2.lost in
    let counted : 2 ≤ 0 + lost.losses = lost.counted in
    calm (risen_less 2 lost.losses (lent standard olds) (lent standard news) (omega arith)
    lost.risen)

complete : (w : Workload) (before after : Outside) (status : Status) → Answers w before after status
    → CanEndMake before after → (status ≡ WantOfMemory) ⊎ (status ≡ Done)
complete w before after Done is can = inr refl
complete w before after WantOfMemory is can = inl refl
complete w before after (WriteFault (File name)) is can = absurd (can.shelf is.files.4.faults)
complete w before after (WriteFault Screen) is can = absurd (can.screen is.text.faults)
complete w before after (GaveUp stage phase task) is can =
    absurd (not_given_up w before.hosts after.hosts stage phase task is.lost can.hosts)
complete w before after _ is can = absurd is

ended : (w : Workload) (before after : Outside) (status : Status) → before.shelf.begun ≡ false
    → Answers w before after status → IsEnded status after.shelf
ended w before after Done none is =
    begun_then (files_for w) before.shelf after.shelf none is.files.begun
ended w before after WantOfMemory none is = same_begun before.shelf after.shelf none is.shelf
ended w before after (WriteFault (File name)) none is = tt
ended w before after (WriteFault Screen) none is =
    begun_then (files_for w) before.shelf after.shelf none is.files.begun
ended w before after (GaveUp stage phase task) none is =
    same_begun before.shelf after.shelf none is.refused.shelf
ended w before after _ none is = absurd is

left : (w : Workload) (before after : Outside) (status : Status) → before.shelf.begun ≡ false
    → Answers w before after status → after.shelf.left ≡ before.shelf.left
left w before after Done none is =
    left_then (files_for w) before.shelf after.shelf none is.files.left
left w before after WantOfMemory none is = same_left before.shelf after.shelf is.shelf
left w before after (WriteFault (File name)) none is =
    left_then (files_for w) before.shelf after.shelf none is.files.4.left
left w before after (WriteFault Screen) none is =
    left_then (files_for w) before.shelf after.shelf none is.files.left
left w before after (GaveUp stage phase task) none is =
    same_left before.shelf after.shelf is.refused.shelf
left w before after _ none is = absurd is

pub makes : (w : Workload) (before after : Outside) (status : Status)
    → Answers w before after status → Keeps before after → after.source ≡ before.source
    → AsksHosts w before.hosts after.hosts → Makes w before after status
makes w before after status answers kept source hosts =
    let when : (other : Status) → status ≡ other → Answers w before after other
    = λ other is. subst (λ (s : Status). Answers w before after s) is answers in
    record {
      done = when Done;
      gave_up = λ stage phase task. when (GaveUp stage phase task);
      file_fault = λ name. when (WriteFault (File name));
      screen_fault = when (WriteFault Screen);
      no_memory = when WantOfMemory;
      only = only w before after status answers;
      complete = complete w before after status answers;
      source = source;
      asked_hosts = hosts;
      kept = kept;
      ended = λ none. ended w before after status none answers;
      left = λ none. left w before after status none answers;
    }
