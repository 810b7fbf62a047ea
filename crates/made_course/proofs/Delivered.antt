-- What stands after the writing of the files and the line.
use Rattle.std.proofs.Common.{◌≡◌, ℕ, List, subst}
use Rattle.command_words.specs.declared.workload.Workload.{Workload}
use Rattle.outside.specs.Says.{HasLine}
use Rattle.outside.specs.declared.file.File.{File as NamedBytes}
use Rattle.run_course.specs.Outside.{Outside}
use Rattle.run_course.specs.inner.Course.{Delivers}
use Rattle.run_texts.specs.Lines.{line_of}
use Rattle.run_texts.specs.declared.status.Place.TheVariants.{File, Screen}
use Rattle.run_texts.specs.declared.status.Status.{Status}
use Rattle.run_texts.specs.declared.status.Status.TheVariants.{Done, GaveUp, WriteFault, WantOfMemory}
use Rattle.made_course.specs.Answers.{Answers}
use Rattle.made_course.specs.Files.{files_for, line_for}
use Rattle.made_course.specs.Runs.{WasSummed}
use Rattle.made_course.specs.inner.Stops.{IsStop}

by_status : (w : Workload) (before after : Outside) (status : Status)
    → WasSummed w before.hosts after.hosts
    → Delivers (files_for w) (line_for w) before.shelf after.shelf before.screen after.screen status
    → Answers w before after status
by_status w before after Done ran is = record { files = is.0; text = is.1; ran = ran }
by_status w before after (WriteFault (File name)) ran is =
    record { files = is.0; line = is.1; ran = ran }
by_status w before after (WriteFault Screen) ran is =
    record { files = is.0; text = is.1; ran = ran }
by_status w before after _ ran is = absurd is

-- the files and the line that were written are those of the workload
pub delivered : (w : Workload) (before after : Outside) (files : List NamedBytes) (text : List ℕ)
    (status : Status) → files ≡ files_for w → text ≡ line_for w
    → WasSummed w before.hosts after.hosts
    → Delivers files text before.shelf after.shelf before.screen after.screen status
    → Answers w before after status
delivered w before after files text status are shown ran is =
    by_status w before after status ran
    (subst (λ (t : List ℕ). Delivers (files_for w) t before.shelf after.shelf before.screen
    after.screen status) shown
    (subst (λ (l : List NamedBytes). Delivers l text before.shelf after.shelf before.screen
    after.screen status) are is))

-- ---- where nothing is written

-- a refusal leaves the shelf, and its line
pub stopped : (w : Workload) (before after : Outside) (status : Status)
    → IsStop w before.hosts after.hosts status → after.shelf ≡ before.shelf
    → HasLine (line_of status) before.screen after.screen → Answers w before after status
stopped w before after WantOfMemory is same line = record { shelf = same; line = line }
stopped w before after (GaveUp stage phase task) is same line =
    record { lost = is; refused = record { shelf = same; line = line } }
stopped w before after _ is same line = absurd is
