-- Each answer of `make`: its cause, and what stands afterwards.
use Rattle.std.specs.Prelude.{ℕ, List}
use Rattle.command_words.specs.declared.workload.Workload.{Workload}
use Rattle.outside.specs.Saves.{HasFiles}
use Rattle.outside.specs.Says.{HasLine}
use Rattle.outside.specs.declared.host.Phase.{Phase}
use Rattle.run_course.specs.Answers.{FailsAtFile, HasShown, IsCutOff, IsRefused}
use Rattle.run_course.specs.Outside.{Outside}
use Rattle.run_texts.specs.Lines.{line_of}
use Rattle.run_texts.specs.declared.status.Place.{Place}
use Rattle.run_texts.specs.declared.status.Place.TheVariants.{File, Screen}
use Rattle.run_texts.specs.declared.status.Status.{Status}
use Rattle.run_texts.specs.declared.status.Status.TheVariants.{Done, GaveUp, Usage, ScriptRefused, InputRefused, Trap, ReadFault, WriteFault, WantOfMemory, TooLong, NoFile, PlanRefused}
use Rattle.made_course.specs.Files.{files_for, line_for}
use Rattle.made_course.specs.Runs.{WasGivenUp, WasSummed}

-- Done: both files are whole and ended, the screen has got the line, and each task of the plan of
-- the sums was run
pub record IsDone (w : Workload) (before after : Outside) : Type 0 where
  pub files : HasFiles (files_for w) before.shelf after.shelf
  pub text : HasShown (line_for w) before.screen after.screen
  pub ran : WasSummed w before.hosts after.hosts

-- WriteFault of a file: the sums were worked out, and the shelf failed at the file of this name
pub record IsFileFault (w : Workload) (name : List ℕ) (before after : Outside) : Type 0 where
  pub files : FailsAtFile name (files_for w) before.shelf after.shelf
  pub line : HasLine (line_of (WriteFault (File name))) before.screen after.screen
  pub ran : WasSummed w before.hosts after.hosts

-- WriteFault of the screen: both files are whole and ended, and the screen failed in the line
pub record IsScreenFault (w : Workload) (before after : Outside) : Type 0 where
  pub files : HasFiles (files_for w) before.shelf after.shelf
  pub text : IsCutOff (line_for w) before.screen after.screen
  pub ran : WasSummed w before.hosts after.hosts

abbrev pub IsWriteFault : Workload → Place → Outside → Outside → Type 0
IsWriteFault w (File name) before after = IsFileFault w name before after
IsWriteFault w Screen before after = IsScreenFault w before after

-- GaveUp: a task of the plan of the sums was given up
pub record IsGaveUp (w : Workload) (stage : ℕ) (phase : Phase) (task : ℕ) (before after : Outside)
    : Type 0 where
  pub lost : WasGivenUp w before.hosts after.hosts stage phase task
  pub refused : IsRefused (GaveUp stage phase task) before after

-- what each answer says; there are no others
abbrev pub Answers : Workload → Outside → Outside → Status → Type 0
Answers w before after Done = IsDone w before after
Answers w before after (WriteFault place) = IsWriteFault w place before after
Answers w before after (GaveUp stage phase task) = IsGaveUp w stage phase task before after
Answers w before after WantOfMemory = IsRefused WantOfMemory before after
Answers w before after Usage = ⊥
Answers w before after (ScriptRefused line kind) = ⊥
Answers w before after (InputRefused name row column kind) = ⊥
Answers w before after (Trap origin kind element) = ⊥
Answers w before after (ReadFault name) = ⊥
Answers w before after (TooLong name limit) = ⊥
Answers w before after (NoFile name) = ⊥
Answers w before after (PlanRefused step kind) = ⊥
