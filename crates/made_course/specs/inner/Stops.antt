-- What the run of the script of the sums comes to, and why `make` writes nothing.
use Rattle.std.specs.Prelude.{◌≡◌, List, [], ◌∷◌, Result, Ok, Err, ⊤}
use Rattle.command_words.specs.declared.workload.Workload.{Workload}
use Rattle.outside.specs.Accounts.{Account}
use Rattle.plan_phases.specs.declared.fault.RunFault.{RunFault}
use Rattle.plan_phases.specs.declared.fault.RunFault.TheVariants as fault
use Rattle.run_texts.specs.declared.status.Status.{Status}
use Rattle.run_texts.specs.declared.status.Status.TheVariants.{GaveUp, WantOfMemory}
use Rattle.run_course.specs.of_script_run.declared.run.Ran.{Ran}
use Rattle.made_course.specs.Files.{sums_for}
use Rattle.made_course.specs.Runs.{WasGivenUp, WasSummed}

-- the run over the rows of a workload writes the sums, and each task of it was run; or one was
-- given up, or no memory was found; it never traps
abbrev pub ComesTo : Workload → List Account → List Account → Result Ran RunFault → Type 0
ComesTo w olds news (Ok it) = (it.outputs.items ≡ sums_for w ∷ []) × WasSummed w olds news
ComesTo w olds news (Err (fault.GaveUp stage phase task)) =
    WasGivenUp w olds news stage phase task
ComesTo w olds news (Err fault.Memory) = ⊤
ComesTo w olds news (Err (fault.Trap trap)) = ⊥

-- no memory was found, or a task of the plan of the sums was given up
abbrev pub IsStop : Workload → List Account → List Account → Status → Type 0
IsStop w olds news WantOfMemory = ⊤
IsStop w olds news (GaveUp stage phase task) = WasGivenUp w olds news stage phase task
IsStop w olds news _ = ⊥
