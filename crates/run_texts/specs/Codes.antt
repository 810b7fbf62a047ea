-- Exit statuses.
use Rattle.std.specs.Prelude.{ℕ}
use Rattle.run_texts.specs.declared.status.Status.{Status}
use Rattle.run_texts.specs.declared.status.Status.TheVariants.{Done, Usage, ScriptRefused, InputRefused, Trap, ReadFault, WriteFault, GaveUp, WantOfMemory, TooLong, NoFile, PlanRefused}

-- the exit status of the program for each answer
abbrev pub code_of : Status → ℕ
code_of Done = 0
code_of Usage = 2
code_of (ScriptRefused line kind) = 3
code_of (InputRefused name row column kind) = 4
code_of (Trap origin kind element) = 5
code_of (ReadFault name) = 6
code_of (WriteFault place) = 7
code_of (GaveUp stage phase task) = 8
code_of WantOfMemory = 9
code_of (TooLong name limit) = 10
code_of (NoFile name) = 11
code_of (PlanRefused step kind) = 12
