-- What a call promises.
use Rattle.std.specs.Prelude.{◌≡◌, ℕ, List, Some, None}
use Rattle.command_words.specs.Words.{workload_for}
use Rattle.command_words.specs.declared.workload.Workload.{Workload}
use Rattle.made_course.specs.Makes.{Makes}
use Rattle.made_course.specs.of_run_course.Promises.{ScriptPromises}
use Rattle.made_course.specs.of_run_course.Outside.{Outside}
use Rattle.run_texts.specs.declared.status.Status.{Status}

-- What is so after a call with these words, which found the one world and left the other, and
-- answered so.
pub record Promises (words : List (List ℕ)) (before after : Outside) (status : Status) : Type 0
  where
    -- words of `make`: a made input and its sums are written, or there is a cause
    pub made : (w : Workload) → workload_for words ≡ Some w → Makes w before after status
    -- all other words, which ask for a command on a script, or for nothing
    pub others : workload_for words ≡ None → ScriptPromises words before after status
