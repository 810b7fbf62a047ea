use Rattle.std.proofs.Common.{◌≡◌, ◌++◌, drop, map}
use Rattle.outside.specs.Saves.{output_file}
use Rattle.run_course.specs.inner.Course.{files_with}
use Rattle.run_course.proofs.running.output_files.Given as goal

abbrev pub invariant-loop-number : goal.invariant-loop-number
invariant-loop-number l =
    map output_file l.files.items
    ++ files_with (drop l.number l.program.script.outputs) (drop l.number l.members)
    ≡ files_with l.program.script.outputs l.members
