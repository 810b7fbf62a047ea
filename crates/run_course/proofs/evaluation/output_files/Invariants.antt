use Rattle.std.proofs.Common.{map, take}
use Rattle.outside.specs.Saves.{output_file}
use Rattle.run_course.specs.inner.Course.{AreFiles}
use Rattle.run_course.proofs.evaluation.output_files.Given as goal

abbrev pub invariant-loop-number : goal.invariant-loop-number
invariant-loop-number l =
    AreFiles l.bags (take l.number l.program.script.outputs) (map output_file l.files.items)
