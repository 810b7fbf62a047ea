use Rattle.std.proofs.Common.{◌<◌, length, map, ap, ◌∙◌}
use Rattle.std.proofs.lemmas.List.{map-append}
use Rattle.outside.specs.Saves.{output_file}
use Rattle.run_course.proofs.FileLemmas.{more_files}
use Rattle.run_course.proofs.evaluation.output_files.Goals as goal

pub loop-number-preserved : goal.loop-number-preserved
loop-number-preserved c =
    let outputs = c.args.program.now.script.outputs in
    let within : c.loop-number.number < length outputs
    = rw (c.output_count-number-end.ensures, c.as_program-held.ensures.is)
    at c.loop-number-test.true in
    more_files c.args.bags.now outputs c.loop-number.number
    (map output_file c.loop-number.files.items) (map output_file c.push.new.self.items)
    (output_file c.in_ok-output_at.field-0) within c.loop-number.invariant
    c.in_ok-output_at.ensures
    (ap (map output_file) c.in_ok-push.ensures.items
    ∙ map-append output_file c.loop-number.files.items _)
