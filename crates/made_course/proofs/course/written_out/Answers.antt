use Rattle.std.proofs.Common.{◌<◌, ◌∙◌, ap, ap₂, arith, length, subst, sym}
use Rattle.outside.specs.Saves.{output_file}
use Rattle.run_texts.specs.Texts.{made_line}
use Rattle.script_program.specs.Script.{Script}
use Rattle.made_course.proofs.Written.{both_files, sums_file}
use Rattle.made_course.proofs.course.written_out.Goals as goal

pub file_of-requires : goal.file_of-requires
file_of-requires c = record {
  within = subst (λ (script : Script). 0 < length script.outputs) (sym c.requires.script)
      (omega arith);
}

pub returns-clause-files : goal.returns-clause-files
returns-clause-files c =
    both_files c.args.workload c.in_ok-made_file.field-0 c.in_ok-file_of.field-0
    c.new-outputs.result.items c.push.new.self.items c.push-2.new.self.items
    c.new-outputs.ensures.items c.in_ok-push.ensures.items c.in_ok-push-2.ensures.items
    c.in_ok-made_file.ensures
    (sums_file c.args.workload c.args.program.now.script c.as_slice.result.now
    (output_file c.in_ok-file_of.field-0) c.requires.script
    (c.as_slice.ensures ∙ c.requires.sums) c.in_ok-file_of.ensures)

pub returns-clause-line : goal.returns-clause-line
returns-clause-line c =
    c.in_ok-screen.ensures
    ∙ ap₂ (made_line c.args.workload.rows) (c.len.ensures ∙ ap length c.requires.sums)
    c.made_total.ensures
