use Rattle.std.proofs.Common.{sym, subst}
use Rattle.std.specs.Prelude.{IsUtf8}
use Rattle.run_course.proofs.FileLemmas.{name_ready}
use Rattle.run_course.proofs.files.file_of.Goals as goal

pub unreachable-requires : goal.unreachable-requires
unreachable-requires c =
    c.in_default.ensures.cases.0
    (subst IsUtf8 (sym c.as_bytes.ensures)
    (name_ready c.as_program-held.result.now.script c.args.number _
    c.as_program-held.ensures.ready c.output_file.ensures))
