use Rattle.std.proofs.Common.{map}
use Rattle.outside.specs.Saves.{output_file}
use Rattle.run_course.specs.Lent.{lent}
use Rattle.run_course.proofs.RunLemmas.{as_many, given}
use Rattle.run_course.proofs.running.written_run.Goals as goal

pub write_out-written-requires : goal.write_out-written-requires
write_out-written-requires g c = record {
  count = as_many _ _ _ c.in-Ok.ensures.ran.written;
}

pub returns-in_ok-out-in-Ok-clause-written : goal.returns-in_ok-out-in-Ok-clause-written
returns-in_ok-out-in-Ok-clause-written g c =
    let s = c.args.settings.now in
    let out = c.in_ok-out-in-Ok.out in
    given s c.args.program.now.script c.args.inputs c.args.shown.plan
    (lent s (map g.H.Host.account c.args.hosts.now))
    (lent s (map g.H.Host.account c.ran_through.new.hosts)) c.in-Ok.ran
    c.args.shown.text.items out.screen.items (map output_file out.outputs.items)
    c.in-Ok.ensures.ran (rw c.in_ok-out-in-Ok.was at c.write_out-written.ensures.files)
    (rw c.in_ok-out-in-Ok.was at c.write_out-written.ensures.text)
