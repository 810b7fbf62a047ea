use Rattle.std.proofs.Common.{arith}
use Rattle.kept_results.proofs.AskLemmas.{none_reads, read_here, read_later}
use Rattle.kept_results.proofs.asked.name_read.Goals as goal

pub returns-then-output-number : goal.returns-then-output-number
returns-then-output-number c =
    read_here c.args.program.now.script.outputs c.args.number c.loop-place.place
    c.output-output.result.now c.output-output.ensures c.if-output-number.true
    c.loop-place.invariant

pub loop-place-preserved : goal.loop-place-preserved
loop-place-preserved c =
    read_later c.args.program.now.script.outputs c.args.number c.loop-place.place
    c.output-output.result.now c.output-output.ensures c.if-output-number.false
    c.loop-place.invariant

pub returns : goal.returns
returns c =
    none_reads c.args.program.now.script.outputs c.args.number c.loop-place.place
    (omega (arith, c.loop-place-test.false, c.output_count-place-end.ensures))
    c.loop-place.invariant
