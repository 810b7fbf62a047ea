use Rattle.std.proofs.Common.{◌≡◌, ◌∙◌, [], arith, length, refl}
use Rattle.std.proofs.lemmas.Result.{err_from_is_err_and}
use Rattle.outside.proofs.AskLemmas.{asks_none}
use Rattle.script_loading.specs.inner.Reading.{AreRead}
use Rattle.script_loading.proofs.AskLemmas.{reads_more, stops_there}
use Rattle.script_loading.proofs.InputLemmas.{below_all}
use Rattle.script_loading.proofs.reading.read_inputs.Goals as goal

pub loop-number-init : goal.loop-number-init
loop-number-init g c =
    let before = g.R.Source.seen c.args.source.now in
    (refl, omega arith, ([], refl, (c.requires.none, asks_none c.args.tries before)))

pub returns-in_err-read_input-clause-stop : goal.returns-in_err-read_input-clause-stop
returns-in_err-read_input-clause-stop g c =
    let before = g.R.Source.seen c.args.source.now in
    let within = rw c.as_program-held.ensures.is at c.node_count-number-end.ensures in
    let p = err_from_is_err_and c.from_residual.result c.from_residual.ensures.1 in
    rw (p.1, p.2)
    (stops_there c.args.tries c.args.program.now.script c.loop-number.number before
    (g.R.Source.seen c.loop-number.source) (g.R.Source.seen c.read_input.new.source)
    (g.I.Intake.are_of c.loop-number.inputs before.files) c.loop-number.invariant.0
    (rw within at c.loop-number-test.true) c.loop-number.invariant.2 _
    (g.met.I.Intake.have_rows c.loop-number.inputs before.files) c.loop-number.invariant.1
    c.in_err-read_input.ensures.err c.in_err-read_input.ensures.asked)

pub loop-number-preserved : goal.loop-number-preserved
loop-number-preserved g c =
    let before = g.R.Source.seen c.args.source.now in
    let within = rw c.as_program-held.ensures.is at c.node_count-number-end.ensures in (
      c.in_ok-read_input.ensures.files ∙ c.loop-number.invariant.0,
      omega (arith, c.in_ok-read_input.ensures.later, c.loop-number.invariant.1),
      reads_more c.args.tries c.args.program.now.script c.loop-number.number before
          (g.R.Source.seen c.loop-number.source) (g.R.Source.seen c.read_input.new.source)
          (g.I.Intake.are_of c.loop-number.inputs before.files) c.loop-number.invariant.0
          (rw within at c.loop-number-test.true) c.loop-number.invariant.2
          (g.I.Intake.are_of c.read_input.new.inputs before.files)
          (rw c.loop-number.invariant.0 at c.in_ok-read_input.ensures.taken)
          c.in_ok-read_input.ensures.asked,
    )

pub returns-clause-read : goal.returns-clause-read
returns-clause-read g c =
    let script = c.args.program.now.script in
    let before = g.R.Source.seen c.args.source.now in
    let many = rw c.as_program-held.ensures.is at c.node_count-number-end.ensures in
    let end : c.loop-number.number ≡ length script.nodes = omega (
      arith,
      c.loop-number-test.false,
      c.loop-number.auto.number-end,
      many,
    ) in
    below_all
    (AreRead (g.I.Intake.are_of c.loop-number.inputs before.files) c.args.tries before
    (g.R.Source.seen c.loop-number.source)) script c.loop-number.number end
    c.loop-number.invariant.2
