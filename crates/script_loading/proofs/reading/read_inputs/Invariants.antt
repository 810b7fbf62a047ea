use Rattle.std.proofs.Common.{◌≡◌, ◌≤◌}
use Rattle.script_loading.specs.inner.Reading.{AreRead, HoldsBelow}
use Rattle.script_loading.proofs.reading.read_inputs.Given as goal

abbrev pub invariant-loop-number : goal.invariant-loop-number
invariant-loop-number g l =
    let before = g.R.Source.seen l.fn.source in
    let after = g.R.Source.seen l.source in
    (after.files ≡ before.files) × (before.faults ≤ after.faults)
    × HoldsBelow (AreRead (g.I.Intake.are_of l.inputs before.files) l.tries before after)
    l.program.script l.number
