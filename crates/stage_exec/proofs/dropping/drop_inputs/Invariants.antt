use Rattle.stage_exec.specs.inner.Reads.{KeepsLater}
use Rattle.stage_exec.proofs.dropping.drop_inputs.Given as goal

abbrev pub invariant-loop-input : goal.invariant-loop-input
invariant-loop-input l =
    KeepsLater l.later l.outputs l.fn.sources.items l.fn.results.items l.sources.items
    l.results.items
