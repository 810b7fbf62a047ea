use Rattle.stage_exec.specs.inner.Reads.{KeepsLater}
use Rattle.stage_exec.proofs.dropping.drop_read.Given as goal

abbrev pub invariant-loop-place : goal.invariant-loop-place
invariant-loop-place l =
    KeepsLater l.later l.outputs l.fn.sources.items l.fn.results.items l.sources.items
    l.results.items
