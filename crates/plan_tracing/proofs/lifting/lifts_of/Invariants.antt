use Rattle.std.proofs.Common.{◌≡◌, ◌++◌, drop}
use Rattle.plan_tracing.specs.Lists.{lifts_in}
use Rattle.plan_tracing.proofs.lifting.lifts_of.Given as goal

abbrev pub invariant-loop-entry : goal.invariant-loop-entry
invariant-loop-entry l = l.rewrites ++ lifts_in (drop l.entry-index l.nodes) ≡ lifts_in l.nodes
