use Rattle.std.proofs.Common.{◌≡◌, take}
use Rattle.statement_law.specs.Outlined.{outlines_of}
use Rattle.keyed_loading.proofs.script.outlines_of.Given as goal

abbrev pub invariant-loop-statement : goal.invariant-loop-statement
invariant-loop-statement l = l.outlines ≡ outlines_of (take l.statement-index l.statements)
