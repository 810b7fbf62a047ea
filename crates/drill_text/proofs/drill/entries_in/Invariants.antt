use Rattle.std.proofs.Common.{◌≡◌, Some, map}
use Rattle.drill_text.specs.Drills as spec
use Rattle.drill_text.proofs.drill.entries_in.Given as goal

-- the parts so far name the entries so far
abbrev pub invariant-loop-part : goal.invariant-loop-part
invariant-loop-part l = spec.entries_in (map (λ part. part.now) l.yielded) ≡ Some l.entries
