use Rattle.std.proofs.Common.{◌≡◌, drop}
use Rattle.cached_course.specs.inner.Missing.{members_for}
use Rattle.cached_course.proofs.missing.members_for.Given as goal

abbrev pub invariant-loop-place : goal.invariant-loop-place
invariant-loop-place l =
    members_for (drop l.place l.program.script.outputs) (drop l.place l.written) l.number
    ≡ members_for l.program.script.outputs l.written l.number
